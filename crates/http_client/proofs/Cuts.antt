-- What bytes begin with stays as more of them come, and is one.
use Rattle.std.proofs.Common.{◌≡◌, ℕ, ◌+◌, ◌-◌, List, [], ◌++◌, length, take, Some, None, ap, sym, ◌∙◌, subst, arith, append_assoc, append-nil, length-append, inl, inr}
use Rattle.std.proofs.Math.Seq.{take-append-add}
use Rattle.std.proofs.lemmas.Bool.{cases_lt}
use Rattle.std.proofs.lemmas.List.{take-append-le, take_all}
use Rattle.httparse.specs.Grammar.{ResponseHead, print_response, ReadsResponse, HasNoResponse, NeverHasResponse}
use Rattle.httparse.specs.Spans.{ResponseExceeds, ResponseOverflows}
use Rattle.httparse.proofs.GrammarLemmas.{response_unique, ReadsResponse-append}
use Rattle.http_framing.specs.Request.{head_limit, header_limit}
use Rattle.http_framing.specs.Refusal.{head_window}
use Rattle.http_framing.proofs.Heads.{head_window-short}
use Rattle.http_client.specs.Response.{Response, BeginsWithHead, BeginsWithResponse, HasManyHeaders, IsUnfinished, IsUnreadable, headers_of, told_length}

-- the first bytes of a longer input begin with those of the shorter
take-append : (n : ℕ) (xs ys : List ℕ) → (rest : List ℕ) × (take n (xs ++ ys) ≡ take n xs ++ rest)
take-append n xs ys = elim (cases_lt (length xs) n) [
  | inl short ↦ let sum : length xs + (n - length xs) ≡ n = omega arith in
      let whole = take_all n xs (omega arith) in (
        take (n - length xs) ys,
        subst (λ (k : ℕ). take k (xs ++ ys) ≡ xs ++ take (n - length xs) ys) sum (take-append-add xs ys (n - length xs))
            ∙ ap (λ (front : List ℕ). front ++ take (n - length xs) ys) (sym whole),
      )
  | inr long ↦ ([], take-append-le n xs ys long ∙ sym (append-nil (take n xs)))
]

-- ---- more bytes

BeginsWithHead-append : (bytes : List ℕ) (head : ResponseHead) (after more : List ℕ)
    → BeginsWithHead bytes head after → BeginsWithHead (bytes ++ more) head (after ++ more)
BeginsWithHead-append bytes head after more begins = record {
  reads = ReadsResponse-append bytes head after more begins.reads;
  size = begins.size;
  headers = begins.headers;
}

pub BeginsWithResponse-append : (bytes more : List ℕ) (response : Response) (rest : List ℕ)
    → BeginsWithResponse bytes response rest → BeginsWithResponse (bytes ++ more) response (rest ++ more)
BeginsWithResponse-append bytes more response rest (head, begins, answered) =
    let P : List ℕ → Type 0 = BeginsWithHead (bytes ++ more) head in
    (head, subst P (append_assoc response.body rest more) (BeginsWithHead-append bytes head (response.body ++ rest) more begins), answered)

NeverHasResponse-append : (bytes more : List ℕ) → NeverHasResponse bytes → NeverHasResponse (bytes ++ more)
NeverHasResponse-append bytes more never further =
    subst HasNoResponse (sym (append_assoc bytes more further)) (never (more ++ further))

ResponseExceeds-append : (room : ℕ) (bytes more : List ℕ) → ResponseExceeds room bytes → ResponseExceeds room (bytes ++ more)
ResponseExceeds-append room bytes more (front, rest, parts, head, reads, many) =
    (front, rest ++ more, ap (λ (x : List ℕ). x ++ more) parts ∙ append_assoc front rest more, head, reads, many)

ResponseOverflows-append : (room : ℕ) (bytes more : List ℕ) → ResponseOverflows room bytes → ResponseOverflows room (bytes ++ more)
ResponseOverflows-append room bytes more overflows further head rest reads =
    let P : List ℕ → Type 0 = λ x. ReadsResponse x head rest in
    overflows (more ++ further) head rest (subst P (append_assoc bytes more further) reads)

pub HasManyHeaders-append : (bytes more : List ℕ) → HasManyHeaders bytes → HasManyHeaders (bytes ++ more)
HasManyHeaders-append bytes more many =
    let window = take-append head_limit bytes more in
    let P : List ℕ → Type 0 = ResponseExceeds header_limit in
    let Q : List ℕ → Type 0 = ResponseOverflows header_limit in
    record {
      exceeds = subst P (sym window.1) (ResponseExceeds-append header_limit (head_window bytes) window.0 many.exceeds);
      overflows = subst Q (sym window.1) (ResponseOverflows-append header_limit (head_window bytes) window.0 many.overflows);
    }

pub IsUnreadable-append : (bytes more : List ℕ) → IsUnreadable bytes → IsUnreadable (bytes ++ more)
IsUnreadable-append bytes more (inl never) =
    let window = take-append head_limit bytes more in
    inl (subst NeverHasResponse (sym window.1) (NeverHasResponse-append (head_window bytes) window.0 never))
IsUnreadable-append bytes more (inr (inl (inl many))) = inr (inl (inl (HasManyHeaders-append bytes more many)))
IsUnreadable-append bytes more (inr (inl (inr (full, none)))) =
    let same : head_window bytes ≡ head_window (bytes ++ more) = sym (take-append-le head_limit bytes more full) in
    inr (inl (inr (omega (arith, length-append bytes more), subst HasNoResponse same none)))
IsUnreadable-append bytes more (inr (inr (head, after, begins, none))) =
    inr (inr (head, after ++ more, BeginsWithHead-append bytes head after more begins, none))

-- ---- one reading

-- a head that keeps the limits is in the first bytes
head_in_window : (bytes : List ℕ) (head : ResponseHead) (after : List ℕ) → BeginsWithHead bytes head after
    → (rest : List ℕ) × ReadsResponse (head_window bytes) head rest
head_in_window bytes head after begins =
    let left : ℕ = head_limit - length (print_response head) in
    let fits : length (print_response head) + left ≡ head_limit = omega (arith, begins.size) in
    let P : ℕ → Type 0 = λ n. take n (print_response head ++ after) ≡ print_response head ++ take left after in
    (take left after, (begins.reads.0, ap (take head_limit) begins.reads.1 ∙ subst P fits (take-append-add (print_response head) after left)))

-- bytes that begin with a head that gives a length are not unreadable
head_is_readable : (bytes : List ℕ) (head : ResponseHead) (after : List ℕ) (len : ℕ) → BeginsWithHead bytes head after
    → told_length (headers_of head) ≡ Some len → IsUnreadable bytes → ⊥
head_is_readable bytes head after len begins told (inl never) =
    let inner = head_in_window bytes head after begins in
    never [] head _ (ReadsResponse-append _ head inner.0 [] inner.1)
head_is_readable bytes head after len begins told (inr (inl (inl many))) =
    let inner = head_in_window bytes head after begins in
    absurd (omega (arith, many.overflows [] head _ (ReadsResponse-append _ head inner.0 [] inner.1), begins.headers))
head_is_readable bytes head after len begins told (inr (inl (inr (full, none)))) =
    let inner = head_in_window bytes head after begins in none head inner.0 inner.1
head_is_readable bytes head after len begins told (inr (inr (other, rest, starts, none))) =
    let same = response_unique bytes head other after rest begins.reads starts.reads in
    let both : Some len ≡ None = sym told ∙ ap (λ (h : ResponseHead). told_length (headers_of h)) same.0 ∙ none in
    absurd (cc)

pub unreadable-no_response : (bytes : List ℕ) (response : Response) (rest : List ℕ) → IsUnreadable bytes → BeginsWithResponse bytes response rest → ⊥
unreadable-no_response bytes response rest unreadable (head, begins, answered) =
    head_is_readable bytes head (response.body ++ rest) (length response.body) begins answered.body unreadable

-- a part of a response is unreadable only for its headers
pub unfinished-unreadable : (bytes : List ℕ) → IsUnfinished bytes → IsUnreadable bytes → HasManyHeaders bytes
unfinished-unreadable bytes (inr (head, after, len, begins, told, short)) unreadable =
    absurd (head_is_readable bytes head after len begins told unreadable)
unfinished-unreadable bytes (inl (short, none, (more, head, reads))) (inl never) =
    let P : List ℕ → Type 0 = λ x. NeverHasResponse x in
    absurd (subst P (head_window-short bytes short) never more head [] reads)
unfinished-unreadable bytes (inl (short, none, may)) (inr (inl (inl many))) = many
unfinished-unreadable bytes (inl (short, none, may)) (inr (inl (inr (full, nothing)))) = absurd (omega (arith, short, full))
unfinished-unreadable bytes (inl (short, none, may)) (inr (inr (head, after, begins, told))) = absurd (none head after begins.reads)
