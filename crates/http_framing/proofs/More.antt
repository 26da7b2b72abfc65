-- What an input begins with stays there when more bytes have come, and one more item is read.
use Rattle.std.proofs.Common.{◌≡◌, ℕ, ◌+◌, ◌-◌, List, [], ◌∷◌, ◌++◌, length, take, drop, refl, ap, sym, ◌∙◌, subst, arith, append_assoc, length-append, inl, inr}
use Rattle.std.specs.Prelude.{IsFalse}
use Rattle.std.proofs.Math.Seq.{take-append-add, take-append_seam}
use Rattle.std.proofs.lemmas.Bool.{cases_lt}
use Rattle.std.proofs.lemmas.List.{take-append-le, take-append-drop, take_all, append-nil}
use Rattle.std.proofs.lemmas.List.Elements.{All-head, All-tail}
use Rattle.httparse.specs.Grammar.{lf, print_end, RequestHead, ReadsRequest, HasNoRequest, NeverHasRequest, MayBecomeRequest, EndsInTarget}
use Rattle.httparse.specs.Spans.{RequestExceeds}
use Rattle.httparse.proofs.GrammarLemmas.{ReadsRequest-append}
use Rattle.http_framing.proofs.InTarget.{past_target-append}
use Rattle.http_framing.specs.Request.{head_limit, header_limit, Request, BeginsWithHead, BeginsWithRequest}
use Rattle.http_framing.specs.Refusal.{head_window, HasLargeHead, HasBadBody, IsRefused}
use Rattle.http_framing.specs.Input.{Item, Requested, Refused, closes_connection, Begins, Splits, AreOpen}
use Rattle.http_framing.specs.declared.FramingFault.{FramingFault}
use Rattle.http_framing.specs.declared.FramingFault.TheVariants.{Head, LargeHead, TransferEncoding, ContentLength, LargeBody}

-- the first bytes of a longer input begin with those of the shorter
take-append : (n : ℕ) (xs ys : List ℕ) → (rest : List ℕ) × (take n (xs ++ ys) ≡ take n xs ++ rest)
take-append n xs ys = elim (cases_lt (length xs) n) [
  | inl short ↦ let sum : length xs + (n - length xs) ≡ n = omega arith in
      let whole = take_all n xs (omega arith) in (
        take (n - length xs) ys,
        subst (λ (k : ℕ). take k (xs ++ ys) ≡ xs ++ take (n - length xs) ys) sum (take-append-add xs ys (n - length xs))
            ∙ ap (λ (front : List ℕ). front ++ take (n - length xs) ys) (sym whole),
      )
  | inr long ↦ ([], take-append-le n xs ys long ∙ sym (append-nil (take n xs)))
]

-- ---- heads and requests

pub BeginsWithHead-append : (bytes : List ℕ) (head : RequestHead) (after more : List ℕ)
    → BeginsWithHead bytes head after → BeginsWithHead (bytes ++ more) head (after ++ more)
BeginsWithHead-append bytes head after more begins = record {
  reads = ReadsRequest-append bytes head after more begins.reads;
  size = begins.size;
  headers = begins.headers;
}

pub BeginsWithRequest-append : (bytes : List ℕ) (request : Request) (after more : List ℕ)
    → BeginsWithRequest bytes request after → BeginsWithRequest (bytes ++ more) request (after ++ more)
BeginsWithRequest-append bytes request after more (head, begins, asked) =
    let P : List ℕ → Type 0 = BeginsWithHead (bytes ++ more) head in
    (head, subst P (append_assoc request.body after more) (BeginsWithHead-append bytes head (request.body ++ after) more begins), asked)

-- ---- refusals

pub NeverHasRequest-append : (bytes more : List ℕ) → NeverHasRequest bytes → NeverHasRequest (bytes ++ more)
NeverHasRequest-append bytes more never further =
    subst HasNoRequest (sym (append_assoc bytes more further)) (never (more ++ further))

pub RequestExceeds-append : (room : ℕ) (bytes more : List ℕ) → RequestExceeds room bytes → RequestExceeds room (bytes ++ more)
RequestExceeds-append room bytes more (front, rest, parts, head, reads, many) =
    (front, rest ++ more, ap (λ (x : List ℕ). x ++ more) parts ∙ append_assoc front rest more, head, reads, many)

-- bytes that no head begins, and that have not too many headers, never get too many
few_headers-append : (bytes more : List ℕ) → NeverHasRequest bytes → ¬ (RequestExceeds header_limit bytes) → ¬ (RequestExceeds header_limit (bytes ++ more))
few_headers-append bytes more never few (front, rest, parts, head, reads, many) = elim (cases_lt (length front) (length bytes)) [
  | inl within ↦
      let beginning : take (length front) bytes ≡ front =
      sym (take-append-le (length front) bytes more (omega arith)) ∙ ap (take (length front)) parts ∙ take-append_seam front rest in
      let whole : bytes ≡ front ++ drop (length front) bytes =
      sym (take-append-drop (length front) bytes) ∙ ap (λ (x : List ℕ). x ++ drop (length front) bytes) beginning in
      few (front, drop (length front) bytes, whole, head, reads, many)
  | inr beyond ↦
      let beginning : bytes ≡ take (length bytes) front =
      sym (take-append_seam bytes more) ∙ ap (take (length bytes)) parts ∙ take-append-le (length bytes) front rest beyond in
      let left : List ℕ = drop (length bytes) front in
      let whole : front ≡ bytes ++ left =
      sym (take-append-drop (length bytes) front) ∙ ap (λ (x : List ℕ). x ++ left) (sym beginning) in
      let P : List ℕ → Type 0 = λ x. ReadsRequest x head [] in
      never (left ++ print_end lf) head []
      (subst P (ap (λ (x : List ℕ). x ++ print_end lf) whole ∙ append_assoc bytes left (print_end lf)) reads)
]

HasLargeHead-append : (bytes more : List ℕ) → HasLargeHead bytes → HasLargeHead (bytes ++ more)
HasLargeHead-append bytes more (inl (full, none, may)) =
    let same : head_window bytes ≡ head_window (bytes ++ more) = sym (take-append-le head_limit bytes more full) in
    inl (omega (arith, length-append bytes more), subst HasNoRequest same none, subst MayBecomeRequest same may)
HasLargeHead-append bytes more (inr exceeds) =
    let window = take-append head_limit bytes more in
    let P : List ℕ → Type 0 = RequestExceeds header_limit in
    inr (subst P (sym window.1) (RequestExceeds-append header_limit (head_window bytes) window.0 exceeds))

HasBadBody-append : (bytes more : List ℕ) (fault : FramingFault) → HasBadBody bytes fault → HasBadBody (bytes ++ more) fault
HasBadBody-append bytes more fault (head, after, begins, bad) = (head, after ++ more, BeginsWithHead-append bytes head after more begins, bad)

pub IsRefused-append : (bytes more : List ℕ) (fault : FramingFault) → IsRefused bytes fault → IsRefused (bytes ++ more) fault
IsRefused-append bytes more Head (never, past, few) =
    let window = take-append head_limit bytes more in
    let P : List ℕ → Type 0 = λ x. ¬ (RequestExceeds header_limit x) in
    let Q : List ℕ → Type 0 = λ x. ¬ (EndsInTarget x) in (
      subst NeverHasRequest (sym window.1) (NeverHasRequest-append (head_window bytes) window.0 never),
      subst Q (sym window.1) (past_target-append (head_window bytes) window.0 never past),
      subst P (sym window.1) (few_headers-append (head_window bytes) window.0 never few),
    )
IsRefused-append bytes more LargeHead large = HasLargeHead-append bytes more large
IsRefused-append bytes more TransferEncoding bad = HasBadBody-append bytes more TransferEncoding bad
IsRefused-append bytes more ContentLength bad = HasBadBody-append bytes more ContentLength bad
IsRefused-append bytes more LargeBody bad = HasBadBody-append bytes more LargeBody bad

-- ---- readings

abbrev pub IsOpen : Item → Type 0
IsOpen item = IsFalse (closes_connection item)

pub Splits-append : (bytes more : List ℕ) (items : List Item) (rest : List ℕ) → AreOpen items → Splits bytes items rest
    → Splits (bytes ++ more) items (rest ++ more)
Splits-append bytes more [] rest are_open splits = ap (λ (x : List ℕ). x ++ more) splits
Splits-append bytes more (Requested request ∷ items) rest are_open (after, begins, last, splits) = (
  after ++ more,
  BeginsWithRequest-append bytes request after more begins,
  last,
  Splits-append after more items rest (All-tail IsOpen (Requested request) items are_open) splits,
)
Splits-append bytes more (Refused fault ∷ items) rest are_open splits =
    let opens = All-head IsOpen (Refused fault) items are_open in absurd (cc)

pub Splits-push : (bytes : List ℕ) (items : List Item) (rest : List ℕ) (item : Item) (after : List ℕ) → AreOpen items
    → Splits bytes items rest → Begins rest item after → Splits bytes (items ++ item ∷ []) after
Splits-push bytes [] rest item after are_open splits begins =
    (after, subst (λ (x : List ℕ). Begins x item after) (sym splits) begins, λ last. refl, refl)
Splits-push bytes (first ∷ items) rest item after are_open (middle, starts, last, splits) begins =
    let opens = All-head IsOpen first items are_open in (
      middle,
      starts,
      λ closes. absurd (cc (opens, closes)),
      Splits-push middle items rest item after (All-tail IsOpen first items are_open) splits begins,
    )
