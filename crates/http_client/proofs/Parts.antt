-- A response and the parts of one.
use Rattle.std.proofs.Common.{◌≡◌, ℕ, ◌+◌, ◌-◌, ◌<◌, ◌≤◌, List, [], ◌∷◌, ◌++◌, ◌^◌, length, take, drop, map, ◌⊎◌, Option, Some, None, Err, ap, sym, ◌∙◌, subst, arith, append_assoc, append-nil, length-append, length-drop, slice_range, inl, inr}
use Rattle.std.proofs.Math.Seq.{drop-append_seam}
use Rattle.std.proofs.lemmas.List.{take-append-drop, length-map}
use Rattle.std.proofs.lemmas.Grind.{common_steps}
use Rattle.httparse.specs.declared.spans.HeaderSpan.{HeaderSpan}
use Rattle.httparse.specs.declared.spans.ResponseSpans.{ResponseSpans as HeadSpans}
use Rattle.httparse.specs.Grammar.{ResponseHead, print_response, status_code, HasNoResponse, MayBecomeResponse}
use Rattle.httparse.specs.Spans.{IsResponseWithin as IsHeadWithin, IsResponseAt as IsHeadAt, IsResponseOf as IsHeadOf, header_bytes, name_and_value}
use Rattle.httparse.proofs.RunLemmas.{drop_split, length-slice_range}
use Rattle.httparse.proofs.GrammarLemmas.{response_unique, ReadsResponse-append}
use Rattle.std.proofs.Math.Seq.{take-append_seam}
use Rattle.http_framing.specs.Request.{head_limit, header_limit}
use Rattle.http_framing.specs.Refusal.{head_window}
use Rattle.http_framing.specs.Front.{IsFrontOfWindow}
use Rattle.http_framing.proofs.Heads.{head_window-short}
use Rattle.http_client.specs.Response.{Response, BeginsWithHead, BeginsWithResponse, EndsInHead, HasNoLength, IsUnfinished, headers_of, told_length}
use Rattle.http_client.specs.Front.{IsResponseAt, NeedsMore}
use Rattle.http_client.specs.Incoming.{Reads, ReadsIfUnfinished}
use Rattle.http_client.specs.declared.incoming.ResponseFault.{ResponseFault}
use Rattle.http_client.specs.declared.incoming.ResponseFault.TheVariants as fault
use Rattle.http_client.proofs.Values.{told-small}

-- ---- a response is one, and a part of one is none

same_length : {m n : ℕ} → Some m ≡ Some n → m ≡ n
same_length e = cc

same_response : (r s : Response) → r.status ≡ s.status → r.body ≡ s.body → r ≡ s
same_response r s status body =
    let make : ℕ → List ℕ → Response = λ n b. record { status = n; body = b } in
    ap (λ (n : ℕ). make n r.body) status ∙ ap (make s.status) body

pub response-unique : (bytes : List ℕ) (response other : Response) (rest after : List ℕ) → BeginsWithResponse bytes response rest
    → BeginsWithResponse bytes other after → (response ≡ other) × (rest ≡ after)
response-unique bytes response other rest after (head, begins, answered) (head', begins', answered') =
    let same = response_unique bytes head head' (response.body ++ rest) (other.body ++ after) begins.reads begins'.reads in
    let size : length response.body ≡ length other.body =
    same_length (sym answered.body ∙ ap (λ (h : ResponseHead). told_length (headers_of h)) same.0 ∙ answered'.body) in
    let body : response.body ≡ other.body =
    sym (take-append_seam response.body rest) ∙ ap (take (length response.body)) same.1 ∙ ap (λ (n : ℕ). take n (other.body ++ after)) size ∙ take-append_seam other.body after in
    let left : rest ≡ after =
    sym (drop-append_seam response.body rest) ∙ ap (drop (length response.body)) same.1 ∙ ap (λ (n : ℕ). drop n (other.body ++ after)) size ∙ drop-append_seam other.body after in
    (same_response response other (answered.status ∙ ap status_code same.0 ∙ sym answered'.status) body, left)

pub unfinished-no_response : (bytes : List ℕ) (response : Response) (rest : List ℕ) → IsUnfinished bytes → BeginsWithResponse bytes response rest → ⊥
unfinished-no_response bytes response rest (inl (short, none, may)) (head, begins, answered) = none head _ begins.reads
unfinished-no_response bytes response rest (inr (other, after, len, starts, told, short)) (head, begins, answered) =
    let same = response_unique bytes head other (response.body ++ rest) after begins.reads starts.reads in
    let size : length response.body ≡ len =
    same_length (sym answered.body ∙ ap (λ (h : ResponseHead). told_length (headers_of h)) same.0 ∙ told) in
    absurd (omega (arith, size, ap length same.1, length-append response.body rest))

-- ---- a head that was found in the first bytes

pub record IsFound (bytes window : List ℕ) (headers : List HeaderSpan) (spans : HeadSpans) (head : ResponseHead) : Type 0 where
  pub begins : BeginsWithHead bytes head (drop spans.len bytes)
  pub headers_are : map (header_bytes window) (take spans.headers headers) ≡ headers_of head
  pub code : spans.code ≡ status_code head
  pub inside : spans.len ≤ length bytes
  pub small : spans.len ≤ head_limit

length-front : {A : Type 0} (n : ℕ) (xs : List A) → (length (take n xs) ≤ length xs) × (length (take n xs) ≤ n)
length-front n xs = (grind (arith, common_steps), grind (arith, common_steps))

begins : (n : ℕ) (bytes : List ℕ) (headers : List HeaderSpan) (spans : HeadSpans) (head : ResponseHead)
    → IsHeadAt (take n bytes) headers spans head → bytes ≡ print_response head ++ drop spans.len bytes
begins n bytes headers spans head at =
    let after : List ℕ = drop spans.len (take n bytes) ++ drop n bytes in
    let whole : bytes ≡ print_response head ++ after =
    sym (take-append-drop n bytes) ∙ ap (λ (x : List ℕ). x ++ drop n bytes) at.reads.1 ∙ append_assoc (print_response head) (drop spans.len (take n bytes)) (drop n bytes) in
    let rest : drop spans.len bytes ≡ after =
    ap (drop spans.len) whole ∙ ap (λ (k : ℕ). drop k (print_response head ++ after)) at.len ∙ drop-append_seam (print_response head) after in
    whole ∙ ap (λ (x : List ℕ). print_response head ++ x) (sym rest)

found_in : (n : ℕ) (bytes : List ℕ) (headers : List HeaderSpan) (spans : HeadSpans) (head : ResponseHead) → n ≤ head_limit → length headers ≤ header_limit
    → IsHeadWithin (take n bytes) headers spans → IsHeadAt (take n bytes) headers spans head → IsFound bytes (take n bytes) headers spans head
found_in n bytes headers spans head limit room within at =
    let short = length-front n bytes in
    let fields : length (take spans.headers headers) ≡ length head.fields =
    sym (length-map (take spans.headers headers) (header_bytes (take n bytes))) ∙ ap length at.fields ∙ length-map head.fields name_and_value in
    let count = length-front spans.headers headers in
    record {
      begins = record {
        reads = (at.reads.0, begins n bytes headers spans head at);
        size = omega (arith, at.len, within.section.len_fits, short.1);
        headers = omega (arith, fields, count.0, room);
      };
      headers_are = at.fields;
      code = at.code;
      inside = omega (arith, within.section.len_fits, short.0);
      small = omega (arith, within.section.len_fits, short.1);
    }

pub found_head : (bytes window : List ℕ) (headers : List HeaderSpan) (spans : HeadSpans) → IsFrontOfWindow window bytes
    → length headers ≤ header_limit → IsHeadWithin window headers spans → (of : IsHeadOf window headers spans)
    → IsFound bytes window headers spans of.0
found_head bytes window headers spans (n, small, same) room within of =
    let P : List ℕ → Type 0 = λ w. IsHeadWithin w headers spans in
    let Q : List ℕ → Type 0 = λ w. IsHeadAt w headers spans of.0 in
    let R : List ℕ → Type 0 = λ w. IsFound bytes w headers spans of.0 in
    subst R (sym same) (found_in n bytes headers spans of.0 small room (subst P same within) (subst Q same of.1))

module _ {bytes window : List ℕ} {headers : List HeaderSpan} {spans : HeadSpans} {head : ResponseHead} (found : IsFound bytes window headers spans head) where
  abbrev length_read : Option ℕ
  length_read = told_length (map (header_bytes window) (take spans.headers headers))

  told : (length : Option ℕ) → length_read ≡ length → told_length (headers_of head) ≡ length
  told length read = ap told_length (sym found.headers_are) ∙ read

  pub found-no_length : length_read ≡ None → HasNoLength bytes
  found-no_length read = (head, drop spans.len bytes, found.begins, told None read)

  pub found-part : (len : ℕ) → length_read ≡ Some len → length bytes < spans.len + len
      → NeedsMore bytes (spans.len + len - length bytes)
  found-part len read short = record {
    some = omega arith;
    unfinished = λ further fewer.
        inr (
          head,
          drop spans.len bytes ++ further,
          len,
          record {
            reads = ReadsResponse-append bytes head (drop spans.len bytes) further found.begins.reads;
            size = found.begins.size;
            headers = found.begins.headers;
          },
          told (Some len) read,
          omega (arith, found.inside, length-append (drop spans.len bytes) further, length-drop spans.len bytes),
        );
  }

  pub found-whole : (len : ℕ) → length_read ≡ Some len → spans.len + len ≤ length bytes
      → IsResponseAt bytes (record { status = spans.code; body = record { start = spans.len; end = spans.len + len } })
  found-whole len read enough =
      let end : ℕ = spans.len + len in
      let ordered : spans.len ≤ end = omega arith in
      let size : length (slice_range bytes spans.len end) ≡ len = omega (arith, length-slice_range bytes spans.len end ordered enough) in
      let P : List ℕ → Type 0 = BeginsWithHead bytes head in
      record {
        begins = (
          head,
          subst P (drop_split bytes spans.len end ordered) found.begins,
          record { status = found.code; body = told (Some len) read ∙ ap Some (sym size) },
        );
        body = (ordered, enough);
      }

  pub found-fits : (len : ℕ) → length_read ≡ Some len → spans.len + len < 2 ^ 63
  found-fits len read = omega (arith, found.small, told-small (headers_of head) len (told (Some len) read))

-- ---- a part of a head

-- a part of a head needs one more byte, at least
pub head-part : (bytes : List ℕ) → length bytes < head_limit → HasNoResponse (head_window bytes) → MayBecomeResponse (head_window bytes) → NeedsMore bytes 1
head-part bytes short none may =
    let whole = head_window-short bytes short in
    let part : EndsInHead bytes = (short, subst HasNoResponse whole none, subst MayBecomeResponse whole may) in
    record { some = omega arith; unfinished = λ further fewer. nothing further (omega arith) (inl part) }
  where
    nothing : (further : List ℕ) → length further < 1 → IsUnfinished bytes → IsUnfinished (bytes ++ further)
    nothing [] fewer unfinished = subst IsUnfinished (sym (append-nil bytes)) unfinished
    nothing (byte ∷ further) fewer unfinished = absurd (omega arith)

-- ---- a read that fails

-- what needs more is unfinished as it is
pub unfinished_now : (bytes : List ℕ) (more : ℕ) → NeedsMore bytes more → IsUnfinished bytes
unfinished_now bytes more needs = subst IsUnfinished (append-nil bytes) (needs.unfinished [] needs.some)

-- what is unfinished now was so before, when nothing or no more was asked for
pub unfinished_before : {R : Type 0} (old now : List ℕ) (reader reader' : R) → ReadsIfUnfinished old now reader reader'
    → IsUnfinished now → IsUnfinished old
unfinished_before old now reader reader' (inl unfinished) here = unfinished
unfinished_before old now reader reader' (inr (same, asked)) here = subst IsUnfinished same here

pub reads-fault : (bytes : List ℕ) (left : Option (List ℕ)) (f : ResponseFault) → (f ≡ fault.ReadFailed) ⊎ (f ≡ fault.Memory)
    → IsUnfinished bytes → Reads bytes left (Err f)
reads-fault bytes left f which unfinished =
    let P : ResponseFault → Type 0 = λ g. Reads bytes left (Err g) in
    elim which [ inl failed ↦ subst P (sym failed) unfinished | inr memory ↦ subst P (sym memory) unfinished ]
