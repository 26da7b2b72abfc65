-- What a head that was found in the first bytes says of all of them.
use Rattle.std.proofs.Common.{◌≡◌, ℕ, ◌+◌, ◌-◌, ◌<◌, ◌≤◌, List, [], ◌∷◌, ◌++◌, length, take, drop, map, ap, sym, ◌∙◌, subst, arith, append_assoc, Result, Ok, Err, inl, inr, Bool, slice_range, length-append, length-drop}
use Rattle.std.proofs.Math.Seq.{drop-append_seam}
use Rattle.std.proofs.lemmas.List.{take-append-drop, take-take, take_all, drop-take, append-nil, length-map}
use Rattle.std.proofs.lemmas.Grind.{common_steps}
use Rattle.httparse.specs.declared.spans.HeaderSpan.{HeaderSpan}
use Rattle.httparse.specs.declared.spans.RequestSpans.{RequestSpans as HeadSpans}
use Rattle.httparse.specs.declared.spans.Span.{Span}
use Rattle.httparse.specs.Grammar.{RequestHead, print_request}
use Rattle.httparse.specs.Spans.{IsRequestWithin as IsHeadWithin, IsRequestAt as IsHeadAt, IsRequestOf as IsHeadOf, IsWithin, header_bytes, span_bytes, name_and_value}
use Rattle.httparse.proofs.RunLemmas.{drop_split, length-slice_range}
use Rattle.http_framing.specs.declared.FramingFault.{FramingFault}
use Rattle.http_framing.specs.Headers.{headers_of}
use Rattle.http_framing.specs.Body.{body_length}
use Rattle.http_framing.specs.Request.{head_limit, header_limit, closes_after, BeginsWithHead}
use Rattle.http_framing.specs.Refusal.{head_window, IsRefused}
use Rattle.http_framing.specs.Input.{request_limit, EndsInHead, IsUnfinished}
use Rattle.http_framing.specs.Front.{IsFrontOfWindow, IsRequestAt, NeedsMore}
use Rattle.http_framing.proofs.Lengths.{body_length-le, body_length-fault, refused_by_body}
use Rattle.http_framing.proofs.More.{BeginsWithHead-append}

-- a head that was found in the first bytes, with what its spans cover in all of them
pub record IsFound (bytes window : List ℕ) (headers : List HeaderSpan) (spans : HeadSpans) (head : RequestHead) : Type 0 where
  pub begins : BeginsWithHead bytes head (drop spans.len bytes)
  pub headers_are : map (header_bytes window) (take spans.headers headers) ≡ headers_of head
  pub method : IsWithin (length bytes) spans.method × (span_bytes bytes spans.method ≡ head.method)
  pub target : IsWithin (length bytes) spans.path × (span_bytes bytes spans.path ≡ head.target)
  pub version : spans.version ≡ head.minor
  pub some : 0 < spans.len
  pub inside : spans.len ≤ length bytes
  pub small : spans.len ≤ head_limit

length-front : {A : Type 0} (n : ℕ) (xs : List A) → (length (take n xs) ≤ length xs) × (length (take n xs) ≤ n)
length-front n xs = (grind (arith, common_steps), grind (arith, common_steps))

span_bytes-take : (n : ℕ) (bytes : List ℕ) (span : Span) → span.start ≤ span.end → span.end ≤ n
    → span_bytes bytes span ≡ span_bytes (take n bytes) span
span_bytes-take n bytes span ordered inside =
    let count : span.start + (n - span.start) ≡ n = omega arith in
    let front : drop span.start (take n bytes) ≡ take (n - span.start) (drop span.start bytes) =
    subst (λ (k : ℕ). drop span.start (take k bytes) ≡ take (n - span.start) (drop span.start bytes)) count (drop-take span.start (n - span.start) bytes) in
    sym (ap (take (span.end - span.start)) front ∙ take-take (span.end - span.start) (n - span.start) (drop span.start bytes) (omega arith))

span_in_front : (n : ℕ) (bytes : List ℕ) (span : Span) (len : ℕ) → len ≤ length (take n bytes) → IsWithin len span
    → IsWithin (length bytes) span × (span_bytes bytes span ≡ span_bytes (take n bytes) span)
span_in_front n bytes span len short within =
    let front = length-front n bytes in
    ((within.0, omega arith), span_bytes-take n bytes span within.0 (omega arith))

pub length-print : (head : RequestHead) → 0 < length (print_request head)
unfolding print_request
length-print head = simp length-append (omega arith)

begins : (n : ℕ) (bytes : List ℕ) (headers : List HeaderSpan) (spans : HeadSpans) (head : RequestHead)
    → IsHeadAt (take n bytes) headers spans head → bytes ≡ print_request head ++ drop spans.len bytes
begins n bytes headers spans head at =
    let after : List ℕ = drop spans.len (take n bytes) ++ drop n bytes in
    let whole : bytes ≡ print_request head ++ after =
    sym (take-append-drop n bytes) ∙ ap (λ (x : List ℕ). x ++ drop n bytes) at.reads.1 ∙ append_assoc (print_request head) (drop spans.len (take n bytes)) (drop n bytes) in
    let rest : drop spans.len bytes ≡ after =
    ap (drop spans.len) whole ∙ ap (λ (k : ℕ). drop k (print_request head ++ after)) at.len ∙ drop-append_seam (print_request head) after in
    whole ∙ ap (λ (x : List ℕ). print_request head ++ x) (sym rest)

found_in : (n : ℕ) (bytes : List ℕ) (headers : List HeaderSpan) (spans : HeadSpans) (head : RequestHead) → n ≤ head_limit → length headers ≤ header_limit
    → IsHeadWithin (take n bytes) headers spans → IsHeadAt (take n bytes) headers spans head → IsFound bytes (take n bytes) headers spans head
found_in n bytes headers spans head limit room within at =
    let short = length-front n bytes in
    let method = span_in_front n bytes spans.method spans.len within.section.len_fits within.method in
    let target = span_in_front n bytes spans.path spans.len within.section.len_fits within.path in
    let fields : length (take spans.headers headers) ≡ length head.fields =
    sym (length-map (take spans.headers headers) (header_bytes (take n bytes))) ∙ ap length at.fields ∙ length-map head.fields name_and_value in
    let count = length-front spans.headers headers in
    record {
      begins = record {
        reads = (at.reads.0, begins n bytes headers spans head at);
        size = omega (arith, at.len, within.section.len_fits, short.1);
        headers = omega (arith, fields, count.0, room);
      };
      headers_are = at.fields;
      method = (method.0, method.1 ∙ at.method);
      target = (target.0, target.1 ∙ at.path);
      version = at.version;
      some = omega (arith, at.len, length-print head);
      inside = omega (arith, within.section.len_fits, short.0);
      small = omega (arith, within.section.len_fits, short.1);
    }

pub found_head : (bytes window : List ℕ) (headers : List HeaderSpan) (spans : HeadSpans) → IsFrontOfWindow window bytes
    → length headers ≤ header_limit → IsHeadWithin window headers spans → (of : IsHeadOf window headers spans)
    → IsFound bytes window headers spans of.0
found_head bytes window headers spans (n, small, same) room within of =
    let P : List ℕ → Type 0 = λ w. IsHeadWithin w headers spans in
    let Q : List ℕ → Type 0 = λ w. IsHeadAt w headers spans of.0 in
    let R : List ℕ → Type 0 = λ w. IsFound bytes w headers spans of.0 in
    subst R (sym same) (found_in n bytes headers spans of.0 small room (subst P same within) (subst Q same of.1))

module _ {bytes window : List ℕ} {headers : List HeaderSpan} {spans : HeadSpans} {head : RequestHead} (found : IsFound bytes window headers spans head) where
  abbrev length_read : Result ℕ FramingFault
  length_read = body_length (map (header_bytes window) (take spans.headers headers))

  said : (length : Result ℕ FramingFault) → length_read ≡ length → body_length (headers_of head) ≡ length
  said length read = ap body_length (sym found.headers_are) ∙ read

  pub found-fault : (fault : FramingFault) → length_read ≡ Err fault → IsRefused bytes fault
  found-fault fault read =
      let fault_is = said (Err fault) read in
      refused_by_body bytes fault (body_length-fault (headers_of head) fault fault_is) (head, _, found.begins, fault_is)

  pub found-fits : (len : ℕ) → length_read ≡ Ok len → spans.len + len ≤ request_limit
  found-fits len read = omega (arith, found.small, body_length-le (headers_of head) len (said (Ok len) read))

  pub found-part : (len : ℕ) → length_read ≡ Ok len → length bytes < spans.len + len
      → NeedsMore bytes (spans.len + len - length bytes)
  found-part len read short = record {
    some = omega arith;
    unfinished = λ further fewer.
        inr (
          head,
          drop spans.len bytes ++ further,
          len,
          BeginsWithHead-append bytes head _ further found.begins,
          said (Ok len) read,
          omega (arith, found.inside, length-append (drop spans.len bytes) further, length-drop spans.len bytes),
        );
    limit = omega (arith, found-fits len read);
  }

  pub found-whole : (len : ℕ) (closes : Bool) → length_read ≡ Ok len → spans.len + len ≤ length bytes
      → closes ≡ closes_after spans.version (map (header_bytes window) (take spans.headers headers))
      → IsRequestAt bytes (record { method = spans.method; target = spans.path; body = record { start = spans.len; end = spans.len + len }; closes = closes })
  found-whole len closes read enough closes_is =
      let end : ℕ = spans.len + len in
      let ordered : spans.len ≤ end = omega arith in
      let size : length (slice_range bytes spans.len end) ≡ len = omega (arith, length-slice_range bytes spans.len end ordered enough) in
      let P : List ℕ → Type 0 = BeginsWithHead bytes head in
      record {
        begins = (
          head,
          subst P (drop_split bytes spans.len end ordered) found.begins,
          record {
            method = found.method.1;
            target = found.target.1;
            body = said (Ok len) read ∙ ap Ok (sym size);
            closes = cc (closes_is, found.version, found.headers_are);
          },
        );
        method = found.method.0;
        target = found.target.0;
        body = (ordered, enough);
        takes = omega (arith, found.some);
      }

-- so few bytes are the window themselves
pub head_window-short : (bytes : List ℕ) → length bytes < head_limit → head_window bytes ≡ bytes
head_window-short bytes short = take_all head_limit bytes (omega arith)

-- a part of a head needs one more byte, at least
pub head-part : (bytes : List ℕ) → EndsInHead bytes → NeedsMore bytes 1
head-part bytes part =
    record {
      some = omega arith;
      unfinished = λ further fewer. nothing further (omega arith) (inl part);
      limit = omega (arith, part.0);
    }
  where
    nothing : (further : List ℕ) → length further < 1 → IsUnfinished bytes → IsUnfinished (bytes ++ further)
    nothing [] fewer unfinished = subst IsUnfinished (sym (append-nil bytes)) unfinished
    nothing (byte ∷ further) fewer unfinished = absurd (omega arith)
