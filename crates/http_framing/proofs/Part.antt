-- How long a request is, and what a part of one is.
use Rattle.std.proofs.Common.{◌≡◌, ℕ, ◌+◌, ◌<◌, ◌≤◌, List, [], ◌++◌, length, take, drop, ap, sym, ◌∙◌, subst, arith, length-append, length-drop, inl, inr, Ok}
use Rattle.std.proofs.Math.Seq.{take-append_seam}
use Rattle.std.proofs.lemmas.Bool.{cases_lt}
use Rattle.std.proofs.lemmas.List.{take-append-le, take-append-drop, append-nil}
use Rattle.httparse.specs.Grammar.{RequestHead, print_request, HasNoRequest}
use Rattle.httparse.proofs.GrammarLemmas.{request_unique, request_prefix_free}
use Rattle.http_framing.specs.Headers.{headers_of}
use Rattle.http_framing.specs.Body.{body_length}
use Rattle.http_framing.specs.Request.{header_limit, Request, BeginsWithRequest}
use Rattle.http_framing.specs.Input.{request_limit, EndsInHead, EndsInBody, IsUnfinished}
use Rattle.http_framing.specs.Refusal.{head_window, HasManyHeaders}
use Rattle.httparse.specs.Spans.{RequestExceeds}
use Rattle.http_framing.proofs.More.{RequestExceeds-append}
use Rattle.http_framing.proofs.ManyHeaders.{no_head_with_room}
use Rattle.http_framing.proofs.Lengths.{body_length-le}
use Rattle.http_framing.proofs.Heads.{length-print, head_window-short}

-- a request takes some bytes
pub length-request : (bytes : List ℕ) (request : Request) (after : List ℕ) → BeginsWithRequest bytes request after → length after < length bytes
length-request bytes request after (head, begins, asked) =
    omega (arith, ap length begins.reads.1, length-append (print_request head) (request.body ++ after), length-append request.body after, length-print head)

-- a request takes at most the limit
pub length-request-le : (bytes : List ℕ) (request : Request) (after : List ℕ) → BeginsWithRequest bytes request after
    → length bytes ≤ length after + request_limit
length-request-le bytes request after (head, begins, asked) =
    omega (
      arith,
      ap length begins.reads.1,
      length-append (print_request head) (request.body ++ after),
      length-append request.body after,
      begins.size,
      body_length-le (headers_of head) (length request.body) asked.body,
    )

-- a part of a request is shorter than the limit
pub length-unfinished : (bytes : List ℕ) → IsUnfinished bytes → length bytes < request_limit
length-unfinished bytes (inl (short, none, may, few)) = omega arith
length-unfinished bytes (inr (head, after, len, begins, said, short)) =
    omega (arith, ap length begins.reads.1, length-append (print_request head) after, begins.size, body_length-le (headers_of head) len said)

-- a part of a request is no whole one
pub unfinished_is_no_request : (bytes : List ℕ) (request : Request) (after : List ℕ) → IsUnfinished bytes → BeginsWithRequest bytes request after → ⊥
unfinished_is_no_request bytes request after (inl (short, none, may, few)) (head, begins, asked) = none head _ begins.reads
unfinished_is_no_request bytes request after (inr (other, rest, len, starts, said, short)) (head, begins, asked) =
    let same = request_unique bytes head other (request.body ++ after) rest begins.reads starts.reads in
    let size : Ok (length request.body) ≡ Ok len = sym asked.body ∙ ap (λ (h : RequestHead). body_length (headers_of h)) same.0 ∙ said in
    let size' : length request.body ≡ len = cc in
    absurd (omega (arith, size', ap length same.1, length-append request.body after))

-- what a request begins with, and is not yet whole, is unfinished
pub beginning_is_unfinished : (bytes more : List ℕ) (request : Request) (after : List ℕ) → BeginsWithRequest (bytes ++ more) request after
    → length after < length more → IsUnfinished bytes
beginning_is_unfinished bytes more request after (head, begins, asked) short =
    elim (cases_lt (length bytes) (length (print_request head))) [ inl inside ↦ inl (in_head inside) | inr beyond ↦ inr (in_body beyond) ]
  where
    whole : length bytes + length more ≡ length (print_request head) + (length request.body + length after)
    whole =
        sym (length-append bytes more) ∙ ap length begins.reads.1 ∙ length-append (print_request head) (request.body ++ after)
        ∙ ap (λ (n : ℕ). length (print_request head) + n) (length-append request.body after)

    few : length bytes < length (print_request head) → ¬ (HasManyHeaders bytes)
    few inside exceeds =
        let whole_window : head_window bytes ≡ bytes = head_window-short bytes (omega (arith, begins.size)) in
        let P : List ℕ → Type 0 = RequestExceeds header_limit in
        no_head_with_room header_limit (bytes ++ more) head (request.body ++ after) begins.reads begins.headers
        (RequestExceeds-append header_limit bytes more (subst P whole_window exceeds))

    in_head : length bytes < length (print_request head) → EndsInHead bytes
    in_head inside =
        let none : HasNoRequest bytes = λ h rest reads.
        let same = request_prefix_free bytes more h head rest (request.body ++ after) reads begins.reads in
        absurd (omega (arith, inside, ap length reads.1, length-append (print_request h) rest, ap (λ (k : RequestHead). length (print_request k)) same.0)) in
        let front : bytes ≡ take (length bytes) (print_request head) =
        sym (take-append_seam bytes more) ∙ ap (take (length bytes)) begins.reads.1 ∙ take-append-le (length bytes) (print_request head) (request.body ++ after) (omega arith) in
        let left : List ℕ = drop (length bytes) (print_request head) in
        let full : bytes ++ left ≡ print_request head ++ [] =
        ap (λ (x : List ℕ). x ++ left) front ∙ take-append-drop (length bytes) (print_request head) ∙ sym (append-nil (print_request head)) in
        (omega (arith, begins.size), none, inl (left, head, (begins.reads.0, full)), few inside)

    in_body : length (print_request head) ≤ length bytes → EndsInBody bytes
    in_body beyond =
        let n : ℕ = length (print_request head) in
        let front : take n bytes ≡ print_request head =
        sym (take-append-le n bytes more beyond) ∙ ap (take n) begins.reads.1 ∙ take-append_seam (print_request head) (request.body ++ after) in
        let parts : bytes ≡ print_request head ++ drop n bytes =
        sym (take-append-drop n bytes) ∙ ap (λ (x : List ℕ). x ++ drop n bytes) front in (
          head,
          drop n bytes,
          length request.body,
          record { reads = (begins.reads.0, parts); size = begins.size; headers = begins.headers },
          asked.body,
          omega (arith, whole, short, length-drop n bytes),
        )
