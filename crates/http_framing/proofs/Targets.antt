-- A request's target is text.
use Rattle.std.proofs.Common.{◌≡◌, ℕ, List, [], ◌∷◌, ◌++◌, refl, ap, sym, ◌∙◌, subst, append_assoc, inl, inr}
use Rattle.std.specs.Prelude.{IsUtf8}
use Rattle.std.proofs.lemmas.List.{append-nil}
use Rattle.httparse.specs.Grammar.{LineEnd, print_blank, IsToken, AllPass, is_uri_byte, RequestHead, NeverHasRequest, MayBecomeRequest, EndsInTarget}
use Rattle.httparse.specs.Spans.{RequestExceeds}
use Rattle.httparse.specs.Pieces.{RequestStart}
use Rattle.httparse.proofs.GrammarLemmas.{RequestTree, request_tree, request_pieces, ReadsRequest-append, cons-append}
use Rattle.httparse.proofs.PieceLemmas.{Blank_deterministic, Method_deterministic, Word_deterministic, Stops_token}
use Rattle.httparse.proofs.RunLemmas.{run_unstopped}
use Rattle.http_framing.specs.Request.{header_limit, Request, BeginsWithHead, BeginsWithRequest}
use Rattle.http_framing.specs.Refusal.{head_window, HasTarget}
use Rattle.http_framing.specs.Input.{IsUnfinished}
use Rattle.http_framing.specs.Front.{IsFrontOf}
use Rattle.http_framing.specs.declared.front.Front.{Front}
use Rattle.http_framing.specs.declared.front.Front.TheVariants as front
use Rattle.http_framing.specs.declared.FramingFault.TheVariants.{Head, LargeHead, TransferEncoding, ContentLength, LargeBody}
use Rattle.http_framing.proofs.Heads.{head_window-short}
use Rattle.http_framing.proofs.ManyHeaders.{many_headers}
use Rattle.http_framing.proofs.Unique.{head_in_window}

pub text_target : (bytes : List ℕ) (request : Request) (after : List ℕ) → BeginsWithRequest bytes request after → IsUtf8 request.target
text_target bytes request after (head, begins, asked) = subst IsUtf8 (sym asked.target) begins.reads.0.target_text

HasTarget-append : (bytes target more : List ℕ) → HasTarget bytes target → HasTarget (bytes ++ more) target
HasTarget-append bytes target more (blank, method, rest, token, some, uri, parts) =
    (blank, method, rest ++ more, token, some, uri, ap (λ (x : List ℕ). x ++ more) parts ∙ simp (append_assoc, cons-append))

-- what comes after the method and its space, in one way
after_method : (bytes : List ℕ) (b c : List LineEnd) (m n x y : List ℕ) → IsToken m → IsToken n
    → bytes ≡ print_blank b ++ (m ++ 32 ∷ x) → bytes ≡ print_blank c ++ (n ++ 32 ∷ y) → x ≡ y
after_method bytes b c m n x y token also e f =
    let lines = Blank_deterministic.unique b c bytes (m ++ 32 ∷ x) (n ++ 32 ∷ y) (e, Stops_token m _ token.0 token.1) (f, Stops_token n _ also.0 also.1) in
    (Method_deterministic.unique m n (m ++ 32 ∷ x) x y (token.0, token.1, refl) (also.0, also.1, lines.1)).1

-- a request line that was read has the target
same_target : (bytes target : List ℕ) → HasTarget bytes target → (tree : RequestTree) (middle : List ℕ) → RequestStart tree.0 bytes middle
    → tree.0.1.1.0 ≡ target
same_target bytes target (blank, method, rest, token, some, uri, parts) tree middle start =
    let read = start.2.1 in
    let word = start.2.2.1.0 in
    let line : bytes ≡ print_blank tree.0.0 ++ (tree.0.1.0 ++ 32 ∷ start.2.0) = start.1.0 ∙ ap (λ (x : List ℕ). print_blank tree.0.0 ++ x) read.2 in
    let left = after_method bytes blank tree.0.0 method tree.0.1.0 (target ++ 32 ∷ rest) start.2.0 token (read.0, read.1) parts line in
    sym ((Word_deterministic is_uri_byte 32 refl).unique target tree.0.1.1.0 (target ++ 32 ∷ rest) rest start.2.2.0 (some, uri, refl) (word.0, word.1, left ∙ word.2)).0

-- the target has ended
not_in_target : (bytes target : List ℕ) → HasTarget bytes target → EndsInTarget bytes → ⊥
not_in_target bytes target (blank, method, rest, token, some, uri, parts) (lines, name, cut, also, pass, whole) =
    let left = after_method bytes blank lines method name (target ++ 32 ∷ rest) cut token also parts (whole ∙ append_assoc (print_blank lines) name (32 ∷ cut)) in
    run_unstopped is_uri_byte target (32 ∷ rest) (subst (AllPass is_uri_byte) (sym left) pass) refl

module _ {bytes target : List ℕ} (line : HasTarget bytes target) (not_text : ¬ (IsUtf8 target)) where
  never_head : NeverHasRequest bytes
  never_head more head rest reads =
      let start = (request_pieces (bytes ++ more) head rest reads).1 in
      let same = same_target (bytes ++ more) target (HasTarget-append bytes target more line) (request_tree head) _ start in
      not_text (subst IsUtf8 same reads.0.target_text)

  not_unfinished : MayBecomeRequest bytes → ⊥
  not_unfinished (inl (more, head, reads)) = never_head more head [] reads
  not_unfinished (inr in_target) = not_in_target bytes target line in_target

  not_many : (room : ℕ) → RequestExceeds room bytes → ⊥
  not_many room exceeds =
      let many = many_headers room bytes exceeds in
      let same = same_target bytes target line (request_tree many.head) many.middle many.start in
      not_text (subst IsUtf8 same many.start.2.2.1.1)

no_head : (bytes : List ℕ) (head : RequestHead) (after : List ℕ) → NeverHasRequest (head_window bytes) → BeginsWithHead bytes head after → ⊥
no_head bytes head after never begins =
    let inner = head_in_window bytes head after begins in
    never [] head _ (ReadsRequest-append _ head inner.0 [] inner.1)

-- where the target of a request line is no text, all that is left is to refuse it as no head
pub not_text : (bytes target : List ℕ) (answer : Front) → HasTarget (head_window bytes) target → ¬ (IsUtf8 target)
    → IsFrontOf bytes answer → answer ≡ front.Refused Head
not_text bytes target (front.Request spans) line other is = absurd (no_head bytes is.begins.0 _ (never_head line other) is.begins.1)
not_text bytes target (front.Refused Head) line other is = refl
not_text bytes target (front.Refused LargeHead) line other (inl (full, none, may)) = absurd (not_unfinished line other may)
not_text bytes target (front.Refused LargeHead) line other (inr exceeds) = absurd (not_many line other header_limit exceeds)
not_text bytes target (front.Refused TransferEncoding) line other is = absurd (no_head bytes is.0 is.1 (never_head line other) is.2)
not_text bytes target (front.Refused ContentLength) line other is = absurd (no_head bytes is.0 is.1 (never_head line other) is.2)
not_text bytes target (front.Refused LargeBody) line other is = absurd (no_head bytes is.0 is.1 (never_head line other) is.2)
not_text bytes target (front.More more) line other is =
    absurd (still_unfinished (subst IsUnfinished (append-nil bytes) (is.unfinished [] is.some)))
  where
    still_unfinished : IsUnfinished bytes → ⊥
    still_unfinished (inl (short, none, may, few)) = not_unfinished line other (subst MayBecomeRequest (sym (head_window-short bytes short)) may)
    still_unfinished (inr (head, after, len, begins, said, short)) = no_head bytes head after (never_head line other) begins
