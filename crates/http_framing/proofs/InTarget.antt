-- Bytes that end inside a target.
use Rattle.std.proofs.Common.{◌≡◌, ℕ, Bool, true, false, List, [], ◌∷◌, ◌++◌, length, take, drop, ◌+◌, ◌≤◌, append-nil, refl, ap, sym, ◌∙◌, subst, arith, append_assoc, inl, inr, ◌⊎◌}
use Rattle.std.specs.Prelude.{◌==◌, zero, suc, IsAscii}
use Rattle.std.specs.List.{list_all}
use Rattle.std.proofs.Math.Seq.{take-append_seam, take-append-add}
use Rattle.std.proofs.lemmas.Bool.Decides.{nat_tests}
use Rattle.std.proofs.lemmas.List.{take-append-drop, length-take-le, take_all, drop-drop}
use Rattle.std.proofs.lemmas.List.Elements.{All-head, All-tail, All-take, All-append, All-nil}
use Rattle.std.proofs.lemmas.List.Sums.{AllPass-from_list_all}
use Rattle.std.proofs.lemmas.Str.{IsUtf8-from_ascii}
use Rattle.httparse.specs.Grammar.{LineEnd, crlf, lf, print_blank, IsToken, AllPass, is_token_byte, is_uri_byte, RequestHead, IsRequestHead, ReadsRequest, NeverHasRequest, MayBecomeRequest, IsField, EndsInTarget}
use Rattle.httparse.specs.Spans.{RequestExceeds}
use Rattle.httparse.specs.Pieces.{is_newline, Stops}
use Rattle.httparse.proofs.RunLemmas.{run_unique, run_unstopped}
use Rattle.httparse.proofs.GrammarLemmas.{print_request-append, cons-append}
use Rattle.http_framing.specs.Target.{is_other, EndsAtSpace}
use Rattle.http_framing.proofs.ManyHeaders.{exceeding, print_lines-append}

-- ---- bytes without a space

other_byte : (test : ℕ → Bool) (x : ℕ) → test x ≡ true → test 32 ≡ false → (x == 32) ≡ false
other_byte test x passes stops = grind (arith, nat_tests, passes, stops)

every_other : (test : ℕ → Bool) → test 32 ≡ false → (xs : List ℕ) → AllPass test xs → list_all is_other xs ≡ true
every_other test stops [] all = refl
every_other test stops (x ∷ xs) all =
    let other = other_byte test x (All-head (λ b. test b ≡ true) x xs all) stops in
    let rest = every_other test stops xs (All-tail (λ b. test b ≡ true) x xs all) in
    rw other rest

-- bytes of a kind that a space is not of
others : (test : ℕ → Bool) → test 32 ≡ false → (xs : List ℕ) → AllPass test xs → AllPass is_other xs
others test stops xs all = AllPass-from_list_all is_other xs (every_other test stops xs all)

no_space_in_token : is_token_byte 32 ≡ false
unfolding is_token_byte
no_space_in_token = refl

every_newline : (ends : List LineEnd) → list_all is_newline (print_blank ends) ≡ true
every_newline [] = refl
every_newline (lf ∷ ends) = every_newline ends
every_newline (crlf ∷ ends) = every_newline ends

pub all_newlines : (ends : List LineEnd) → AllPass is_newline (print_blank ends)
all_newlines ends = AllPass-from_list_all is_newline (print_blank ends) (every_newline ends)

before_space : (blank : List LineEnd) (method : List ℕ) → IsToken method → AllPass is_other (print_blank blank ++ method)
before_space blank method token =
    All-append (λ b. is_other b ≡ true) (print_blank blank) method (others is_newline refl (print_blank blank) (all_newlines blank))
    (others is_token_byte no_space_in_token method token.1)

-- what comes before the first space of a request line, and behind it
same_parts : (xs ys : List ℕ) (blank : List LineEnd) (method after : List ℕ) → AllPass is_other xs → IsToken method
    → xs ++ 32 ∷ ys ≡ (print_blank blank ++ method) ++ 32 ∷ after → (xs ≡ print_blank blank ++ method) × (ys ≡ after)
same_parts xs ys blank method after all token e =
    let parts = run_unique is_other xs (print_blank blank ++ method) (32 ∷ ys) (32 ∷ after) all (before_space blank method token) refl refl e in
    let behind = parts.1 in
    (parts.0, cc)

-- ---- what decides it

-- the first space is followed by bytes of a target
pub in_target : (xs ys : List ℕ) → AllPass is_other xs → AllPass is_uri_byte ys → EndsInTarget (xs ++ 32 ∷ []) → EndsInTarget (xs ++ 32 ∷ ys)
in_target xs ys all pass (blank, method, cut, token, uri, parts) =
    let same = same_parts xs [] blank method cut all token parts in
    (blank, method, ys, token, pass, ap (λ (x : List ℕ). x ++ 32 ∷ ys) same.0)

pub target_begins : (xs ys : List ℕ) → AllPass is_other xs → EndsInTarget (xs ++ 32 ∷ ys) → EndsInTarget (xs ++ 32 ∷ []) × AllPass is_uri_byte ys
target_begins xs ys all (blank, method, target, token, uri, parts) =
    let same = same_parts xs ys blank method target all token parts in (
      (blank, method, [], token, AllPass-from_list_all is_uri_byte [] refl, ap (λ (x : List ℕ). x ++ 32 ∷ []) same.0),
      subst (AllPass is_uri_byte) (sym same.1) uri,
    )

-- a line of a head begins so
pub line_begins : (xs more : List ℕ) (h : RequestHead) (after : List ℕ) → AllPass is_other xs → IsRequestHead h
    → (xs ++ 32 ∷ []) ++ more ≡ print_blank h.blank ++ (h.method ++ 32 ∷ after) → EndsInTarget (xs ++ 32 ∷ [])
line_begins xs more h after all is e =
    let whole : xs ++ 32 ∷ more ≡ (print_blank h.blank ++ h.method) ++ 32 ∷ after =
    sym (append_assoc xs (32 ∷ []) more) ∙ e ∙ sym (append_assoc (print_blank h.blank) h.method (32 ∷ after)) in
    let same = same_parts xs more h.blank h.method after all is.method whole in
    (h.blank, h.method, [], is.method, AllPass-from_list_all is_uri_byte [] refl, ap (λ (x : List ℕ). x ++ 32 ∷ []) same.0)

-- the same of what a parser found in bytes that end with their first space
module _ {bytes : List ℕ} (at_space : EndsAtSpace bytes) where
  begun : (more : List ℕ) (h : RequestHead) (after : List ℕ) → IsRequestHead h → bytes ++ more ≡ print_blank h.blank ++ (h.method ++ 32 ∷ after) → EndsInTarget bytes
  begun more h after is e =
      let whole = ap (λ (x : List ℕ). x ++ more) (sym at_space.2) ∙ e in
      subst EndsInTarget (sym at_space.2) (line_begins at_space.0 more h after at_space.1 is whole)

  pub head_begun : (h : RequestHead) (rest : List ℕ) → ReadsRequest bytes h rest → EndsInTarget bytes
  head_begun h rest reads = begun [] h _ reads.0 (append-nil bytes ∙ reads.1 ∙ print_request-append h rest)

  pub part_begun : MayBecomeRequest bytes → EndsInTarget bytes
  part_begun (inl (more, h, reads)) = begun more h _ reads.0 (reads.1 ∙ print_request-append h [])
  part_begun (inr in_target) = in_target

  pub many_begun : (room : ℕ) → RequestExceeds room bytes → EndsInTarget bytes
  many_begun room exceeds =
      let found = exceeding room bytes exceeds in
      begun [] found.0 _ found.2 (append-nil bytes ∙ found.3 ∙ print_lines-append found.0 found.1)

-- ---- what follows can make a head of it

-- the shortest head of a method
abbrev short_head : List LineEnd → List ℕ → RequestHead
short_head blank method = record {
  blank = blank;
  method = method;
  target = 47 ∷ [];
  minor = 0;
  line_end = lf;
  fields = [];
  last = lf;
}

-- what it goes on with behind the space after the method
abbrev short_rest : List ℕ
short_rest = 47 ∷ 32 ∷ 72 ∷ 84 ∷ 84 ∷ 80 ∷ 47 ∷ 49 ∷ 46 ∷ 48 ∷ 10 ∷ 10 ∷ []

slash_is_ascii : IsAscii (47 ∷ [])
slash_is_ascii zero = omega arith
slash_is_ascii (suc zero) = omega arith
slash_is_ascii (suc (suc i)) = omega arith

short_reads : (blank : List LineEnd) (method : List ℕ) → IsToken method
    → ReadsRequest (((print_blank blank ++ method) ++ 32 ∷ []) ++ short_rest) (short_head blank method) []
short_reads blank method token = (
  record {
    method = token;
    target = (omega arith, AllPass-from_list_all is_uri_byte (47 ∷ []) refl);
    target_text = IsUtf8-from_ascii (47 ∷ []) slash_is_ascii;
    minor = omega arith;
    fields = All-nil IsField;
  },
  simp (append_assoc, cons-append) refl ∙ sym (print_request-append (short_head blank method) []),
)

-- what can never become a head ends at no method
pub no_method : (xs : List ℕ) → AllPass is_other xs → NeverHasRequest (xs ++ 32 ∷ []) → EndsInTarget (xs ++ 32 ∷ []) → ⊥
no_method xs all never (blank, method, cut, token, uri, parts) =
    let same = same_parts xs [] blank method cut all token parts in
    let P : List ℕ → Type 0 = λ x. ReadsRequest ((x ++ 32 ∷ []) ++ short_rest) (short_head blank method) [] in
    never short_rest (short_head blank method) [] (subst P (sym same.0) (short_reads blank method token))

-- ---- more bytes

-- where two lists are cut at two places
cut_twice : (a b c d : List ℕ) → a ++ b ≡ c ++ d → ((left : List ℕ) × (c ≡ a ++ left)) ⊎ ((x : ℕ) × (left : List ℕ) × (a ≡ c ++ x ∷ left) × (d ≡ (x ∷ left) ++ b))
cut_twice [] b c d e = inl (c, refl)
cut_twice (x ∷ a) b [] d e = inr (x, a, refl, sym e)
cut_twice (x ∷ a) b (y ∷ c) d e =
    let first : x ≡ y = cc in
    let tails : a ++ b ≡ c ++ d = cc in
    elim (cut_twice a b c d tails) [
      | inl (left, is) ↦ inl (left, cc)
      | inr (z, left, is, rest) ↦ inr (z, left, cc, rest)
    ]

-- bytes that can never become a head end in no target that they did not begin
pub past_target-append : (bytes more : List ℕ) → NeverHasRequest bytes → ¬ (EndsInTarget bytes) → ¬ (EndsInTarget (bytes ++ more))
past_target-append bytes more never past (blank, method, target, token, uri, parts) =
    elim (cut_twice bytes more (print_blank blank ++ method) (32 ∷ target) parts) [
      | inl (left, is) ↦
          let P : List ℕ → Type 0 = λ x. ReadsRequest x (short_head blank method) [] in
          let whole : ((print_blank blank ++ method) ++ 32 ∷ []) ++ short_rest ≡ bytes ++ (left ++ 32 ∷ short_rest) =
          ap (λ (x : List ℕ). (x ++ 32 ∷ []) ++ short_rest) is ∙ simp (append_assoc, cons-append) refl in
          never (left ++ 32 ∷ short_rest) (short_head blank method) [] (subst P whole (short_reads blank method token))
      | inr (space, left, is, rest) ↦
          let first : space ≡ 32 = cc in
          let behind : target ≡ left ++ more = cc in
          let front : take (length left) target ≡ left = ap (take (length left)) behind ∙ take-append_seam left more in
          let pass = subst (AllPass is_uri_byte) front (All-take (λ b. is_uri_byte b ≡ true) (length left) target uri) in
          past (blank, method, left, token, pass, is ∙ ap (λ (b : ℕ). (print_blank blank ++ method) ++ b ∷ left) first)
    ]

-- ---- the first space of some bytes

is_space : (x : ℕ) → is_other x ≡ false → x ≡ 32
is_space x other = grind (arith, nat_tests, other)

module _ (bytes : List ℕ) (len : ℕ) (inside : len ≤ length bytes) (all : AllPass is_other (take len bytes)) (ends : (len ≡ length bytes) ⊎ Stops is_other (drop len bytes)) where
  cut_at : (len ≡ length bytes → ⊥) → drop len bytes ≡ 32 ∷ drop (len + 1) bytes
  cut_at within = by_first (drop len bytes) (stops ends) (drop-drop 1 len bytes)
    where
      stops : (len ≡ length bytes) ⊎ Stops is_other (drop len bytes) → Stops is_other (drop len bytes)
      stops (inl whole) = absurd (within whole)
      stops (inr found) = found

      by_first : (xs : List ℕ) → Stops is_other xs → {rest : List ℕ} → drop 1 xs ≡ rest → xs ≡ 32 ∷ rest
      by_first [] none e = absurd none
      by_first (x ∷ xs) other e =
          let space : x ≡ 32 = is_space x other in cc

  whole_at : (len ≡ length bytes → ⊥) → bytes ≡ take len bytes ++ 32 ∷ drop (len + 1) bytes
  whole_at within = sym (take-append-drop len bytes) ∙ ap (λ (x : List ℕ). take len bytes ++ x) (cut_at within)

  front_at : (len ≡ length bytes → ⊥) → take (len + 1) bytes ≡ take len bytes ++ 32 ∷ []
  front_at within =
      ap (take (len + 1)) (whole_at within) ∙ ap (λ (k : ℕ). take (k + 1) (take len bytes ++ 32 ∷ drop (len + 1) bytes)) (sym (length-take-le len bytes inside))
      ∙ take-append-add (take len bytes) (32 ∷ drop (len + 1) bytes) 1

  pub ends_at_space : (len ≡ length bytes → ⊥) → EndsAtSpace (take (len + 1) bytes)
  ends_at_space within = (take len bytes, all, front_at within)

  -- without a space there is no target
  pub no_space : len ≡ length bytes → EndsInTarget bytes → ⊥
  no_space whole (blank, method, target, token, uri, parts) =
      let every = take_all len bytes (omega (arith, whole)) in
      run_unstopped is_other (print_blank blank ++ method) (32 ∷ target) (subst (AllPass is_other) (every ∙ parts) all) refl

  pub target_at : (len ≡ length bytes → ⊥) → AllPass is_uri_byte (drop (len + 1) bytes) → EndsInTarget (take (len + 1) bytes) → EndsInTarget bytes
  target_at within pass begins =
      subst EndsInTarget (sym (whole_at within))
      (in_target (take len bytes) (drop (len + 1) bytes) all pass (subst EndsInTarget (front_at within) begins))

  pub at_target : (len ≡ length bytes → ⊥) → EndsInTarget bytes → EndsInTarget (take (len + 1) bytes) × AllPass is_uri_byte (drop (len + 1) bytes)
  at_target within in_it =
      let found = target_begins (take len bytes) (drop (len + 1) bytes) all (subst EndsInTarget (whole_at within) in_it) in
      (subst EndsInTarget (sym (front_at within)) found.0, found.1)

pub apart : (b : Bool) → b ≡ true → b ≡ false → ⊥
apart b holds fails = let same = sym holds ∙ fails in absurd (cc)
