-- Line feeds, and what a reader's next line is.
use Rattle.std.proofs.Common.{◌≡◌, ◌≢◌, ℕ, suc, ◌-◌, List, [], ◌∷◌, ◌++◌, length, take, Bool, true, false, All, inl, inr, refl, sym, ap, subst, ◌∙◌, arith, length-append}
use Rattle.std.specs.Prelude.{◌==◌, not, Option, Some, None, IfSome, MatchBool}
use Rattle.std.specs.Io.{StopsAt}
use Rattle.std.specs.Io.KnownBytes.{Consumes, IsAtEnd}
use Rattle.std.specs.Io.BufRead.{take_through, drop_through, DropsThrough}
use Rattle.std.proofs.lemmas.Bool.{cond-true, cond-false, and_parts, and_from, cases_Bool, ne_eqb}
use Rattle.std.proofs.lemmas.List.Elements.{All-head, All-tail}
use Rattle.std.proofs.Math.Seq.{take-append_seam}
use Rattle.history_json.specs.Lines.{is_one_line}
use Rattle.journal.specs.Replaying.{HasFeed, IsCut, IsWhole}

-- a text with a line feed at its end has one
pub not_one : (front : List ℕ) → is_one_line (front ++ 10 ∷ []) ≡ true → ⊥
not_one [] one = cc
not_one (byte ∷ front) one = not_one front (and_parts (not (byte == 10)) (is_one_line (front ++ 10 ∷ [])) one).1

no_feed : (byte : ℕ) → byte ≢ 10 → not (byte == 10) ≡ true
no_feed byte other = ap not (ne_eqb byte 10 other)

all_one : (xs : List ℕ) → All (λ x. x ≢ 10) xs → is_one_line xs ≡ true
all_one [] all = refl
all_one (x ∷ xs) all =
    and_from (not (x == 10)) (is_one_line xs) (no_feed x (All-head (λ (y : ℕ). y ≢ 10) x xs all)) (all_one xs (All-tail (λ (y : ℕ). y ≢ 10) x xs all))

-- a line with its line feed has no other
pub is_whole : (line front : List ℕ) → StopsAt line 10 → line ≡ front ++ 10 ∷ [] → IsWhole line
is_whole line front stops is =
    let counted : length line - 1 ≡ length front = omega (arith, ap length is, length-append front (10 ∷ [])) in
    let before : take (length line - 1) line ≡ front = ap (λ k. take k line) counted ∙ ap (take (length front)) is ∙ take-append_seam front (10 ∷ []) in
    record { front = front; one = all_one front (subst (All (λ x. x ≢ 10)) before stops); line_is = is }

-- one without has none
pub cut_one : (line : List ℕ) → StopsAt line 10 → (HasFeed line → ⊥) → is_one_line line ≡ true
cut_one [] stops none = refl
cut_one (x ∷ []) stops none = and_from (not (x == 10)) true (no_feed x (λ is. none ([], ap (λ (n : ℕ). n ∷ []) is))) refl
cut_one (x ∷ y ∷ xs) stops none =
    let counted : length (x ∷ y ∷ xs) - 1 ≡ suc (length (y ∷ xs) - 1) = omega arith in
    let all : All (λ z. z ≢ 10) (x ∷ take (length (y ∷ xs) - 1) (y ∷ xs)) = subst (λ k. All (λ z. z ≢ 10) (take k (x ∷ y ∷ xs))) counted stops in
    and_from (not (x == 10)) (is_one_line (y ∷ xs)) (no_feed x (All-head (λ (z : ℕ). z ≢ 10) x (take (length (y ∷ xs) - 1) (y ∷ xs)) all))
    (cut_one (y ∷ xs) (All-tail (λ (z : ℕ). z ≢ 10) x (take (length (y ∷ xs) - 1) (y ∷ xs)) all) (λ has. none (x ∷ has.0, ap (λ (l : List ℕ). x ∷ l) has.1)))

-- nothing is left behind a line that has none
rest_none : (xs : List ℕ) → is_one_line (take_through 10 xs) ≡ true → drop_through 10 xs ≡ []
rest_none [] one = refl
rest_none (x ∷ xs) one = elim (cases_Bool (x == 10)) [
  | inl is ↦
      let here : is_one_line (x ∷ []) ≡ true = subst (λ l. is_one_line l ≡ true) (cond-true (x == 10) (x ∷ []) (x ∷ take_through 10 xs) is) one in
      let other : not (x == 10) ≡ true = (and_parts (not (x == 10)) true here).0 in
      absurd (cc)
  | inr is ↦
      let more : is_one_line (x ∷ take_through 10 xs) ≡ true = subst (λ l. is_one_line l ≡ true) (cond-false (x == 10) (x ∷ []) (x ∷ take_through 10 xs) is) one in
      cond-false (x == 10) xs (drop_through 10 xs) is ∙ rest_none xs (and_parts (not (x == 10)) (is_one_line (take_through 10 xs)) more).1
]

at_end : (old new : Option (List ℕ)) (line : List ℕ) → IfSome old (λ xs. line ≡ take_through 10 xs) → DropsThrough old new 10 → is_one_line line ≡ true → IfSome old (λ _. IsAtEnd new)
at_end None new line took drops one = tt
at_end (Some xs) new line took drops one = subst IsAtEnd (sym drops) (rest_none xs (subst (λ l. is_one_line l ≡ true) took one))

-- what was read is a whole line, or the last one, which was cut
pub kind : (old new : Option (List ℕ)) (line : List ℕ) (whole : Bool) → MatchBool whole (HasFeed line) (HasFeed line → ⊥)
    → StopsAt line 10 → IfSome old (λ xs. line ≡ take_through 10 xs) → DropsThrough old new 10 → Consumes old new line
    → MatchBool whole (IsWhole line) (IsCut old new line)
kind old new line true has stops took drops consumed = is_whole line has.0 stops has.1
kind old new line false none stops took drops consumed =
    let one = cut_one line stops none in
    record { consumed = consumed; one = one; end = at_end old new line took drops one }
