-- A text with lines behind its first one, as more of it comes.
use Rattle.std.proofs.Common.{◌≡◌, ◌∙◌, ℕ, zero, suc, ◌+◌, ◌<◌, ◌≤◌, Bool, true, false, cond, not, ◌||◌, List, [], ◌∷◌, ◌++◌, length, take, drop, get_or, refl, ap, sym, arith, length-append, append-nil, append_assoc, nat_eq, eqb-true, Some, None}
use Rattle.std.specs.Prelude.{nat_lt}
use Rattle.std.specs.List.{position, position_or_len}
use Rattle.std.proofs.lemmas.Bool.Decides.{nat_tests}
use Rattle.std.proofs.Math.Seq.{drop-append_seam}
use Rattle.http_guard.specs.Extended.{extended, is_line_feed}
use Rattle.http_guard.specs.Weaving.{first_line, has_line, is_line, shortened}

nothing : (xs : List ℕ) → nat_eq (length xs) 0 ≡ true → xs ≡ []
nothing [] is = refl
nothing (x ∷ xs) is = absurd (omega (arith, eqb-true (length (x ∷ xs)) 0 is))

-- ---- more bytes behind a first line

pub has_line-append : (text more : List ℕ) → has_line text ≡ true → has_line (text ++ more) ≡ true
has_line-append [] more is = absurd (cc)
has_line-append (b ∷ text) more is = at (has_line-append text more) (is_line_feed b) is
  where
    at : (has_line text ≡ true → has_line (text ++ more) ≡ true) → (c : Bool) → (c || has_line text) ≡ true → (c || has_line (text ++ more)) ≡ true
    at later true is = refl
    at later false is = later is

pub no_line-append : (text more : List ℕ) → has_line text ≡ false → has_line more ≡ false → has_line (text ++ more) ≡ false
no_line-append [] more none is = is
no_line-append (b ∷ text) more none is = at (λ h. no_line-append text more h is) (is_line_feed b) none
  where
    at : (has_line text ≡ false → has_line (text ++ more) ≡ false) → (c : Bool) → (c || has_line text) ≡ false → (c || has_line (text ++ more)) ≡ false
    at later true lacks = absurd (cc)
    at later false lacks = later lacks

pub is_line-append : (text more : List ℕ) → has_line text ≡ false → is_line more ≡ true → is_line (text ++ more) ≡ true
unfolding is_line
is_line-append [] more none is = is
is_line-append (b ∷ text) more none is = at (λ h. is_line-append text more h is) (is_line_feed b) none
  where
    at : (has_line text ≡ false → is_line (text ++ more) ≡ true) → (c : Bool) → (c || has_line text) ≡ false → cond c (nat_eq (length (text ++ more)) 0) (is_line (text ++ more)) ≡ true
    at later true lacks = absurd (cc)
    at later false lacks = later lacks

pub line-has : (text : List ℕ) → is_line text ≡ true → has_line text ≡ true
unfolding is_line
line-has [] is = absurd (cc)
line-has (b ∷ text) is = at (line-has text) (is_line_feed b) is
  where
    at : (is_line text ≡ true → has_line text ≡ true) → (c : Bool) → cond c (nat_eq (length text) 0) (is_line text) ≡ true → (c || has_line text) ≡ true
    at later true is = refl
    at later false is = later is

module _ (lines : List ℕ) where
  pub extended-append : (text more : List ℕ) → has_line text ≡ true → extended lines (text ++ more) ≡ extended lines text ++ more
  unfolding extended
  extended-append [] more is = absurd (cc)
  extended-append (b ∷ text) more is = at (extended-append text more) (is_line_feed b) is
    where
      at : (has_line text ≡ true → extended lines (text ++ more) ≡ extended lines text ++ more) → (c : Bool) → (c || has_line text) ≡ true → (b ∷ cond c (lines ++ (text ++ more)) (extended lines (text ++ more))) ≡ (b ∷ (cond c (lines ++ text) (extended lines text) ++ more))
      at later true is = ap (λ (xs : List ℕ). b ∷ xs) (sym (append_assoc lines text more))
      at later false is = ap (λ (xs : List ℕ). b ∷ xs) (later is)

  pub extended-after : (text more : List ℕ) → has_line text ≡ false → extended lines (text ++ more) ≡ text ++ extended lines more
  unfolding extended
  extended-after [] more lacks = refl
  extended-after (b ∷ text) more lacks = at (extended-after text more) (is_line_feed b) lacks
    where
      at : (has_line text ≡ false → extended lines (text ++ more) ≡ text ++ extended lines more) → (c : Bool) → (c || has_line text) ≡ false → (b ∷ cond c (lines ++ (text ++ more)) (extended lines (text ++ more))) ≡ (b ∷ (text ++ extended lines more))
      at later true lacks = absurd (cc)
      at later false lacks = ap (λ (xs : List ℕ). b ∷ xs) (later lacks)

  pub extended-line : (text : List ℕ) → is_line text ≡ true → extended lines text ≡ text ++ lines
  unfolding extended is_line
  extended-line [] is = absurd (cc)
  extended-line (b ∷ text) is = at (extended-line text) (is_line_feed b) is
    where
      at : (is_line text ≡ true → extended lines text ≡ text ++ lines) → (c : Bool) → cond c (nat_eq (length text) 0) (is_line text) ≡ true → (b ∷ cond c (lines ++ text) (extended lines text)) ≡ (b ∷ (text ++ lines))
      at later true is = let nil = nothing text is in ap (λ (xs : List ℕ). b ∷ xs) (ap (λ (xs : List ℕ). lines ++ xs) nil ∙ append-nil lines ∙ ap (λ (xs : List ℕ). xs ++ lines) (sym nil))
      at later false is = ap (λ (xs : List ℕ). b ∷ xs) (later is)

  pub extended-none : (text : List ℕ) → has_line text ≡ false → extended lines text ≡ text ++ lines
  unfolding extended
  extended-none text lacks = ap (extended lines) (sym (append-nil text)) ∙ extended-after text [] lacks

  pub extended-length : (text : List ℕ) → length (extended lines text) ≡ length text + length lines
  unfolding extended
  extended-length [] = omega arith
  extended-length (b ∷ text) = at (extended-length text) (is_line_feed b)
    where
      at : (length (extended lines text) ≡ length text + length lines) → (c : Bool) → length (b ∷ cond c (lines ++ text) (extended lines text)) ≡ suc (length text) + length lines
      at later true = omega (arith, length-append lines text)
      at later false = omega (arith, later)

  pub shortened-extended : (text : List ℕ) → has_line text ≡ true → shortened (length lines) (extended lines text) ≡ text
  unfolding extended shortened
  shortened-extended [] is = absurd (cc)
  shortened-extended (b ∷ text) is = at (shortened-extended text) (is_line_feed b) is
    where
      at : (has_line text ≡ true → shortened (length lines) (extended lines text) ≡ text) → (c : Bool) → (c || has_line text) ≡ true → (b ∷ cond c (drop (length lines) (cond c (lines ++ text) (extended lines text))) (shortened (length lines) (cond c (lines ++ text) (extended lines text)))) ≡ (b ∷ text)
      at later true is = ap (λ (xs : List ℕ). b ∷ xs) (drop-append_seam lines text)
      at later false is = ap (λ (xs : List ℕ). b ∷ xs) (later is)

-- ---- the front of a first line

pub first_line-front : (buf : List ℕ) (n : ℕ) → n ≤ length (first_line buf) → take n (first_line buf) ≡ take n buf
unfolding first_line
first_line-front [] n le = refl
first_line-front (b ∷ buf) zero le = refl
first_line-front (b ∷ buf) (suc n) le = at (first_line-front buf n) (is_line_feed b) le
  where
    at : (n ≤ length (first_line buf) → take n (first_line buf) ≡ take n buf) → (c : Bool) → suc n ≤ length (b ∷ cond c [] (first_line buf)) → (b ∷ take n (cond c [] (first_line buf))) ≡ (b ∷ take n buf)
    at later true le = let lacks : n ≡ 0 = omega arith in ap (λ (k : ℕ). b ∷ take k []) lacks ∙ sym (ap (λ (k : ℕ). b ∷ take k buf) lacks)
    at later false le = ap (λ (xs : List ℕ). b ∷ xs) (later (omega arith))

pub first_line-within : (buf : List ℕ) → length (first_line buf) ≤ length buf
unfolding first_line
first_line-within [] = omega arith
first_line-within (b ∷ buf) = at (first_line-within buf) (is_line_feed b)
  where
    at : (length (first_line buf) ≤ length buf) → (c : Bool) → length (b ∷ cond c [] (first_line buf)) ≤ suc (length buf)
    at later true = omega arith
    at later false = omega (arith, later)

pub first_line-some : (buf : List ℕ) → 0 < length buf → 0 < length (first_line buf)
unfolding first_line
first_line-some [] some = absurd (omega arith)
first_line-some (b ∷ buf) some = omega arith

-- the last of these bytes is the end of the line
pub part-ends : (buf : List ℕ) (n d : ℕ) → n < length (first_line buf) → is_line_feed (get_or (first_line buf) n d) ≡ true → is_line (take (suc n) (first_line buf)) ≡ true
unfolding first_line is_line
part-ends [] n d less is = absurd (omega arith)
part-ends (b ∷ buf) n d less is = at (λ m. part-ends buf m d) (is_line_feed b) refl n less is
  where
    at : ((m : ℕ) → m < length (first_line buf) → is_line_feed (get_or (first_line buf) m d) ≡ true → is_line (take (suc m) (first_line buf)) ≡ true) → (c : Bool) → is_line_feed b ≡ c → (n : ℕ) → n < length (b ∷ cond c [] (first_line buf)) → is_line_feed (get_or (b ∷ cond c [] (first_line buf)) n d) ≡ true
        → cond (is_line_feed b) (nat_eq (length (take n (cond c [] (first_line buf)))) 0) (is_line (take n (cond c [] (first_line buf)))) ≡ true
    at later true feed zero less is = rw feed refl
    at later true feed (suc n) less is = absurd (omega arith)
    at later false feed zero less is = absurd (cc)
    at later false feed (suc n) less is = rw feed (later n (omega arith) is)

-- it isn't
pub part-goes_on : (buf : List ℕ) (n d : ℕ) → n < length (first_line buf) → is_line_feed (get_or (first_line buf) n d) ≡ false → has_line (take (suc n) (first_line buf)) ≡ false
unfolding first_line
part-goes_on [] n d less is = absurd (omega arith)
part-goes_on (b ∷ buf) n d less is = at (λ m. part-goes_on buf m d) (is_line_feed b) refl n less is
  where
    at : ((m : ℕ) → m < length (first_line buf) → is_line_feed (get_or (first_line buf) m d) ≡ false → has_line (take (suc m) (first_line buf)) ≡ false) → (c : Bool) → is_line_feed b ≡ c → (n : ℕ) → n < length (b ∷ cond c [] (first_line buf)) → is_line_feed (get_or (b ∷ cond c [] (first_line buf)) n d) ≡ false
        → (is_line_feed b || has_line (take n (cond c [] (first_line buf)))) ≡ false
    at later true feed zero less is = absurd (cc)
    at later true feed (suc n) less is = absurd (omega arith)
    at later false feed zero less is = rw feed refl
    at later false feed (suc n) less is = rw feed (later n (omega arith) is)

-- ---- by the place of the first line feed

first_line-at : (xs : List ℕ) → position_or_len is_line_feed xs < length xs → take (position_or_len is_line_feed xs + 1) xs ≡ first_line xs
unfolding first_line
first_line-at [] less = absurd (omega arith)
first_line-at (b ∷ xs) less = at (first_line-at xs) (is_line_feed b) less
  where
    k : ℕ
    k = position_or_len is_line_feed xs

    at : (position_or_len is_line_feed xs < length xs → take (position_or_len is_line_feed xs + 1) xs ≡ first_line xs) → (c : Bool) → cond (not c) (1 + k) 0 < suc (length xs) → take (cond (not c) (1 + k) 0 + 1) (b ∷ xs) ≡ (b ∷ cond c [] (first_line xs))
    at later true less = refl
    at later false less =
        let more : 1 + k + 1 ≡ suc (k + 1) = omega arith in
        ap (λ (n : ℕ). take n (b ∷ xs)) more ∙ ap (λ (ys : List ℕ). b ∷ ys) (later (omega arith))

first_line-whole : (xs : List ℕ) → length xs ≤ position_or_len is_line_feed xs → xs ≡ first_line xs
unfolding first_line
first_line-whole [] le = refl
first_line-whole (b ∷ xs) le = at (first_line-whole xs) (is_line_feed b) le
  where
    k : ℕ
    k = position_or_len is_line_feed xs

    at : (length xs ≤ position_or_len is_line_feed xs → xs ≡ first_line xs) → (c : Bool) → suc (length xs) ≤ cond (not c) (1 + k) 0 → (b ∷ xs) ≡ (b ∷ cond c [] (first_line xs))
    at later true le = absurd (omega arith)
    at later false le = ap (λ (ys : List ℕ). b ∷ ys) (later (omega arith))

some_is : (k i : ℕ) → Some k ≡ Some i → k ≡ i
some_is k i same = cc

none_is : (k : ℕ) → Some k ≡ None → ⊥
none_is k same = cc

not_some : (i : ℕ) → None ≡ Some i → ⊥
not_some i same = cc

pub first_place : (xs : List ℕ) (i : ℕ) → position is_line_feed xs ≡ Some i → take (i + 1) xs ≡ first_line xs
first_place xs i is =
    elim (nat_lt (position_or_len is_line_feed xs) (length xs))
    as (λ (b : Bool). nat_lt (position_or_len is_line_feed xs) (length xs) ≡ b → cond b (Some (position_or_len is_line_feed xs)) None ≡ Some i → take (i + 1) xs ≡ first_line xs) [
      | true ↦ λ less same. ap (λ (n : ℕ). take (n + 1) xs) (sym (some_is (position_or_len is_line_feed xs) i same)) ∙ first_line-at xs (grind (arith, nat_tests))
      | false ↦ λ less same. absurd (not_some i same)
    ] refl is

pub no_place : (xs : List ℕ) → position is_line_feed xs ≡ None → xs ≡ first_line xs
no_place xs is =
    elim (nat_lt (position_or_len is_line_feed xs) (length xs))
    as (λ (b : Bool). nat_lt (position_or_len is_line_feed xs) (length xs) ≡ b → cond b (Some (position_or_len is_line_feed xs)) None ≡ None → xs ≡ first_line xs) [
      | true ↦ λ less same. absurd (none_is (position_or_len is_line_feed xs) same)
      | false ↦ λ less same. first_line-whole xs (grind (arith, nat_tests))
    ] refl is
