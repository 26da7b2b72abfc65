-- How lines are cut, and what their texts make together.
use Rattle.std.proofs.Common.{◌≡◌, ℕ, zero, suc, ◌<◌, ◌≤◌, List, [], ◌∷◌, length, take, drop, Bool, true, false, refl, ap, ◌∙◌, arith}
use Rattle.std.specs.Prelude.{◌==◌, slice_index, cond}
use Rattle.std.specs.List.{concat}
use Rattle.std.proofs.lemmas.Bool.{cond-true, cond-false}
use Rattle.replay_cli.specs.Lines.{onto, lines, lines_or_one}

-- a byte that isn't the line feed
other : (b : Bool) → (b ≡ true → ⊥) → b ≡ false
other true h = absurd (h refl)
other false h = refl

pub ends_here : (byte : ℕ) (text : List ℕ) → (byte == 10) ≡ true → lines (byte ∷ text) ≡ (byte ∷ []) ∷ lines text
ends_here byte text is = cond-true (byte == 10) ((byte ∷ []) ∷ lines text) (onto byte (lines text)) is

pub goes_on : (byte : ℕ) (text : List ℕ) → (byte == 10) ≡ false → lines (byte ∷ text) ≡ onto byte (lines text)
goes_on byte text is = cond-false (byte == 10) ((byte ∷ []) ∷ lines text) (onto byte (lines text)) is

-- the first line ends at the first line feed
pub cut-at : (text : List ℕ) (k : ℕ) → k < length text → (slice_index text k == 10) ≡ true
    → ((j : ℕ) → 0 ≤ j → j < k → (slice_index text j == 10) ≡ true → ⊥)
    → lines_or_one text ≡ take (suc k) text ∷ lines (drop (suc k) text)
cut-at [] k low is before = absurd (omega arith)
cut-at (byte ∷ text) zero low is before = ends_here byte text is
cut-at (byte ∷ []) (suc k) low is before = absurd (omega arith)
cut-at (byte ∷ next ∷ text) (suc k) low is before =
    goes_on byte (next ∷ text) (other (byte == 10) (before 0 (omega arith) (omega arith)))
    ∙ ap (onto byte) (cut-at (next ∷ text) k (omega arith) is (λ j least most. before (suc j) (omega arith) (omega arith)))

-- where there is no line feed, all is one line
pub cut-none : (text : List ℕ) → ((j : ℕ) → 0 ≤ j → j < length text → (slice_index text j == 10) ≡ true → ⊥)
    → lines_or_one text ≡ text ∷ []
cut-none [] none = refl
cut-none (byte ∷ []) none = goes_on byte [] (other (byte == 10) (none 0 (omega arith) (omega arith)))
cut-none (byte ∷ next ∷ text) none =
    goes_on byte (next ∷ text) (other (byte == 10) (none 0 (omega arith) (omega arith)))
    ∙ ap (onto byte) (cut-none (next ∷ text) (λ j least most. none (suc j) (omega arith) (omega arith)))

pub some_lines : (text : List ℕ) → 0 < length text → lines_or_one text ≡ lines text
some_lines [] some = absurd (omega arith)
some_lines (byte ∷ text) some = refl

-- ---- the lines in a row are the text

concat-onto : (byte : ℕ) (ls : List (List ℕ)) → concat (onto byte ls) ≡ byte ∷ concat ls
concat-onto byte [] = refl
concat-onto byte (line ∷ ls) = refl

concat-if : (b : Bool) (byte : ℕ) (text : List ℕ) (ls : List (List ℕ)) → concat ls ≡ text
    → concat (cond b ((byte ∷ []) ∷ ls) (onto byte ls)) ≡ byte ∷ text
concat-if true byte text ls is = ap (λ t. byte ∷ t) is
concat-if false byte text ls is = concat-onto byte ls ∙ ap (λ t. byte ∷ t) is

pub concat-lines : (text : List ℕ) → concat (lines text) ≡ text
concat-lines [] = refl
concat-lines (byte ∷ text) = concat-if (byte == 10) byte text (lines text) (concat-lines text)

pub concat-lines_or_one : (text : List ℕ) → concat (lines_or_one text) ≡ text
concat-lines_or_one [] = refl
concat-lines_or_one (byte ∷ text) = concat-lines (byte ∷ text)
