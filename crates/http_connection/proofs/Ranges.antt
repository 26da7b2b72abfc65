-- Ranges of lists, as a window keeps them.
use Rattle.std.proofs.Common.{◌≡◌, ℕ, ◌+◌, ◌-◌, ◌≤◌, List, ◌++◌, length, take, drop, slice_range, ap, sym, ◌∙◌, arith}
use Rattle.std.proofs.Math.Seq.{take-add}
use Rattle.std.proofs.lemmas.Grind.{common_steps}
use Rattle.std.proofs.lemmas.List.{drop-drop, drop-take}

pub drop-slice_range : (xs : List ℕ) (start end n : ℕ) → start + n ≤ end → drop n (slice_range xs start end) ≡ slice_range xs (start + n) end
drop-slice_range xs start end n h =
    let size : end - start ≡ n + (end - (start + n)) = omega arith in
    ap (λ (k : ℕ). drop n (take k (drop start xs))) size ∙ drop-take n (end - (start + n)) (drop start xs) ∙ ap (take (end - (start + n))) (drop-drop n start xs)

pub length-slice_range : (xs : List ℕ) (start end : ℕ) → start ≤ end → end ≤ length xs → length (slice_range xs start end) ≡ end - start
length-slice_range xs start end h k = grind (arith, common_steps)

pub length-take-drop : (xs : List ℕ) (end n : ℕ) → end + n ≤ length xs → length (take n (drop end xs)) ≡ n
length-take-drop xs end n h = grind (arith, common_steps)

-- a range is what a front of the list has from `start` on
slice_range-take : (xs : List ℕ) (start end : ℕ) → start ≤ end → slice_range xs start end ≡ drop start (take end xs)
slice_range-take xs start end h =
    let size : start + (end - start) ≡ end = omega arith in
    sym (drop-take start (end - start) xs) ∙ ap (λ (k : ℕ). drop start (take k xs)) size

-- a range that grows, in a list that keeps its front
pub slice_range-more : (old new : List ℕ) (start end n : ℕ) → start ≤ end → take end new ≡ take end old
    → slice_range new start (end + n) ≡ slice_range old start end ++ take n (drop end new)
slice_range-more old new start end n h same =
    let size : (end + n) - start ≡ (end - start) + n = omega arith in
    let whole : start + (end - start) ≡ end = omega arith in
    let front = slice_range-take new start end h ∙ ap (drop start) same ∙ sym (slice_range-take old start end h) in
    let back = ap (take n) (drop-drop (end - start) start new ∙ ap (λ (k : ℕ). drop k new) whole) in
    ap (λ (k : ℕ). take k (drop start new)) size ∙ take-add (end - start) n (drop start new)
    ∙ ap (λ (t : List ℕ). t ++ take n (drop (end - start) (drop start new))) front
    ∙ ap (λ (t : List ℕ). slice_range old start end ++ t) back
