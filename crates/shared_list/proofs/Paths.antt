-- A tree put at the end of a path, and taken from it.
use Rattle.std.proofs.Common.{◌≡◌, ℕ, zero, suc, ◌+◌, ◌-◌, ◌<◌, ◌≤◌, List, [], ◌∷◌, ◌++◌, take, length, slice_index_or, Option, Some, None, refl, sym, ap, subst, ◌∙◌, append_assoc, arith}
use Rattle.std.proofs.lemmas.List.{append-nil, length-take-le}
use Rattle.std.proofs.Math.Seq.{take-suc}
use Rattle.std.specs.Borrow.{Bor}
use Rattle.shared_list.specs.Path.{waiting, due, FitsAt, FitFrom}

take_last : {X : Type 0} (xs : List X) (n : ℕ) (d : X) → 0 < n → n ≤ length xs → take n xs ≡ take (n - 1) xs ++ slice_index_or xs (n - 1) d ∷ []
take_last xs n d some within =
    let next : suc (n - 1) ≡ n = omega arith in
    subst (λ k. take k xs ≡ take (n - 1) xs ++ slice_index_or xs (n - 1) d ∷ []) next (take-suc xs (n - 1) d (omega arith))

module _ {T : Type 0} where
  pub waiting-push : (ps : List (Option (Bor (List T) × ℕ))) (p : Bor (List T) × ℕ) → waiting (ps ++ Some p ∷ []) ≡ due p.0.now p.1 ++ waiting ps
  waiting-push [] p = sym (append-nil (due p.0.now p.1))
  waiting-push (None ∷ ps) p = waiting-push ps p
  waiting-push (Some q ∷ ps) p = ap (λ es. es ++ due q.0.now q.1) (waiting-push ps p) ∙ append_assoc (due p.0.now p.1) (waiting ps) (due q.0.now q.1)

  pub FitFrom-push : (i : ℕ) (ps : List (Option (Bor (List T) × ℕ))) (p : Option (Bor (List T) × ℕ)) → FitFrom i ps → FitsAt (i + length ps) p → FitFrom i (ps ++ p ∷ [])
  FitFrom-push i [] p fit fits = (subst (λ j. FitsAt j p) (omega arith) fits, tt)
  FitFrom-push i (q ∷ ps) p fit fits = (fit.0, FitFrom-push (suc i) ps p fit.1 (subst (λ j. FitsAt j p) (omega arith) fits))

  FitFrom-front : (i : ℕ) (ps : List (Option (Bor (List T) × ℕ))) (p : Option (Bor (List T) × ℕ)) → FitFrom i (ps ++ p ∷ []) → FitFrom i ps
  FitFrom-front i [] p fit = tt
  FitFrom-front i (q ∷ ps) p fit = (fit.0, FitFrom-front (suc i) ps p fit.1)

  FitFrom-last : (i : ℕ) (ps : List (Option (Bor (List T) × ℕ))) (p : Option (Bor (List T) × ℕ)) → FitFrom i (ps ++ p ∷ []) → FitsAt (i + length ps) p
  FitFrom-last i [] p fit = subst (λ j. FitsAt j p) (omega arith) fit.0
  FitFrom-last i (q ∷ ps) p fit = subst (λ j. FitsAt j p) (omega arith) (FitFrom-last (suc i) ps p fit.1)

  -- p is the innermost of the places in use
  pub record IsInnermost (places : List (Option (Bor (List T) × ℕ))) (depth : ℕ) (p : Option (Bor (List T) × ℕ)) : Type 0 where
    pub held : take depth places ≡ take (depth - 1) places ++ p ∷ []
    pub fit : FitFrom 0 (take (depth - 1) places)
    pub fits : FitsAt (depth - 1) p

  pub innermost : (places : List (Option (Bor (List T) × ℕ))) (depth : ℕ) (d : Option (Bor (List T) × ℕ)) {p : Option (Bor (List T) × ℕ)} → slice_index_or places (depth - 1) d ≡ p → 0 < depth → depth ≤ length places → FitFrom 0 (take depth places) → IsInnermost places depth p
  innermost places depth d {p} is some within fit =
      let front = take (depth - 1) places in
      let held = take_last places depth d some within ∙ ap (λ q. front ++ q ∷ []) is in
      let all : FitFrom 0 (front ++ p ∷ []) = subst (FitFrom 0) held fit in
      let length_is : 0 + length front ≡ depth - 1 = omega (arith, length-take-le (depth - 1) places (omega arith)) in
      record { held = held; fit = FitFrom-front 0 front p all; fits = subst (λ i. FitsAt i p) length_is (FitFrom-last 0 front p all) }

  pub some_node : (i : ℕ) (p : Option (Bor (List T) × ℕ)) → FitsAt i p → ((n : Bor (List T) × ℕ) → p ≡ Some n → ⊥) → ⊥
  some_node i None fits no_node = fits
  some_node i (Some n) fits no_node = no_node n refl

pub length_take_le : {X : Type 0} (n : ℕ) (xs : List X) → length (take n xs) ≤ n
length_take_le zero xs = omega arith
length_take_le (suc n) [] = omega arith
length_take_le (suc n) (x ∷ xs) = omega (arith, length_take_le n xs)
