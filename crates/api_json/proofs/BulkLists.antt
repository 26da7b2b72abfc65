-- Lists of what became of writes, over two slices side by side.
use Rattle.std.proofs.Common.{◌≡◌, ℕ, List, [], ◌∷◌, ◌++◌, append_assoc, append-nil, Option, Some, None, refl, sym, ap, subst, ◌∙◌, ◌⊎◌, inl, inr, Bor}
use Rattle.std.proofs.iter.Yields.{fronts}
use Rattle.std.proofs.lemmas.Iterator.{zips}
use Rattle.std.proofs.lemmas.Slice.Zip.{Zip-more, either_empty_from_Zip}
use Rattle.std.specs.Iterator.Adapters.{zip_first, zip_second}
use Rattle.std.specs.List.{zip}
use Rattle.std.specs.Slice.Iter.{iter_rest}
use Rattle.std.specs.declared.iter.Zip.{Zip}
use Rattle.std.specs.declared.slice.Iter.{Iter}
use Rattle.serde_json.specs.Data.{Data}
use Rattle.api_json.specs.List.{IsListAfter}
use Rattle.api_json.specs.declared.list.ListText.{ListText}

-- the items that are in the list, and those that are left, are all
pub record Remain (list : ListText) (left all : List Data) : Type 0 where
  pub items : List Data
  pub so_far : IsListAfter [] list items
  pub whole : items ++ left ≡ all

pub all_remain : (list : ListText) (all : List Data) → IsListAfter [] list [] → Remain list all all
all_remain list all h = record { items = []; so_far = h; whole = refl }

-- items are written
pub fewer_remain : (list new : ListText) (here more left all : List Data) → Remain list left all → left ≡ here ++ more
    → ((before : List ℕ) (items : List Data) → IsListAfter before list items → IsListAfter before new (items ++ here))
    → Remain new more all
fewer_remain list new here more left all h e pushed = record {
  items = h.items ++ here;
  so_far = pushed [] h.items h.so_far;
  whole = append_assoc h.items here more ∙ ap (λ l. h.items ++ l) (sym e) ∙ h.whole;
}

-- nothing is left
pub none_remain : (list : ListText) (left all : List Data) → Remain list left all → left ≡ [] → IsListAfter [] list all
none_remain list left all h e =
    let P : List Data → Type 0 = λ items. IsListAfter [] list items in
    subst P (sym (append-nil h.items) ∙ ap (λ l. h.items ++ l) (sym e) ∙ h.whole) h.so_far

-- ---- two slices side by side

zip-both : {A B : Type 0} (xs : List A) (ys : List B) (x : A) (y : B) (later : List A) (lasts : List B) → xs ≡ x ∷ later → ys ≡ y ∷ lasts → zip xs ys ≡ (x, y) ∷ zip later lasts
zip-both xs ys x y later lasts p q = ap (λ l. zip l ys) p ∙ ap (λ l. zip (x ∷ later) l) q

zip-nil : {A B : Type 0} (xs : List A) → zip {K = A} {X = B} xs [] ≡ []
zip-nil [] = refl
zip-nil (x ∷ xs) = refl

pub zip-turn : {A B : Type 0} (s t : Zip (Iter A) (Iter B)) (r : Option (Bor A × Bor B)) (p : Bor A × Bor B) → r ≡ Some p → zips fronts fronts s r t
    → zip (iter_rest (zip_first s)) (iter_rest (zip_second s)) ≡ (p.0.now, p.1.now) ∷ zip (iter_rest (zip_first t)) (iter_rest (zip_second t))
zip-turn s t r p e h =
    let rests = Zip-more s t r p e h in
    zip-both _ _ p.0.now p.1.now _ _ rests.0 rests.1

one_empty : {A B : Type 0} (xs : List A) (ys : List B) → (xs ≡ []) ⊎ (ys ≡ []) → zip xs ys ≡ []
one_empty xs ys (inl p) = ap (λ l. zip l ys) p
one_empty xs ys (inr q) = ap (λ l. zip xs l) q ∙ zip-nil xs

pub zip-done : {A B : Type 0} (s t : Zip (Iter A) (Iter B)) (r : Option (Bor A × Bor B)) → r ≡ None → zips fronts fronts s r t
    → zip (iter_rest (zip_first s)) (iter_rest (zip_second s)) ≡ []
zip-done s t r e h = one_empty _ _ (either_empty_from_Zip s t r e h)
