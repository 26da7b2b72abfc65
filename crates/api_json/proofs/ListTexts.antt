-- The text of a list, item by item.
use Rattle.std.proofs.Common.{◌≡◌, ℕ, Bool, true, false, List, [], ◌∷◌, ◌++◌, append_assoc, append-nil, refl, sym, ap, ◌∙◌}
use Rattle.serde_json.specs.Data.{Data}
use Rattle.serde_json.specs.View.{items_of}
use Rattle.serde_json.specs.Written.{comma_if, compact_text, items_text}
use Rattle.api_json.specs.List.{items_so_far, stands_after}

pub stands_after-push : (later : Bool) (items : List Data) (d : Data) → stands_after later (items ++ d ∷ []) ≡ true
stands_after-push later [] d = refl
stands_after-push later (e ∷ items) d = refl

pub stands_after-true : (items : List Data) → stands_after true items ≡ true
stands_after-true [] = refl
stands_after-true (e ∷ items) = refl

-- one more item
pub items_so_far-push : (later : Bool) (items : List Data) (d : Data)
    → items_so_far later (items ++ d ∷ []) ≡ items_so_far later items ++ (comma_if (stands_after later items) ++ compact_text d)
items_so_far-push later [] d = ap (λ t. comma_if later ++ t) (append-nil (compact_text d))
items_so_far-push later (e ∷ items) d =
    let more = items_so_far-push true items d ∙ ap (λ l. items_so_far true items ++ (comma_if l ++ compact_text d)) (stands_after-true items) in
    ap (λ t. comma_if later ++ (compact_text e ++ t)) more ∙ simp append_assoc refl

-- with the closing bracket
pub items_so_far-closed : (later : Bool) (items : List Data) → items_so_far later items ++ 93 ∷ [] ≡ items_text later (items_of items)
items_so_far-closed later [] = refl
items_so_far-closed later (e ∷ items) =
    simp append_assoc (ap (λ t. comma_if later ++ (compact_text e ++ t)) (items_so_far-closed true items))

regroup : (before tail comma text : List ℕ) → (((before ++ (91 ∷ tail)) ++ comma) ++ text) ≡ before ++ (91 ∷ (tail ++ (comma ++ text)))
regroup before tail comma text = simp append_assoc refl

-- a text with one more item behind it
pub one_more : (before old new : List ℕ) (later : Bool) (items more : List Data) (d : Data)
    → old ≡ before ++ (91 ∷ items_so_far false items) → later ≡ stands_after false items
    → new ≡ (old ++ comma_if later) ++ compact_text d → more ≡ items ++ d ∷ []
    → new ≡ before ++ (91 ∷ items_so_far false more)
one_more before old new later items more d stood comma pushed all =
    pushed ∙ ap (λ l. (old ++ comma_if l) ++ compact_text d) comma
    ∙ ap (λ t. (t ++ comma_if (stands_after false items)) ++ compact_text d) stood
    ∙ regroup before (items_so_far false items) (comma_if (stands_after false items)) (compact_text d)
    ∙ ap (λ t. before ++ (91 ∷ t)) (sym (ap (items_so_far false) all ∙ items_so_far-push false items d))
