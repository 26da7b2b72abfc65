-- A map without a key, as the filtered list of its entries.
use Rattle.std.proofs.Common.{◌≡◌, Bool, true, false, cond, not, List, [], ◌∷◌, Some, None, if◌then◌else◌, refl, ap, ◌∙◌}
use Rattle.std.specs.declared.cmp.Ordering.{Ordering}
use Rattle.std.specs.declared.cmp.Ordering.TheVariants.{Less, Equal, Greater}
use Rattle.std.specs.Ordering.{is_eq, ordering_reverse}
use Rattle.cow_index.specs.Entries.{without}
use Rattle.model.specs.Command.{Id, names}
use Rattle.model.specs.Map.{same_key, refine_list}

tied_back : (o : Ordering) → is_eq (ordering_reverse o) ≡ is_eq o
tied_back Less = refl
tied_back Equal = refl
tied_back Greater = refl

same_key-sym : (a b : Id) → same_key names a b ≡ same_key names b a
same_key-sym a b = ap is_eq (names.total.antisymm a b) ∙ tied_back (names.cmp b a)

-- keeping each entry but one's is dropping that one
pub refine_list-without : {X : Type 0} (k : Id) (es : List (Id × X)) → refine_list names (λ q x. if same_key names q k then None else Some x) es ≡ without names.cmp k es
refine_list-without k [] = refl
refine_list-without {X} k (e ∷ es) =
    let r = refine_list names (λ q x. if same_key names q k then None else Some x) es in
    let kept : Bool → List (Id × X) = λ b. elim (if b then None else Some e.1) [ None ↦ r | Some y ↦ (e.0, y) ∷ r ] in
    let rest = refine_list-without k es in
    ap kept (same_key-sym e.0 k) ∙ elim (same_key names k e.0) as (λ b. kept b ≡ cond (not b) (e ∷ without names.cmp k es) (without names.cmp k es)) [ true ↦ rest | false ↦ ap (λ t. e ∷ t) rest ]
