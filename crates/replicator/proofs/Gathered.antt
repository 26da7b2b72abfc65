-- Revisions that are gathered by their documents.
use Rattle.std.proofs.Common.{◌≡◌, List, [], ◌∷◌, ◌++◌, map, refl, ap, sym, subst, ◌∙◌, Bool, true, false, cond, Option, Some}
use Rattle.std.specs.Prelude.{T, option_map}
use Rattle.std.specs.BTreeMap.{BTreeMap, IsOrdered, get as get_in, is_at}
use Rattle.std.specs.FinMap.Entries.{below_all, find, is_sorted}
use Rattle.std.specs.List.{AllByRecursion}
use Rattle.std.specs.List.Sorted.{IsStrictlySortedBy}
use Rattle.std.specs.Map.{keys_of, lookup}
use Rattle.std.specs.Ordering.{is_eq, is_lt}
use Rattle.std.specs.declared.alloc.Global.{Global}
use Rattle.std.specs.declared.cmp.Ordering.TheVariants.{Less}
use Rattle.std.specs.declared.vec.Vec.{Vec}
use Rattle.model.specs.Map.{entries, get, get-put, same_key, same_key-equal, same_key_itself, same_map}
use Rattle.model.specs.Truth.{both}
use Rattle.model.specs.Command.{Id, names}
use Rattle.model.specs.Query.{Row}
use Rattle.model.specs.Revision.{Rev}
use Rattle.replicator.specs.Asked.{Asked, revs_asked, with_row}
use Rattle.replicator.specs.Gathered.{Holds}

-- a document with the revisions that are gathered of it
abbrev pub pair_of : Id × Vec Rev Global → Id × List Rev
pair_of e = (e.0, e.1.items)

-- ---- the gathered revisions in the order of the ids

found-pair : (es : List (Id × Vec Rev Global)) (q : Id) → find names.cmp q (map pair_of es) ≡ option_map (λ revs. revs.items) (lookup (is_at (names.cmp q)) es)
found-pair [] q = refl
found-pair (e ∷ es) q =
    elim (is_eq (names.cmp q e.0)) as (λ b. cond b (Some e.1.items) (find names.cmp q (map pair_of es)) ≡ option_map (λ (revs : Vec Rev Global). revs.items) (cond b (Some e.1) (lookup (is_at (names.cmp q)) es))) [
      | true ↦ refl
      | false ↦ found-pair es q
    ]

below-pairs : (k : Id) (es : List (Id × Vec Rev Global)) → AllByRecursion (λ y. names.cmp k y ≡ Less) (keys_of es) → T (below_all names.cmp k (map pair_of es))
below-pairs k [] h = tt
below-pairs k (e ∷ es) h = both _ _ (subst (λ r. T (is_lt r)) (sym h.0) tt) (below-pairs k es h.1)

rising-pairs : (es : List (Id × Vec Rev Global)) → IsStrictlySortedBy names.cmp (keys_of es) → T (is_sorted names.cmp (map pair_of es))
unfolding IsStrictlySortedBy
rising-pairs [] h = tt
rising-pairs (e ∷ es) h = both _ _ (below-pairs e.0 es h.0) (rising-pairs es h.1)

pub rising-gathered : (g : BTreeMap Id (Vec Rev Global)) (pairs : List (Id × List Rev)) → IsOrdered names.cmp g → pairs ≡ map pair_of g.entries → T (is_sorted names.cmp pairs)
rising-gathered g pairs ordered is = subst (λ (ps : List (Id × List Rev)). T (is_sorted names.cmp ps)) (sym is) (rising-pairs g.entries ordered)

pub same-gathered : (g : BTreeMap Id (Vec Rev Global)) (n m : Asked) → entries n ≡ map pair_of g.entries → Holds g m → n ≡ m
same-gathered g n m is holds = same_map {O = names} n m (λ q. ap (λ (ps : List (Id × List Rev)). find names.cmp q ps) is ∙ found-pair g.entries q ∙ holds q)

-- ---- one more row

flipped : (a b : Id) → is_eq (names.cmp a b) ≡ false → same_key names b a ≡ false
flipped a b apart =
    elim (same_key names b a) as (λ t. same_key names b a ≡ t → t ≡ false) [
      | true ↦ λ same. sym (subst (λ (x : Id). same_key names a x ≡ true) (sym (same_key-equal names b a same)) (same_key_itself names a)) ∙ apart
      | false ↦ λ _. refl
    ] refl

pub added-row : (old mid new : BTreeMap Id (Vec Rev Global)) (row : Row) (revs : Vec Rev Global)
    → ((m : Asked) → Holds old m → revs.items ≡ revs_asked m row.id ++ row.changes)
    → ((q : Id) → is_eq (names.cmp row.id q) ≡ false → get_in names.cmp mid q ≡ get_in names.cmp old q)
    → ((q : Id) → get_in names.cmp new q ≡ cond (is_at (names.cmp row.id) q) (Some revs) (get_in names.cmp mid q))
    → (m : Asked) → Holds old m → Holds new (with_row m row)
added-row old mid new row revs revs_are others updates m holds q =
    let there = get-put {O = names} m row.id (revs_asked m row.id ++ row.changes) q in
    let here = ap (λ (o : Option (Vec Rev Global)). option_map (λ revs. revs.items) o) (updates q) in
    here ∙
    elim (is_eq (names.cmp row.id q)) as (λ b. is_eq (names.cmp row.id q) ≡ b → option_map (λ (rs : Vec Rev Global). rs.items) (cond b (Some revs) (get_in names.cmp mid q)) ≡ get {O = names} (with_row m row) q) [
      | true ↦ λ same.
          let is : row.id ≡ q = same_key-equal names row.id q same in
          ap (λ (rs : List Rev). Some rs) (revs_are m holds)
          ∙ sym (there ∙ ap (λ (b : Bool). cond b (Some (revs_asked m row.id ++ row.changes)) (get {O = names} m q)) (subst (λ (x : Id). same_key names x row.id ≡ true) is (same_key_itself names row.id)))
      | false ↦ λ apart.
          ap (λ (o : Option (Vec Rev Global)). option_map (λ (rs : Vec Rev Global). rs.items) o) (others q apart) ∙ holds q
          ∙ sym (there ∙ ap (λ (b : Bool). cond b (Some (revs_asked m row.id ++ row.changes)) (get {O = names} m q)) (flipped row.id q apart))
    ] refl

pub ends-pairs : (ys zs : List (Id × Vec Rev Global)) → map (λ y. y) ys ≡ zs → map pair_of ys ≡ map pair_of zs
ends-pairs ys zs is = same ys ∙ ap (λ (es : List (Id × Vec Rev Global)). map pair_of es) is
  where
    same : (es : List (Id × Vec Rev Global)) → map pair_of es ≡ map pair_of (map (λ y. y) es)
    same [] = refl
    same (e ∷ es) = λ i. pair_of e ∷ same es i
