-- When an edit and a merge are taken, and the tree that they write.
use Rattle.std.specs.Prelude.{◌≡◌, ◌<◌, ◌≤◌, ℕ, Bool, true, false, nat_lt, List, ◌∷◌, Option, Some, None, unwrap_or, Result, Ok, Err, if◌then◌else◌, refl}
use Rattle.std.proofs.Common.{sym, ap, ◌∙◌, arith, ltb-true, ltb-false, lt-ltb, le-ltb}
use Rattle.model.specs.Map.{empty}
use Rattle.model.specs.Body.{Body}
use Rattle.model.specs.Revision.{Rev, child, generation_after, last_generation}
use Rattle.model.specs.Tree.{Tree}
use Rattle.model.specs.TreeChange.{Contradicts, graft, stem}
use Rattle.model.specs.Command.{Edit, Merge, Refusal, BadHistory, GenerationLimit}
use Rattle.model.specs.Edit.{Written, parent_for, stemmed, with_path, parent_path, written, child_written, edited, merged}
use Rattle.model.proofs.GraftLaws.{graft-None}

module _ (limit : ℕ) (o : Option Tree) where
  abbrev grafted_at : List Rev → Body → Bool → Option Tree
  grafted_at path body deleted = graft path body deleted (unwrap_or o empty)

  -- the path grafted, and then the tree stemmed
  pub record IsGrafted (r : Rev) (path : List Rev) (body : Body) (deleted : Bool) (w : Written) : Type 0 where
    pub tree : Tree
    pub grafts : grafted_at path body deleted ≡ Some tree
    pub is : w ≡ record { rev = r; tree = stem limit tree }

  grafted-taken : (r : Rev) (path : List Rev) (body : Body) (deleted : Bool) (w : Written) → written r (with_path limit o path body deleted) ≡ Ok w → IsGrafted r path body deleted w
  unfolding with_path
  grafted-taken r path body deleted w e = at (grafted_at path body deleted) refl e
    where
      at : (g : Option Tree) → grafted_at path body deleted ≡ g → written r (stemmed limit g) ≡ Ok w → IsGrafted r path body deleted w
      at None made e = absurd cc
      at (Some u) made e = record { tree = u; grafts = made; is = cc }

  taken-grafted : (r : Rev) (path : List Rev) (body : Body) (deleted : Bool) (w : Written) → IsGrafted r path body deleted w → written r (with_path limit o path body deleted) ≡ Ok w
  unfolding with_path
  taken-grafted r path body deleted w g = ap (λ t. written r (stemmed limit t)) g.grafts ∙ ap Ok (sym g.is)

  -- ---- merges

  pub merged-taken : (m : Merge) (w : Written) → merged limit o m ≡ Ok w → IsGrafted m.newest (m.newest ∷ m.older) m.body m.deleted w
  unfolding merged
  merged-taken m w e = grafted-taken m.newest (m.newest ∷ m.older) m.body m.deleted w e

  pub taken-merged : (m : Merge) (w : Written) → IsGrafted m.newest (m.newest ∷ m.older) m.body m.deleted w → merged limit o m ≡ Ok w
  unfolding merged
  taken-merged m w g = taken-grafted m.newest (m.newest ∷ m.older) m.body m.deleted w g

  pub merged-refused : (m : Merge) (f : Refusal) → merged limit o m ≡ Err f → (f ≡ BadHistory) × Contradicts (unwrap_or o empty) (m.newest ∷ m.older)
  unfolding merged with_path
  merged-refused m f e = at (grafted_at (m.newest ∷ m.older) m.body m.deleted) refl e
    where
      at : (g : Option Tree) → grafted_at (m.newest ∷ m.older) m.body m.deleted ≡ g → written m.newest (stemmed limit g) ≡ Err f → (f ≡ BadHistory) × Contradicts (unwrap_or o empty) (m.newest ∷ m.older)
      at None made e = (cc, (graft-None (m.newest ∷ m.older) m.body m.deleted (unwrap_or o empty)).0 made)
      at (Some u) made e = absurd cc

  pub refused-merged : (m : Merge) (f : Refusal) → (f ≡ BadHistory) × Contradicts (unwrap_or o empty) (m.newest ∷ m.older) → merged limit o m ≡ Err f
  unfolding merged with_path
  refused-merged m f h = ap (λ g. written m.newest (stemmed limit g)) ((graft-None (m.newest ∷ m.older) m.body m.deleted (unwrap_or o empty)).1 h.1) ∙ ap Err (sym h.0)

  -- ---- edits

  pub record IsEdited (e : Edit) (w : Written) : Type 0 where
    pub parent : Option Rev
    pub found : parent_for o e.named e.deleted ≡ Ok parent
    pub in_range : generation_after parent ≤ last_generation
    pub grafted : IsGrafted (child parent e.deleted e.body) (child parent e.deleted e.body ∷ parent_path parent) e.body e.deleted w

  pub edited-taken : (e : Edit) (w : Written) → edited limit o e ≡ Ok w → IsEdited e w
  unfolding edited
  edited-taken e w is = at (parent_for o e.named e.deleted) refl is
    where
      at : (found : Result (Option Rev) Refusal) → parent_for o e.named e.deleted ≡ found → child_written limit o e found ≡ Ok w → IsEdited e w
      at (Err f) found is = absurd cc
      at (Ok parent) found is =
          let r = child parent e.deleted e.body in
          let path = r ∷ parent_path parent in
          let within : nat_lt last_generation (generation_after parent) ≡ false = grind (arith, is) in
          let done : written r (with_path limit o path e.body e.deleted) ≡ Ok w = ap (λ b. if b then Err GenerationLimit else written r (with_path limit o path e.body e.deleted)) (sym within) ∙ is in
          record { parent = parent; found = found; in_range = ltb-false last_generation (generation_after parent) within; grafted = grafted-taken r path e.body e.deleted w done }

  pub taken-edited : (e : Edit) (w : Written) → IsEdited e w → edited limit o e ≡ Ok w
  unfolding edited
  taken-edited e w h =
      let r = child h.parent e.deleted e.body in
      let path = r ∷ parent_path h.parent in
      ap (child_written limit o e) h.found
      ∙ ap (λ b. if b then Err GenerationLimit else written r (with_path limit o path e.body e.deleted)) (le-ltb last_generation (generation_after h.parent) h.in_range)
      ∙ taken-grafted r path e.body e.deleted w h.grafted

  -- ---- the last generation

  never_past : (named : Option Rev) (deleted : Bool) → parent_for o named deleted ≡ Err GenerationLimit → ⊥
  never_past named deleted e = at o named deleted e
    where
      at : (o : Option Tree) (named : Option Rev) (deleted : Bool) → parent_for o named deleted ≡ Err GenerationLimit → ⊥
      at None named true e = cc
      at None None false e = cc
      at None (Some r) false e = cc
      at (Some t) (Some r) deleted e = grind (arith, e)
      at (Some t) None deleted e = grind (arith, e)

  pub edited-past : (e : Edit) → edited limit o e ≡ Err GenerationLimit → (parent : Option Rev) × (parent_for o e.named e.deleted ≡ Ok parent) × (last_generation < generation_after parent)
  unfolding edited with_path
  edited-past e is = at (parent_for o e.named e.deleted) refl is
    where
      at : (found : Result (Option Rev) Refusal) → parent_for o e.named e.deleted ≡ found → child_written limit o e found ≡ Err GenerationLimit → (parent : Option Rev) × (parent_for o e.named e.deleted ≡ Ok parent) × (last_generation < generation_after parent)
      at (Err f) found is = let same : f ≡ GenerationLimit = cc in absurd (never_past e.named e.deleted (found ∙ ap Err same))
      at (Ok parent) found is = let past : nat_lt last_generation (generation_after parent) ≡ true = grind (arith, is) in (parent, found, ltb-true last_generation (generation_after parent) past)

  pub past-edited : (e : Edit) (parent : Option Rev) → parent_for o e.named e.deleted ≡ Ok parent → last_generation < generation_after parent → edited limit o e ≡ Err GenerationLimit
  unfolding edited
  past-edited e parent found past =
      let r = child parent e.deleted e.body in
      ap (child_written limit o e) found ∙ ap (λ b. if b then Err GenerationLimit else written r (with_path limit o (r ∷ parent_path parent) e.body e.deleted)) (lt-ltb last_generation (generation_after parent) past)
