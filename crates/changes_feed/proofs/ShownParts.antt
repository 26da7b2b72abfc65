-- Parts of a document, of lists that are made where one of two parts is asked for.
use Rattle.std.specs.Prelude.{◌≡◌, ◌||◌, Bool, true, false, not, [], filter, List, Some, None, option_map, refl, if◌then◌else◌}
use Rattle.std.specs.Bool.{beq, then_some}
use Rattle.std.proofs.Common.{ap, ◌∙◌}
use Rattle.model.specs.Revision.{Rev}
use Rattle.model.specs.Tree.{Tree, Leaf, leaves, path_of, revs_of}
use Rattle.model.specs.Query.{Options}
use Rattle.model.specs.Documents.{losers}
use Rattle.changes_feed.specs.Shown.{listed_leaves, listed_path, others_with, statuses_of}
use Rattle.changes_feed.proofs.LeafLists.{losers_by}

module _ {X Y : Type 0} (f : X → Y) (x z : X) (y : Y) where
  -- what the first part makes of such a list
  of_first : (a b : Bool) → (if a then f (if a || b then x else z) else y) ≡ (if a then f x else y)
  of_first true b = refl
  of_first false b = refl

  of_second : (a b : Bool) → (if b then f (if a || b then x else z) else y) ≡ (if b then f x else y)
  of_second true b = refl
  of_second false true = refl
  of_second false false = refl

then_some-map : {X Y : Type 0} (f : X → Y) (b : Bool) (x : X) → option_map f (then_some b x) ≡ (if b then Some (f x) else None)
then_some-map f true x = refl
then_some-map f false x = refl

is_false : (b : Bool) → beq b false ≡ not b
is_false true = refl
is_false false = refl

is_true : (b : Bool) → beq b true ≡ b
is_true true = refl
is_true false = refl

module _ (options : Options) (t : Tree) where
  pub revisions-listed : {X : Type 0} (items : X → List Rev) (path : X) (r : Rev) → items path ≡ listed_path options t r
      → option_map items (then_some options.revs path) ≡ (if options.revs then Some (path_of t r) else None)
  revisions-listed items path r e = then_some-map items options.revs path
      ∙ ap (λ rs. if options.revs then Some rs else None) e
      ∙ of_first (λ (rs : List Rev). Some rs) (path_of t r) [] None options.revs options.revs_info

  pub statuses-listed : (r : Rev) → (if options.revs_info then Some (statuses_of t (listed_path options t r)) else None) ≡ (if options.revs_info then Some (statuses_of t (path_of t r)) else None)
  statuses-listed r = of_second (λ (rs : List Rev). Some (statuses_of t rs)) (path_of t r) [] None options.revs options.revs_info

  live_others : others_with false t (revs_of (leaves t)) ≡ revs_of (filter (λ (l : Leaf). not l.deleted) (losers t))
  live_others = losers_by t (λ b. beq b false) ∙ (λ i. revs_of (filter (λ (l : Leaf). is_false l.deleted i) (losers t)))

  deleted_others : others_with true t (revs_of (leaves t)) ≡ revs_of (filter (λ (l : Leaf). l.deleted) (losers t))
  deleted_others = losers_by t (λ b. beq b true) ∙ (λ i. revs_of (filter (λ (l : Leaf). is_true l.deleted i) (losers t)))

  pub conflicts-listed : (if options.conflicts then others_with false t (listed_leaves options t) else []) ≡ (if options.conflicts then revs_of (filter (λ (l : Leaf). not l.deleted) (losers t)) else [])
  conflicts-listed = of_first (others_with false t) (revs_of (leaves t)) [] [] options.conflicts options.deleted_conflicts
      ∙ ap (λ rs. if options.conflicts then rs else []) live_others

  pub deleted_conflicts-listed : (if options.deleted_conflicts then others_with true t (listed_leaves options t) else []) ≡ (if options.deleted_conflicts then revs_of (filter (λ (l : Leaf). l.deleted) (losers t)) else [])
  deleted_conflicts-listed = of_second (others_with true t) (revs_of (leaves t)) [] [] options.conflicts options.deleted_conflicts
      ∙ ap (λ rs. if options.deleted_conflicts then rs else []) deleted_others
