-- Each step keeps the rule that who knows the store of what is shown knows it rightly.
use Rattle.std.proofs.Common.{◌≡◌, ◌≢◌, ℕ, zero, suc, arith, List, [], ◌∷◌, ◌++◌, set, sym, refl, ap, ◌∙◌, subst, ⊎_elim, Option, Some, None, fold, All}
use Rattle.std.specs.Prelude.{Option, MatchResult, Ok, Err}
use Rattle.std.specs.declared.result.Result.{Result}
use mathlib.Core.Option.{some, some-injective, some-ne-none}
use lib.ListN.{get_elem?}
use Rattle.std.proofs.lemmas.List.Elements.{All-push}
use Rattle.crossbeam_utils.specs.Register.{Admits, TurnsAt, Turns, Forks, Merges}
use Rattle.atomic_table.proofs.Lists.{at_set, at_snoc}
use Rattle.version_log.specs.Stores.{Store}
use Rattle.version_log.specs.declared.published.Shown.{Shown}
use Rattle.version_log.specs.Names.{OneStoreOf, FindsStore}

set_store : (x : Shown) (views : List (Option Shown)) (seat : ℕ) (v : Option Shown) → OneStoreOf x views → ((w : Shown) → v ≡ Some w → w.0 ≡ x.0) → OneStoreOf x (set views seat v)
set_store x views seat v h mine j w e = ⊎_elim (λ (t : (j ≡ seat) × (v ≡ Some w)). mine w t.1) (λ (t : (j ≢ seat) × (get_elem? views j ≡ some (Some w))). h j w t.1) (at_set views seat j v (Some w) e)

mine_is : (x : Shown) (views : List (Option Shown)) (seat : ℕ) (v : Option Shown) → OneStoreOf x views → get_elem? views seat ≡ some v → (w : Shown) → v ≡ Some w → w.0 ≡ x.0
mine_is x views seat v h at w is = h seat w (at ∙ ap some is)

pub begins : (x : Shown) → OneStoreOf x (None ∷ [])
begins x zero u e = absurd (cc (some-injective None (Some u) e))
begins x (suc seat) u e = absurd (some-ne-none (Some u) (sym e))

-- a change that keeps the store
pub keeps : (seat : ℕ) (v : Option Shown) (x y : Shown) → y.0 ≡ x.0 → TurnsAt OneStoreOf seat v x y FindsStore
keeps seat v x y same views h at =
    let mine = mine_is x views seat v h at in
    (v, set_store y views seat v (λ j w e. h j w e ∙ sym same) (λ w is. mine w is ∙ sym same), (mine, refl, same))

pub finds : (seat : ℕ) (v : Option Shown) → Turns OneStoreOf seat v (λ x. x) FindsStore
finds seat v x = keeps seat v x x refl

pub admits : Admits OneStoreOf None
admits x views h j w e = ⊎_elim (λ t. h j w t) (λ (t : None ≡ Some w). absurd (cc (t))) (at_snoc views None (Some w) j e)

pub tells : (seat : ℕ) (v : Option Shown) → Forks OneStoreOf seat v v v
tells seat v x views h at j w e = let mine = mine_is x views seat v h at in ⊎_elim (λ t. set_store x views seat v h mine j w t) (λ (t : v ≡ Some w). mine w t) (at_snoc (set views seat v) v (Some w) j e)

pub learns : (seat : ℕ) (v : Option Shown) (other : ℕ) (w : Option Shown) → Merges OneStoreOf seat v other w w None
learns seat v other w x views h at apart there =
    let theirs : (u : Shown) → w ≡ Some u → u.0 ≡ x.0 = λ u is. ⊎_elim (λ (t : (other ≡ seat) × (w ≡ w)). absurd (apart t.0)) (λ (t : (other ≢ seat) × (get_elem? views other ≡ some w)). h other u (t.1 ∙ ap some is)) (at_set views seat other w w there) in
    set_store x (set views seat w) other None (set_store x views seat w h theirs) (λ u (t : None ≡ Some u). absurd (cc (t)))

-- what all pending versions would show is of the store
last_of : (store : Store) (s : Shown) (ops : List Shown) → s.0 ≡ store → All (λ (o : Shown). o.0 ≡ store) ops → (fold (λ (old new : Shown). new) s ops).0 ≡ store
last_of store s [] is all = is
last_of store s (o ∷ ops) is all = last_of store o ops (all 0 o (omega arith)) (λ k d lt. all (suc k) d (omega (arith, lt)))

pub next_of : (x next : Shown) (ops : List Shown) → next ≡ fold (λ (old new : Shown). new) x ops → All (λ (o : Shown). o.0 ≡ x.0) ops → next.0 ≡ x.0
next_of x next ops is all = ap (λ (s : Shown). s.0) is ∙ last_of x.0 x ops (λ i. x.0) all

-- with nothing pending
pub next_same : (x next : Shown) (ops : List Shown) → next ≡ fold (λ (old new : Shown). new) x ops → ops ≡ [] → next.0 ≡ x.0
next_same x next ops is none = ap (λ (s : Shown). s.0) (is ∙ ap (λ (l : List Shown). fold (λ (old new : Shown). new) x l) none)

-- where a call kept the view and what is shown, or took a step that finds the store
pub same_store : {U E : Type 0} (r : Result U E) (v : Option Shown) (x y : Shown) (w : Option Shown) (A B : Type 0) → MatchResult r (λ _. FindsStore v x y w) (λ _. w ≡ v) → MatchResult r (λ _. A) (λ _. (y ≡ x) × B) → y.0 ≡ x.0
same_store (Ok u) v x y w A B said values = said.2
same_store (Err e) v x y w A B said values = ap (λ (s : Shown). s.0) values.0

pub opens : (seat : ℕ) (v : Option Shown) (x y : Shown) → y.0 ≡ x.0 → TurnsAt OneStoreOf seat v x y (λ v x y w. (w ≡ Some y) × (y.0 ≡ x.0))
opens seat v x y same views h at = (Some y, set_store y views seat (Some y) (λ j w e. h j w e ∙ sym same) (λ w (is : Some y ≡ Some w). sym (cc (is))), (refl, same))

-- one more that is of the store
pub one_more : (v : Shown) (old new : List Shown) (s : Shown) → All (λ (o : Shown). o.0 ≡ v.0) old → s.0 ≡ v.0 → new ≡ old ++ s ∷ [] → All (λ (o : Shown). o.0 ≡ v.0) new
one_more v old new s all is added = subst (All (λ (o : Shown). o.0 ≡ v.0)) (sym added) (All-push (λ (o : Shown). o.0 ≡ v.0) old s all is)
