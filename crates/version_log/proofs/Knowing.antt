-- Who knows the store of what is shown.
use Rattle.std.proofs.Common.{◌≡◌, List, [], Option, Some, fold, sym, subst}
use Rattle.std.specs.Prelude.{MatchResult, Ok, Err}
use Rattle.std.specs.declared.result.Result.{Result}
use Rattle.version_log.specs.declared.published.Shown.{Shown}
use Rattle.version_log.specs.Stores.{Store}
use Rattle.version_log.specs.Names.{Knows}

-- who knows what another knew
pub knows_as : (store : Store) (known later : Option Shown) → later ≡ known → Knows store known → Knows store later
knows_as store known later is k = subst (Knows store) (sym is) k

-- the same store by another name
pub knows_of : (store other : Store) (known : Option Shown) → store ≡ other → Knows store known → Knows other known
knows_of store other known is k = subst (λ (s : Store). Knows s known) is k

-- who knows what is shown now, which is of the store of what was shown
pub knows_shown : (store : Store) (shown : Shown) (known : Option Shown) → known ≡ Some shown → shown.0 ≡ store → Knows store known
knows_shown store shown known is of = record { shown = shown; some = is; of = of }

-- after a step that opens
pub knows_opened : {U E : Type 0} (r : Result U E) (v w : Option Shown) (x y : Shown) (pending old : List Shown) (ok : U) → r ≡ Ok ok
    → MatchResult r (λ _. (w ≡ Some y) × (y.0 ≡ x.0)) (λ _. w ≡ v) → MatchResult r (λ _. (y ≡ fold (λ (a b : Shown). b) x old) × (pending ≡ [])) (λ _. (y ≡ x) × (pending ≡ old)) → Knows x.0 w × (y.0 ≡ x.0) × (pending ≡ [])
knows_opened (Ok u) v w x y pending old ok is rule values = (knows_shown x.0 y w rule.0 rule.1, rule.1, values.1)
knows_opened (Err e) v w x y pending old ok is rule values = absurd (cc is)
