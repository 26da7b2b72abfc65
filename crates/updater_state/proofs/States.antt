-- Going from state to state.
use Rattle.std.specs.Prelude.{Option}
use Rattle.std.proofs.Common.{◌≡◌, ◌<◌, List, [], ◌∷◌, length, refl, subst, sym, arith}
use Rattle.model.specs.Command.{Job}
use Rattle.model.specs.Database.{Database}
use Rattle.model.specs.World.{Config}
use Rattle.updater_state.specs.State.{State, Pops, Puts, Goes, stays, pops, puts, gives_up}

pub Goes-same : (base : Option Database) (config : Config) (s t u : State) → Goes base config s t → u ≡ t → Goes base config s u
Goes-same base config s t u g is = subst (Goes base config s) (sym is) g

pub Goes-pops : (base : Option Database) (config : Config) (s t u : State) → Goes base config s t → Pops base config t u → Goes base config s u
Goes-pops base config s t u g p = subst (Goes base config s) (sym p.popped) (pops s t p.job g p.few)

pub Goes-puts : (base : Option Database) (config : Config) (s t u : State) → Goes base config s t → Puts base config.max_places t u → Goes base config s u
Goes-puts base config s t u g p = subst (Goes base config s) (sym p.put) (puts s t g p.some p.room)

pub Goes-through : (base : Option Database) (config : Config) (s t u : State) → Goes base config s t → Goes base config t u → Goes base config s u
Goes-through base config s t _ g (stays _) = g
Goes-through base config s t _ g (pops _ v job h few) = pops s v job (Goes-through base config s t v g h) few
Goes-through base config s t _ g (puts _ v h some room) = puts s v (Goes-through base config s t v g h) some room
Goes-through base config s t _ g (gives_up _ v w h up) = gives_up s v w (Goes-through base config s t v g h) up

-- a put that was not refused
pub Goes-put : (base : Option Database) {X : Type 0} (config : Config) (s t u : State) → Goes base config s t → (t.batch ≡ [] → X × (u ≡ t)) → (0 < length t.batch → Puts base config.max_places t u) → Goes base config s u
Goes-put base config s t u g empty put = from t.batch refl
  where
    from : (jobs : List Job) → t.batch ≡ jobs → Goes base config s u
    from [] is = Goes-same base config s t u g (empty is).1
    from (job ∷ jobs) is = Goes-puts base config s t u g (put (subst (λ (l : List Job). 0 < length l) (sym is) (omega arith)))
