-- Refusals that are passed on.
use Rattle.std.proofs.Common.{◌≡◌, sym, subst}
use Rattle.std.specs.Prelude.{Result, Ok, Err, IfErr, IsErrAnd}
use Rattle.sessions.specs.declared.fault.Fault.{Fault}
use Rattle.history_lock.specs.Refusals.{IsRefusal}

pub passed_on : {X : Type 0} (r : Result X Fault) (e : Fault) → IsErrAnd r (λ f. f ≡ e) → IsRefusal e → IfErr r IsRefusal
passed_on (Ok x) e is refused = absurd is
passed_on (Err f) e is refused = subst IsRefusal (sym is) refused
