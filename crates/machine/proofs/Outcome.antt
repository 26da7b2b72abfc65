-- By the outcome of a call.
use Rattle.std.proofs.Common.{T, sym, subst}
use Rattle.std.specs.Prelude.{Result, Ok, Err, OnOk, OnErr, IsErr}

-- a fact that both outcomes give
pub by_outcome : {T E : Type 0} (P Q X : Type 0) (r : Result T E) → OnOk r P → OnErr r Q → (P → X) → (Q → X) → X
by_outcome P Q X (Ok x) p q f g = f p
by_outcome P Q X (Err x) p q f g = g q

-- what holds in any case holds after a fault
pub on_err : {T E : Type 0} (P : Type 0) (r : Result T E) → P → OnErr r P
on_err P (Ok x) p = tt
on_err P (Err x) p = p

-- after a fault nothing need hold of what a success leaves
pub not_ok : {T E : Type 0} (P : Type 0) (r : Result T E) → IsErr r → OnOk r P
not_ok P (Ok x) is = absurd (subst T (sym is) tt)
not_ok P (Err x) is = tt
