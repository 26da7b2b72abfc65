-- A check of each of some values, one after another.
use Rattle.std.specs.Prelude.{◌≡◌, List, [], ◌∷◌, Result, Ok, Err, ⊤}
use Rattle.std.specs.declared.alloc.Global.{Global}
use Rattle.std.specs.declared.vec.Vec.{Vec}
use Rattle.document_json.specs.Steps.{Checked, and_then}
use Rattle.document_json.specs.declared.fault.Fault.{Fault}
use Rattle.document_json.specs.declared.fault.Fault.TheVariants.{Refused, Memory}

-- what the check finds of each, unless it refuses one
abbrev pub each : {X Y : Type 0} → (X → Checked Y) → List X → Checked (List Y)
each check [] = Ok []
each check (x ∷ xs) = and_then (check x) (λ y. and_then (each check xs) (λ ys. Ok (y ∷ ys)))

-- the code finds what the checks find, unless memory is refused
abbrev pub DecidesEach : {Y : Type 0} → Result (Vec Y Global) Fault → Checked (List Y) → Type 0
DecidesEach (Ok found) checked = checked ≡ Ok found.items
DecidesEach (Err (Refused why)) checked = checked ≡ Err why
DecidesEach (Err Memory) checked = ⊤
