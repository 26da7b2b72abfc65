-- Checks, one after another.
use Rattle.std.specs.Prelude.{◌≡◌, Bool, Option, Some, None, Result, Ok, Err, ⊤, if◌then◌else◌}
use Rattle.document_json.specs.declared.fault.Reason.{Reason}
use Rattle.document_json.specs.declared.fault.Fault.{Fault}
use Rattle.document_json.specs.declared.fault.Fault.TheVariants.{Refused, Memory}

-- what a check finds, or why it takes nothing
abbrev pub Checked : Type 0 → Type 0
Checked X = Result X Reason

-- one check, and where it refuses nothing the next
abbrev pub and_then : {X Y E : Type 0} → Result X E → (X → Result Y E) → Result Y E
and_then (Ok x) next = next x
and_then (Err reason) next = Err reason

-- a text that is not as its form asks
abbrev pub refused : {X : Type 0} → Reason → Checked X
refused reason = Err reason

-- what is there
abbrev pub or_refused : {X : Type 0} → Option X → Reason → Checked X
or_refused (Some x) reason = Ok x
or_refused None reason = refused reason

-- nothing but the test
abbrev pub check : Bool → Reason → Checked ⊤
check test reason = if test then Ok tt else refused reason

-- the code finds what the check finds, unless memory is refused
abbrev pub Decides : {X : Type 0} → Result X Fault → Checked X → Type 0
Decides (Ok x) checked = checked ≡ Ok x
Decides (Err (Refused reason)) checked = checked ≡ Err reason
Decides (Err Memory) checked = ⊤
