-- A check that refused.
use Rattle.std.proofs.Common.{◌≡◌, Result, Ok, Err, true≢false, sym, ap, subst}
use Rattle.std.specs.Result.{IsErr, IsErrAnd}
use Rattle.json_profile.specs.declared.fault.JsonFault.{JsonFault}
use Rattle.document_json.specs.Steps.{Checked, and_then, Decides}
use Rattle.document_json.specs.Text.{fault_of}
use Rattle.document_json.specs.declared.fault.Fault.{Fault}
use Rattle.document_json.specs.declared.fault.Fault.TheVariants.{Refused, Memory}

-- what follows it is not asked
pub refused_first : {X Y : Type 0} (fault : Fault) (first : Checked X) (next : X → Checked Y) → Decides {X = X} (Err fault) first → Decides {X = Y} (Err fault) (and_then first next)
refused_first (Refused why) first next h = ap (λ checked. and_then checked next) h
refused_first Memory first next h = tt

-- a fault of JSON is passed on
pub passed-fault : {X : Type 0} (told : Result X Fault) (f : JsonFault) (checked : Checked X) → IsErr told → IsErrAnd told (λ fault. fault ≡ fault_of f)
    → Decides {X = X} (Err (fault_of f)) checked → Decides told checked
passed-fault (Ok x) f checked err is h = absurd (true≢false (sym err))
passed-fault {X} (Err fault) f checked err is h = subst (λ e. Decides {X = X} (Err e) checked) (sym is) h
