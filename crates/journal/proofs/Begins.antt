-- What a server starts with, of the file that was read.
use Rattle.std.proofs.Common.{◌≡◌, ℕ, List, inr, subst}
use Rattle.std.specs.Prelude.{Option, Result, Ok, Err, IfOk}
use Rattle.journal.specs.Marks.{mark_for, raise_by, synced_by}
use Rattle.journal.specs.Restoring.{IsRestored}
use Rattle.journal.specs.Starting.{IsBegunAfter, IsStarted}
use Rattle.journal.specs.declared.boot.BootId.{BootId}
use Rattle.journal.specs.declared.mark.Mark.{Mark}
use Rattle.journal.specs.declared.restored.Restored.{Restored}
use Rattle.journal.specs.declared.started.Started.{Started}

pub started_by : {E : Type 0} (result : Result Started E) (text : List ℕ) (boot : BootId) (found mark : Option Mark) (len read : ℕ) (left : Restored) → mark ≡ mark_for found read
    → IsRestored text (synced_by mark) (raise_by mark boot len) left → IfOk result (IsBegunAfter read found len left) → IfOk result IsStarted
started_by (Err fault) text boot found mark len read left is restored after = tt
started_by (Ok s) text boot found mark len read left is restored after = inr (
  text,
  record {
    boot = boot;
    found = found;
    len = len;
    read = read;
    left = left;
    restored = subst (λ (m : Option Mark). IsRestored text (synced_by m) (raise_by m boot len) left) is restored;
    after = after;
  },
)
