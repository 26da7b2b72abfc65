use Rattle.std.proofs.Common.{ℕ, ap, subst}
use Rattle.std.specs.Prelude.{Err}
use Rattle.journal.specs.Marks.{synced_by}
use Rattle.journal.specs.Refusing.{IsEndedBy, IsExhausted}
use Rattle.journal.specs.Restoring.{IsRestored}
use Rattle.journal.specs.Starting.{IsDamaged}
use Rattle.journal.specs.declared.restored.Raise.{Raise}
use Rattle.journal.proofs.folder.Folder.read.Goals as goal

pub returns-in_ok-of_file-in-Ok-clause-restored : goal.returns-in_ok-of_file-in-Ok-clause-restored
returns-in_ok-of_file-in-Ok-clause-restored g c =
    let left = c.in-Ok.ensures.restored in
    let synced = subst (λ (s : ℕ). IsRestored left.0 s c.raise_by-raise.result c.in-Ok.left) c.synced_by.ensures left.1 in
    (left.0, subst (λ (raise : Raise). IsRestored left.0 (synced_by c.args.mark) raise c.in-Ok.left) c.raise_by-raise.ensures synced)

pub returns-in-Err-clause-judged : goal.returns-in-Err-clause-judged
returns-in-Err-clause-judged g c = λ at v is.
    let of = c.of_epoch.ensures.judged at v cc in
    let ended = c.in-Err.ensures.judged v of.1.0 (ap Err of.1.1) in
    let damaged : IsDamaged v = record {
      text = ended.0;
      mark = c.args.mark;
      at = of.1.0;
      ended = subst (λ (s : ℕ). IsEndedBy s v of.1.0 ended.0) c.synced_by.ensures ended.1;
    } in
    (of.0, damaged)

pub returns-in-Err-clause-too_large : goal.returns-in-Err-clause-too_large
returns-in-Err-clause-too_large g c = λ is.
    let ended = c.in-Err.ensures.too_large (ap Err (c.of_epoch.ensures.too_large cc)) in
    let synced = subst (λ (s : ℕ). IsExhausted s c.raise_by-raise.result ended.0) c.synced_by.ensures ended.1 in
    record {
      text = ended.0;
      mark = c.args.mark;
      boot = c.args.self.now.boot;
      len = c.in_ok-len.len;
      exhausted = subst (λ (raise : Raise). IsExhausted (synced_by c.args.mark) raise ended.0) c.raise_by-raise.ensures synced;
    }
