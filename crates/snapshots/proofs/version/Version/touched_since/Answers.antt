use Rattle.std.specs.Prelude.{◌≡◌, ◌+◌, Some, None, length}
use Rattle.std.proofs.Common.{ap, subst, sym, ◌∙◌, arith}
use Rattle.std.proofs.lemmas.Bool.{cond-false}
use Rattle.model.specs.PurgeLog.{PurgeLog, is_overrun, purges_since}
use Rattle.model.specs.Changes.{every_id, changed_since}
use Rattle.model.specs.Database.{Database}
use Rattle.model.specs.History.{Chronicle, now}
use Rattle.model.specs.Compaction.{Marks, touched}
use Rattle.snapshots.specs.Version.{IsHistory}
use Rattle.snapshots.proofs.TouchedCount.{few-purges, few-updates, touched-count}
use Rattle.snapshots.proofs.version.Version.touched_since.Goals as goal

pub overflow_add-result : goal.overflow_add-result
overflow_add-result c =
    let h : Chronicle = c.args.self.now in
    let d : Database = c.self.inside.database in
    let history = subst IsHistory c.self.view_is c.self.invariant.history in
    let same : d ≡ now c.args.self.now = c.self.invariant.replayed ∙ ap now c.self.view_is in
    let m : Marks = record { update = c.args.update_mark; purge = c.args.purge_mark } in
    omega (arith, few-purges (now h) m history.database.log.numbered, few-updates (now h) m history.database.numbered, history.base.updates, history.base.purges, history.numbers, history.purges, history.few, c.count_above-purges.ensures, ap (λ (l : PurgeLog). length (purges_since l c.args.purge_mark)) c.purges-log.ensures.log, c.count_changed_since-updates.ensures, ap (λ (e : Database). length (purges_since e.purges c.args.purge_mark)) same, ap (λ (e : Database). length (changed_since every_id e c.args.update_mark)) same)

pub returns : goal.returns
returns c =
    let d : Database = c.self.inside.database in
    let same : d ≡ now c.args.self.now = c.self.invariant.replayed ∙ ap now c.self.view_is in
    let m : Marks = record { update = c.args.update_mark; purge = c.args.purge_mark } in
    let counted : c.count_above-purges.result + c.count_changed_since-updates.result ≡ length (touched d m) = omega (arith, touched-count d m, c.count_above-purges.ensures, ap (λ (l : PurgeLog). length (purges_since l c.args.purge_mark)) c.purges-log.ensures.log, c.count_changed_since-updates.ensures) in
    ap Some (counted ∙ ap (λ (e : Database). length (touched e m)) same)
    ∙ sym (cond-false (is_overrun (now c.args.self.now).purges c.args.purge_mark) None (Some (length (touched (now c.args.self.now) m)))
    (sym (ap (λ (e : Database). is_overrun e.purges c.args.purge_mark) same) ∙ sym (c.is_overrun.ensures ∙ ap (λ (l : PurgeLog). is_overrun l c.args.purge_mark) c.purges-log.ensures.log) ∙ c.if-is_overrun.false))
