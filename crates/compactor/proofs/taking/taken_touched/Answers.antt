use Rattle.std.specs.Prelude.{◌≡◌, ◌-◌, map, take, length}
use Rattle.std.proofs.Common.{ap, ◌∙◌, arith}
use Rattle.model.specs.Database.{Database}
use Rattle.model.specs.History.{now}
use Rattle.model.specs.PurgeLog.{PurgeLog, purges_since}
use Rattle.model.specs.Changes.{every_id, changed_since}
use Rattle.model.specs.Compaction.{Marks, of_update, passed, touched_id}
use Rattle.snapshots.specs.Taken.{taken_all}
use Rattle.compactor.proofs.FirstTouched.{count-touched, taken-both, passed-both, same-update}
use Rattle.compactor.proofs.taking.taken_touched.Goals as goal

pub returns-clause-taken : goal.returns-clause-taken
returns-clause-taken c =
    let d : Database = now c.args.version.now in
    let m : Marks = record { update = c.args.taken.update_mark; purge = c.args.taken.purge_mark } in
    let ps = take c.args.n (purges_since d.purges m.purge) in
    let same : c.in_ok-taken.taken.update_mark ≡ m.update = ap (λ (k : Marks). k.update) c.in_ok-taken.ensures.marks ∙ same-update m ps in
    let left : c.saturating_sub.result ≡ c.args.n - length (purges_since d.purges m.purge) = c.saturating_sub.ensures ∙ ap (λ k. c.args.n - k) (c.count_above-purges.ensures ∙ ap (λ (l : PurgeLog). length (purges_since l m.purge)) c.purges.ensures.log ∙ ap (λ (e : Database). length (purges_since e.purges m.purge)) c.database.ensures) in
    taken-both d m c.args.n c.saturating_sub.result left c.args.taken.records c.in_ok-taken.taken.records c.in_ok-taken-2.taken.records c.in_ok-taken.ensures.taken
    (c.in_ok-taken-2.ensures.taken ∙ ap (λ u. record c.in_ok-taken.taken.records { docs = taken_all c.in_ok-taken.taken.records.docs d (map touched_id (map of_update (take c.saturating_sub.result (changed_since every_id d u)))) }) same)

pub returns-clause-marks : goal.returns-clause-marks
returns-clause-marks c =
    let d : Database = now c.args.version.now in
    let m : Marks = record { update = c.args.taken.update_mark; purge = c.args.taken.purge_mark } in
    let ps = take c.args.n (purges_since d.purges m.purge) in
    let same : c.in_ok-taken.taken.update_mark ≡ m.update = ap (λ (k : Marks). k.update) c.in_ok-taken.ensures.marks ∙ same-update m ps in
    let left : c.saturating_sub.result ≡ c.args.n - length (purges_since d.purges m.purge) = c.saturating_sub.ensures ∙ ap (λ k. c.args.n - k) (c.count_above-purges.ensures ∙ ap (λ (l : PurgeLog). length (purges_since l m.purge)) c.purges.ensures.log ∙ ap (λ (e : Database). length (purges_since e.purges m.purge)) c.database.ensures) in
    let between : Marks = record { update = c.in_ok-taken.taken.update_mark; purge = c.in_ok-taken.taken.purge_mark } in
    passed-both d m c.args.n c.saturating_sub.result left between _ c.in_ok-taken.ensures.marks
    (c.in_ok-taken-2.ensures.marks ∙ ap (λ u. passed between (map of_update (take c.saturating_sub.result (changed_since every_id d u)))) same)

pub returns-clause-visited : goal.returns-clause-visited
returns-clause-visited c =
    let d : Database = now c.args.version.now in
    let m : Marks = record { update = c.args.taken.update_mark; purge = c.args.taken.purge_mark } in
    let ps = take c.args.n (purges_since d.purges m.purge) in
    let same : c.in_ok-taken.taken.update_mark ≡ m.update = ap (λ (k : Marks). k.update) c.in_ok-taken.ensures.marks ∙ same-update m ps in
    let left : c.saturating_sub.result ≡ c.args.n - length (purges_since d.purges m.purge) = c.saturating_sub.ensures ∙ ap (λ k. c.args.n - k) (c.count_above-purges.ensures ∙ ap (λ (l : PurgeLog). length (purges_since l m.purge)) c.purges.ensures.log ∙ ap (λ (e : Database). length (purges_since e.purges m.purge)) c.database.ensures) in
    omega (arith, c.in_ok-taken.ensures.visited, c.in_ok-taken-2.ensures.visited, ap (λ u. length (take c.saturating_sub.result (changed_since every_id d u))) same, count-touched d m c.args.n c.saturating_sub.result left)
