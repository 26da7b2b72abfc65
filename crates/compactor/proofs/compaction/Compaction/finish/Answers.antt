use Rattle.std.specs.Prelude.{◌≤◌, length}
use Rattle.std.proofs.Common.{ap, ◌∙◌, arith}
use Rattle.model.specs.Map.{Map}
use Rattle.model.specs.Command.{names}
use Rattle.model.specs.Database.{Database, Record}
use Rattle.model.specs.History.{now}
use Rattle.model.specs.PurgeLog.{is_overrun}
use Rattle.model.specs.Compaction.{Marks, touched}
use Rattle.compactor.proofs.Copies.{lags, coherent-later, upto-later, some-touched, finished}
use Rattle.compactor.proofs.compaction.Compaction.finish.Goals as goal

pub taken_from-outcome-requires-clause-coherent : goal.taken_from-outcome-requires-clause-coherent
taken_from-outcome-requires-clause-coherent c =
    let f = c.self.inside in
    let g = lags c.args.version.now f.seen f.last f.left f.update_mark f.purge_mark f.visited f.records c.args.self.now c.self.view_is c.requires.sliced c.requires.follows c.self.invariant c.place-recalled.ensures.history in
    coherent-later c.args.version.now f.records _ g

pub taken_from-outcome-requires-clause-upto : goal.taken_from-outcome-requires-clause-upto
taken_from-outcome-requires-clause-upto c =
    let f = c.self.inside in
    let g = lags c.args.version.now f.seen f.last f.left f.update_mark f.purge_mark f.visited f.records c.args.self.now c.self.view_is c.requires.sliced c.requires.follows c.self.invariant c.place-recalled.ensures.history in
    upto-later c.args.version.now f.records _ g

pub with_records-requires-clause-stripped : goal.with_records-requires-clause-stripped
with_records-requires-clause-stripped c =
    let f = c.self.inside in
    let m : Marks = record { update = f.update_mark; purge = f.purge_mark } in
    let new : Database = now c.args.version.now in
    let g = lags c.args.version.now f.seen f.last f.left f.update_mark f.purge_mark f.visited f.records c.args.self.now c.self.view_is c.requires.sliced c.requires.follows c.self.invariant c.place-recalled.ensures.history in
    let counted = some-touched (is_overrun new.purges m.purge) (length (touched new m)) c.in-Some.touched c.in-Some.ensures in
    let few : length (touched new m) ≤ c.args.slack = omega (arith, counted.1, c.if-touched-slack.false) in
    let database = c.place-recalled-2.ensures.history.database in
    c.in_ok-taken.ensures.taken
    ∙ ap (λ (docs : Map names Record). record { docs = docs; update_seq = new.update_seq })
    (finished c.args.version.now f.records m g database.numbered database.log.numbered counted.0 c.args.slack few)
