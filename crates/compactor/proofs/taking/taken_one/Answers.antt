use Rattle.std.specs.Prelude.{◌≡◌, Some}
use Rattle.std.proofs.Common.{ap, sym, ◌∙◌}
use Rattle.model.specs.Map.{Map, get}
use Rattle.model.specs.Command.{names}
use Rattle.model.specs.Database.{Database, Record}
use Rattle.model.specs.History.{now}
use Rattle.snapshots.proofs.Taken.{taken-there}
use Rattle.compactor.proofs.taking.taken_one.Goals as goal

pub returns-clause-taken : goal.returns-clause-taken
returns-clause-taken c =
    let d : Database = now c.args.version.now in
    let there : get d.docs c.args.id.now ≡ Some c.in-Some.stored.now = sym c.in-Some.ensures.stored in
    c.in_ok-more.ensures ∙ ap (λ (docs : Map names Record). record c.args.records { docs = docs }) (sym (taken-there c.args.records.docs d c.args.id.now c.in-Some.stored.now there))

pub with_strip-requires-clause-free : goal.with_strip-requires-clause-free
with_strip-requires-clause-free c = λ other r e f.
    sym (c.requires.coherent.own other c.args.id.now r c.in-Some.stored.now e (sym c.in-Some.ensures.stored) (sym f))
