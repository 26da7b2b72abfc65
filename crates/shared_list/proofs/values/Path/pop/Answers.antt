use Rattle.std.proofs.Common.{◌-◌, take, refl, ap, ◌∙◌, arith}
use Rattle.shared_list.specs.Path.{waiting}
use Rattle.shared_list.proofs.Paths.{innermost, waiting-push, some_node}
use Rattle.shared_list.proofs.values.Path.pop.Goals as goal

pub unreachable-requires : goal.unreachable-requires
unreachable-requires g c =
    let s = c.args.self.now in
    some_node _ _ (innermost s.places s.depth _ refl (omega arith) (omega arith) c.requires.fit).fits c.in_default.not-Some

pub returns-clause-fit : goal.returns-clause-fit
returns-clause-fit g c = (innermost c.args.self.now.places c.args.self.now.depth _ c.in-Some.is (omega arith) (omega arith) c.requires.fit).fit

pub returns-clause-room : goal.returns-clause-room
returns-clause-room g c = (innermost c.args.self.now.places c.args.self.now.depth _ c.in-Some.is (omega arith) (omega arith) c.requires.fit).fits.0

pub returns-clause-due : goal.returns-clause-due
returns-clause-due g c = (innermost c.args.self.now.places c.args.self.now.depth _ c.in-Some.is (omega arith) (omega arith) c.requires.fit).fits.1

pub returns-clause-waiting : goal.returns-clause-waiting
returns-clause-waiting g c =
    let s = c.args.self.now in
    ap waiting (innermost s.places s.depth _ c.in-Some.is (omega arith) (omega arith) c.requires.fit).held
    ∙ waiting-push (take (s.depth - 1) s.places) c.in-Some.place
