use Rattle.std.proofs.Common.{Some, sym, ap, subst, ◌∙◌, arith}
use Rattle.std.proofs.lemmas.List.{take_more_set}
use Rattle.shared_list.specs.Path.{held, waiting, FitFrom}
use Rattle.shared_list.proofs.Paths.{waiting-push, FitFrom-push, length_take_le}
use Rattle.shared_list.proofs.values.Path.push.Goals as goal

pub returns-clause-fit : goal.returns-clause-fit
returns-clause-fit g c =
    let s = c.args.self.now in
    let held_is = take_more_set s.places s.depth (Some (c.args.tree, c.args.levels)) (omega arith) in
    subst (FitFrom 0) (sym held_is) (FitFrom-push 0 (held s) _ c.requires.fit (omega (arith, length_take_le s.depth s.places), c.requires.due))

pub returns-clause-waiting : goal.returns-clause-waiting
returns-clause-waiting g c =
    let s = c.args.self.now in
    ap waiting (take_more_set s.places s.depth (Some (c.args.tree, c.args.levels)) (omega arith)) ∙ waiting-push (held s) (c.args.tree, c.args.levels)
