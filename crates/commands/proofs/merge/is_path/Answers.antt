use Rattle.std.proofs.Common.{◌+◌, ◌<◌, [], ◌∷◌, All, arith, drop, rules, subst, sym}
use Rattle.std.proofs.lemmas.List.{drop_all}
use Rattle.std.proofs.lemmas.List.Elements.{All-cons, All-nil}
use Rattle.model.specs.Revision.{IsRev}
use Rattle.model.specs.TreeChange.{IsPath}
use Rattle.commands.proofs.Steps.{drop_at}
use Rattle.commands.proofs.merge.is_path.Goals as goal

pub loop-rev-preserved : goal.loop-rev-preserved
loop-rev-preserved c =
    let older = c.in-Some.older.now in
    let e = drop_at older c.loop-rev.rev-index c.rev-item.result (omega arith) c.rev-item.is in
    let newer = c.loop-rev.newer in
    let rest = c.rev-item.result ∷ drop (c.loop-rev.rev-index + 1) older in
    record {
      path = (
        λ p. (subst (λ r. IsPath (newer ∷ r)) e (c.loop-rev.invariant.path.0 p)).1,
        λ p. c.loop-rev.invariant.path.1 (subst (λ r. IsPath (newer ∷ r)) (sym e) (omega arith, p)),
      );
      revs = λ all. c.loop-rev.invariant.revs (subst (λ r. All IsRev (newer ∷ r)) (sym e) (All-cons IsRev newer rest c.generation.ensures.in_range all));
    }

pub returns-clause-is_path : goal.returns-clause-is_path
returns-clause-is_path c =
    let none = drop_all c.loop-rev.rev-index c.in-Some.older.now (omega arith) in
    let positive : 0 < c.loop-rev.newer.generation = c.generation-2.ensures.in_range.not_zero in
    (λ _. c.loop-rev.invariant.path.1 (subst (λ r. IsPath (c.loop-rev.newer ∷ r)) (sym none) positive), λ _. search rules)

pub returns-clause-are_revs : goal.returns-clause-are_revs
returns-clause-are_revs c =
    let none = drop_all c.loop-rev.rev-index c.in-Some.older.now (omega arith) in
    let newer = c.loop-rev.newer in
    λ _. c.loop-rev.invariant.revs (subst (λ r. All IsRev (newer ∷ r)) (sym none) (All-cons IsRev newer [] c.generation-2.ensures.in_range (All-nil IsRev)))
