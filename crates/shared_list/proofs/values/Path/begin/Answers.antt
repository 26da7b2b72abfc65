use Rattle.std.proofs.Common.{length, reverse, ◌++◌, sym, ap, ◌∙◌, append_assoc, length-append, arith}
use Rattle.std.proofs.lemmas.List.{reverse-append}
use Rattle.shared_list.specs.Path.{held, waiting}
use Rattle.shared_list.proofs.Dues.{due_whole, is_due}
use Rattle.shared_list.proofs.Levels.{few_trees}
use Rattle.shared_list.proofs.values.Path.begin.Goals as goal

pub push-requires : goal.push-requires
push-requires g c =
    let first = c.in-Some.ensures.first in
    let few = few_trees _ _ first c.loop-link.invariant.2 in
    let l = c.in-Some.link.now in
    let rest = ap length first.levels in
    (omega arith, (c.loop-link.invariant.0, (omega (arith, rest, c.loop-link.invariant.1), (omega (arith, rest, few.1, c.loop-link.invariant.1), is_due l.tree l.levels few.0 first.whole))))

pub loop-link-preserved : goal.loop-link-preserved
loop-link-preserved g c =
    let first = c.in-Some.ensures.first in
    let few = few_trees _ _ first c.loop-link.invariant.2 in
    let l = c.in-Some.link.now in
    let w = waiting (held c.loop-link.self) in (
      c.push.ensures.fit,
      omega (arith, ap length first.levels, c.push.ensures.depth, c.loop-link.invariant.1),
      omega (arith, ap length first.values, length-append l.tree l.rest.0, c.loop-link.invariant.2),
      ap (λ xs. reverse l.rest.0 ++ xs) (c.push.ensures.waiting ∙ ap (λ xs. xs ++ w) (due_whole l.tree l.levels few.0))
          ∙ sym (append_assoc (reverse l.rest.0) (reverse l.tree) w)
          ∙ ap (λ xs. xs ++ w) (sym (reverse-append l.tree l.rest.0) ∙ ap reverse (sym first.values))
          ∙ c.loop-link.invariant.3,
    )
