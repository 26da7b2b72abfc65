use Rattle.std.proofs.Common.{◌≡◌, None, not, rules, arith}
use Rattle.std.proofs.lemmas.Grind.{common_steps}
use Rattle.std.specs.Ordering.{eq_by_cmp}
use Rattle.std.specs.FinMap.Entries.{find, is_sorted-where_key}
use Rattle.cow_index.proofs.Filters.{without_absent}
use Rattle.cow_index.proofs.map.CowMap.into_without.Goals as goal

pub returns-then-is_none-clause-entries : goal.returns-then-is_none-clause-entries
returns-then-is_none-clause-entries g c =
    let none : find g.K.Ord.cmp c.args.key.now c.args.self.entries ≡ None = search rules in
    let same = without_absent g.K.Ord.cmp c.args.key.now c.args.self.entries none in
    grind (arith, common_steps)

pub of_root-requires-2 : goal.of_root-requires-2
of_root-requires-2 g c = rw c.in_ok-root.ensures.entries (is_sorted-where_key g.K.Ord.cmp (λ x. not (eq_by_cmp g.K.Ord.cmp c.args.key.now x)) c.self.inside.root.0 c.self.invariant)
