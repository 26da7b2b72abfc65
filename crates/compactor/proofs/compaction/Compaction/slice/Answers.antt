use Rattle.std.specs.Prelude.{◌-◌, ◌<◌, ◌≤◌, length}
use Rattle.std.proofs.Common.{ap, ◌∙◌, arith}
use Rattle.std.proofs.lemmas.Bool.Decides.{nat_tests}
use Rattle.model.specs.Map.{entries}
use Rattle.model.specs.Database.{Database}
use Rattle.model.specs.History.{now}
use Rattle.model.specs.Compaction.{Marks}
use Rattle.compactor.specs.Copy.{CopyView}
use Rattle.compactor.proofs.Copies.{few-done, last-done, IsCopy-sliced, copied-sliced}
use Rattle.compactor.proofs.compaction.Compaction.slice.Goals as goal

pub invariant_of-self-2 : goal.invariant_of-self-2
invariant_of-self-2 c =
    let d : Database = now c.self.inside.seen in
    let m : Marks = record { update = c.self.inside.update_mark; purge = c.self.inside.purge_mark } in
    let some : 0 < c.min-n.result = grind (arith, nat_tests, c.if-n-eq0.false) in
    let le : c.min-n.result ≤ c.self.inside.left = omega (arith, c.min-n.ensures) in
    let k = length (entries d.docs) - c.self.inside.left in
    let few = few-done c.self.inside.seen c.self.inside.last c.in_ok-part.part.last c.self.inside.left c.min-n.result c.self.inside.records c.in_ok-part.part.records m c.self.invariant some le in
    let last = last-done c.self.inside.seen c.self.inside.last c.in_ok-part.part.last c.self.inside.left c.min-n.result c.self.inside.records c.in_ok-part.part.records m c.self.invariant some le in
    IsCopy-sliced c.self.inside.seen c.self.inside.last c.in_ok-part.part.last c.self.inside.left c.min-n.result c.self.inside.records c.in_ok-part.part.records m c.self.invariant some le
    (c.in_ok-part.ensures.docs k few last, c.in_ok-part.ensures.last k few last, c.in_ok-part.ensures.coherent)

pub returns-clause-sliced : goal.returns-clause-sliced
returns-clause-sliced c =
    let d : Database = now c.self.inside.seen in
    let m : Marks = record { update = c.self.inside.update_mark; purge = c.self.inside.purge_mark } in
    let some : 0 < c.min-n.result = grind (arith, nat_tests, c.if-n-eq0.false) in
    let le : c.min-n.result ≤ c.self.inside.left = omega (arith, c.min-n.ensures) in
    let k = length (entries d.docs) - c.self.inside.left in
    let few = few-done c.self.inside.seen c.self.inside.last c.in_ok-part.part.last c.self.inside.left c.min-n.result c.self.inside.records c.in_ok-part.part.records m c.self.invariant some le in
    let last = last-done c.self.inside.seen c.self.inside.last c.in_ok-part.part.last c.self.inside.left c.min-n.result c.self.inside.records c.in_ok-part.part.records m c.self.invariant some le in
    let docs = copied-sliced c.self.inside.seen c.self.inside.last c.in_ok-part.part.last c.self.inside.left c.min-n.result c.self.inside.records c.in_ok-part.part.records m c.self.invariant some le
    (c.in_ok-part.ensures.docs k few last, c.in_ok-part.ensures.last k few last, c.in_ok-part.ensures.coherent) in
    λ i. record {
      seen = ap (λ (v : CopyView). v.seen) c.self.view_is i;
      left = c.self.inside.left - c.min-n.result;
      docs = (docs ∙ ap (λ (v : CopyView). v.docs) c.self.view_is) i;
      marks = ap (λ (v : CopyView). v.marks) c.self.view_is i;
      visited = c.next_part-outcome.new.visited;
    }
