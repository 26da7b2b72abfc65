use Rattle.std.proofs.Common.{◌∙◌}
use Rattle.std.specs.declared.alloc.Global.{Global}
use Rattle.std.specs.declared.vec.Vec.{Vec}
use Rattle.std.proofs.lemmas.Map.Iter.{iter_end}
use Rattle.model.specs.Command.{Id}
use Rattle.model.specs.Revision.{Rev}
use Rattle.replicator.proofs.Gathered.{ends-pairs, rising-gathered, same-gathered}
use Rattle.replicator.proofs.asking.named.Goals as goal

pub unwrap-requires : goal.unwrap-requires
unwrap-requires c =
    let all = iter_end (λ (p : Id × Vec Rev Global). p) c.args.asked.entries c.loop-id.yielded c.into_iter-id-iterator.result c.loop-id.id-iterator c.next.new.self c.next.result
    c.into_iter-id-iterator.ensures.into_iter_gives.0 c.loop-id.yielded_by c.in-None.is c.next.ensures.steps in
    let pairs = c.loop-id.invariant ∙ ends-pairs c.loop-id.yielded c.args.asked.entries all.0 in
    c.new.ensures.rising.1 (rising-gathered c.args.asked c.loop-id.documents.items c.len.ensures.ordered pairs)

pub returns : goal.returns
returns c m holds =
    let all = iter_end (λ (p : Id × Vec Rev Global). p) c.args.asked.entries c.loop-id.yielded c.into_iter-id-iterator.result c.loop-id.id-iterator c.next.new.self c.next.result
    c.into_iter-id-iterator.ensures.into_iter_gives.0 c.loop-id.yielded_by c.in-None.is c.next.ensures.steps in
    let pairs = c.loop-id.invariant ∙ ends-pairs c.loop-id.yielded c.args.asked.entries all.0 in
    let named = rw c.unwrap.ensures at c.new.ensures.entries in
    same-gathered c.args.asked c.unwrap.result m (named ∙ pairs) holds
