use Rattle.std.proofs.Common.{◌≡◌, Some, None, map, sym, ap, ◌∙◌}
use Rattle.std.specs.Map.Iter.{deref_pair}
use Rattle.std.proofs.lemmas.Bool.{cond-false}
use Rattle.std.proofs.lemmas.Iterator.Consumers.{YieldsList-from_rest, YieldsList-end}
use Rattle.model.specs.PurgeLog.{PurgeInfo, is_overrun, purges_since}
use Rattle.purge.proofs.Logs.{ids-of}
use Rattle.purge.proofs.log.PurgeLog.since.Goals as goal

pub returns : goal.returns
returns c =
    let t = YieldsList-end (YieldsList-from_rest {shows = deref_pair} c.above-seq-items.result cc) c.loop-seq.yielded _ c.loop-seq.yielded_by _ _ c.in-None.is c.next.ensures.steps in
    let ids : c.loop-seq.ids.items ≡ map (λ p. p.id) (purges_since c.args.self.now c.args.mark) = c.loop-seq.invariant ∙ ap (map (λ e. e.1.0)) t.0 ∙ ids-of c.above-seq-items.result ∙ ap (map (λ (p : PurgeInfo). p.id)) c.above-seq-items.ensures.rest in
    ap Some ids ∙ sym (cond-false (is_overrun c.args.self.now c.args.mark) None (Some (map (λ (p : PurgeInfo). p.id) (purges_since c.args.self.now c.args.mark))) (sym c.is_overrun.ensures ∙ c.if-is_overrun.false))
