use Rattle.std.proofs.Common.{ℕ, List, ◌∷◌, [], ◌++◌, ap, length, sym, ◌∙◌}
use Rattle.std.specs.FinMap.Entries.{put}
use Rattle.std.specs.Ordering.{nat_cmp}
use Rattle.std.proofs.lemmas.Iterator.Adapters.{YieldsList-from_vec}
use Rattle.std.proofs.lemmas.Iterator.Consumers.{YieldsList-so_far, YieldsList-turn}
use Rattle.std.proofs.lemmas.List.{map-id}
use Rattle.purge.specs.Log.{PurgedEntry}
use Rattle.purge.proofs.Logs.{put-next}
use Rattle.purge.proofs.log.listed.map_of.Goals as goal

pub loop-seq-preserved : goal.loop-seq-preserved
loop-seq-preserved c =
    let items : List (ℕ × PurgedEntry) = c.args.purges.items in
    let e : ℕ × PurgedEntry = (c.in-Some.seq, c.in-Some.purged) in
    let long = c.args.purges.ok.0 in
    let road = YieldsList-from_vec items (cc) cc in
    let t = YieldsList-turn road c.loop-seq.yielded c.loop-seq.seq-iterator c.loop-seq.yielded_by _ c.next.new.self e c.in-Some.is c.next.ensures.steps in
    let so_far = sym (map-id c.loop-seq.yielded) ∙ YieldsList-so_far road c.loop-seq.yielded c.loop-seq.seq-iterator c.loop-seq.yielded_by in
    c.in_ok-map.ensures.entries
    ∙ ap (put nat_cmp e.0 e.1) (c.loop-seq.invariant ∙ so_far)
    ∙ put-next c.args.purge_seq (length c.loop-seq.yielded) items e c.requires t.0 t.1
    ∙ ap (λ (es : List (ℕ × PurgedEntry)). es ++ e ∷ []) (sym so_far)
