use Rattle.std.proofs.Common.{◌+◌, ℕ, List, [], ◌∷◌, ◌++◌, length, ap, sym, ◌∙◌}
use Rattle.std.specs.Map.Iter.{deref_pair}
use Rattle.std.specs.Ordering.{nat_cmp}
use Rattle.std.specs.FinMap.Entries.{put}
use Rattle.std.proofs.lemmas.Iterator.Consumers.{YieldsList-from_rest, YieldsList-so_far, YieldsList-turn, YieldsList-end}
use Rattle.std.proofs.lemmas.List.{map-append}
use Rattle.cow_index.specs.Entries.{entries_from}
use Rattle.purge.specs.Log.{PurgedEntry}
use Rattle.purge.proofs.Logs.{newest-from, numbered-newest, put-next}
use Rattle.purge.proofs.newest.copied_newest.Goals as goal

pub loop-seq-preserved : goal.loop-seq-preserved
loop-seq-preserved c =
    let all : List (ℕ × PurgedEntry) = c.args.all.now.entries in
    let items : List (ℕ × PurgedEntry) = c.range_from-seq-items.result in
    let e : ℕ × PurgedEntry = (c.in-Some.seq.now, c.in-Some.purged.now) in
    let newest = c.range_from-seq-items.ensures.rest ∙ ap (λ k. entries_from nat_cmp (k + 1) all) c.saturating_sub.ensures ∙ newest-from c.args.purge_seq c.args.limit all c.requires.numbered in
    let t = YieldsList-turn (YieldsList-from_rest {shows = deref_pair} items cc) c.loop-seq.yielded _ c.loop-seq.yielded_by _ _ (c.in-Some.seq, c.in-Some.purged) c.in-Some.is c.next.ensures.steps in
    let so_far = YieldsList-so_far (YieldsList-from_rest {shows = deref_pair} items cc) c.loop-seq.yielded _ c.loop-seq.yielded_by in
    c.in_ok-copied.ensures.entries
    ∙ ap (λ (p : PurgedEntry). put nat_cmp e.0 p c.loop-seq.copied.entries) c.in_ok-copy.ensures
    ∙ ap (λ (es : List (ℕ × PurgedEntry)). put nat_cmp e.0 e.1 es) (c.loop-seq.invariant ∙ so_far)
    ∙ put-next c.args.purge_seq (length c.loop-seq.yielded) items e (numbered-newest c.args.purge_seq c.args.limit all items c.requires.numbered newest) t.0 t.1
    ∙ ap (λ (es : List (ℕ × PurgedEntry)). es ++ e ∷ []) (sym so_far)
    ∙ sym (map-append deref_pair c.loop-seq.yielded ((c.in-Some.seq, c.in-Some.purged) ∷ []))

pub returns : goal.returns
returns c =
    let all : List (ℕ × PurgedEntry) = c.args.all.now.entries in
    let t = YieldsList-end (YieldsList-from_rest {shows = deref_pair} c.range_from-seq-items.result cc) c.loop-seq.yielded _ c.loop-seq.yielded_by _ _ c.in-None.is c.next.ensures.steps in
    c.loop-seq.invariant ∙ t.0 ∙ c.range_from-seq-items.ensures.rest ∙ ap (λ k. entries_from nat_cmp (k + 1) all) c.saturating_sub.ensures ∙ newest-from c.args.purge_seq c.args.limit all c.requires.numbered
