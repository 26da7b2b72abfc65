use Rattle.std.proofs.Common.{◌≡◌, ◌∙◌, ◌-◌, sym, subst, length, take, drop}
use Rattle.std.proofs.lemmas.List.{take_all}
use Rattle.std.proofs.lemmas.Result.{IfOk-weaker}
use Rattle.std.specs.FinMap.Entries.{put}
use Rattle.model.specs.Tree.{among}
use Rattle.model.specs.TreeChange.{grafted}
use Rattle.revision_tree.specs.Ranks.{AreLeaves, AreLeft, rank_cmp}
use Rattle.revision_tree.proofs.Grafting.{leaves_more, leaves_stay, left_next}
use Rattle.revision_tree.proofs.Grafts.{uncons}
use Rattle.revision_tree.proofs.members.leaves_with.Goals as goal

pub loop-rev-preserved : goal.loop-rev-preserved
loop-rev-preserved c =
    let path = c.args.path.now in
    let older = take (length path - 1) (drop 1 path) in
    let i = c.loop-rev.rev-index in
    left_next c.args.tree.now older i c.rev-item.result c.in_ok-left.left.entries c.loop-rev-test.true c.rev-item.is (c.in_ok-left.ensures (among (take i older)) c.loop-rev.invariant)

pub returns-then-knows : goal.returns-then-knows
returns-then-knows c = λ body.
    let t = c.args.tree.now in
    let path = c.args.path.now in
    let older = take (length path - 1) (drop 1 path) in
    let es = c.loop-rev.left.entries in
    let left = subst (λ rs. AreLeft t (among rs) es) (take_all c.loop-rev.rev-index older c.loop-rev-test.false) c.loop-rev.invariant in
    leaves_stay t c.requires.tree path c.newest-item.result older (uncons path c.newest-item.result c.in-len1-up.len_at_least c.newest-item.is) c.requires.path c.requires.agrees es left
    (sym c.knows.ensures ∙ c.if-knows.true) body c.args.deleted

pub returns : goal.returns
returns c = λ body.
    let t = c.args.tree.now in
    let path = c.args.path.now in
    let newest = c.newest-item.result in
    let older = take (length path - 1) (drop 1 path) in
    let es = c.loop-rev.left.entries in
    let left = subst (λ rs. AreLeft t (among rs) es) (take_all c.loop-rev.rev-index older c.loop-rev-test.false) c.loop-rev.invariant in
    let more = leaves_more t c.requires.tree path newest older (uncons path newest c.in-len1-up.len_at_least c.newest-item.is) c.requires.path c.requires.agrees es left (sym c.knows.ensures ∙ c.if-knows.false) body c.args.deleted in
    IfOk-weaker c.into_with.result (λ m. m.entries ≡ put rank_cmp (record { deleted = c.args.deleted; rev = newest }) tt es) (λ m. AreLeaves (grafted path body c.args.deleted t) m.entries)
    (λ m e. subst (AreLeaves (grafted path body c.args.deleted t)) (sym e) more) c.into_with.ensures.entries
