use Rattle.std.proofs.Common.{◌≡◌, ◌∙◌, ◌||◌, Bool, sym, subst}
use Rattle.std.proofs.lemmas.Result.{IfOk-weaker}
use Rattle.cow_index.specs.Entries.{without}
use Rattle.model.specs.Revision.{Rev, same_rev}
use Rattle.revision_tree.specs.Ranks.{AreLeft, rank_cmp}
use Rattle.revision_tree.proofs.Leaved.{left_other, left_without}
use Rattle.revision_tree.proofs.members.without_leaf.Goals as goal

pub returns-then-not-is_leaf : goal.returns-then-not-is_leaf
returns-then-not-is_leaf c = λ gone h. left_other c.args.tree.now gone c.args.leaves.entries h c.args.rev (sym c.is_leaf.ensures ∙ c.if-not-is_leaf.true)

pub returns : goal.returns
returns c = λ gone h.
    let t = c.args.tree.now in
    let es = c.args.leaves.entries in
    let r = c.args.rev in
    let more : Rev → Bool = λ q. gone q || same_rev q r in
    let left = subst (λ (d : Bool). AreLeft t more (without rank_cmp (record { deleted = d; rev = r }) es)) (sym c.is_deleted.ensures) (left_without t gone es h r) in
    IfOk-weaker c.into_without.result (λ m. m.entries ≡ without rank_cmp (record { deleted = c.is_deleted.result; rev = r }) es) (λ m. AreLeft t more m.entries) (λ m e. subst (AreLeft t more) (sym e) left) c.into_without.ensures.entries
