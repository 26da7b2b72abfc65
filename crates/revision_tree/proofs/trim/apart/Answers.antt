use Rattle.std.proofs.Common.{◌≡◌, ◌∙◌, sym, false, refl}
use Rattle.std.proofs.lemmas.Bool.{true≢false}
use Rattle.std.proofs.lemmas.Option.{same_Some}
use Rattle.model.specs.Revision.{same_rev, same_rev-equal}
use Rattle.revision_tree.proofs.Trimmed.{apart_other, apart_child}
use Rattle.revision_tree.proofs.trim.apart.Goals as goal

pub returns-then-eq : goal.returns-then-eq
returns-then-eq c = apart_child c.args.rev c.args.node c.in-Some.parent c.in-Some.is (sym c.eq.ensures ∙ c.if-eq.true)

pub returns : goal.returns
returns c =
    let p = c.in-Some.parent in
    let apart : same_rev p c.args.rev ≡ false = sym c.eq.ensures ∙ c.if-eq.false in
    sym (apart_other c.args.rev c.args.node c.args.node.parent refl (λ e. true≢false (sym ((same_rev-equal p c.args.rev).1 (same_Some p c.args.rev (sym c.in-Some.is ∙ e))) ∙ apart)))
