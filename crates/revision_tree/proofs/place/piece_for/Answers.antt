use Rattle.std.proofs.Common.{◌∙◌, ◌-◌, sym, ap, arith}
use Rattle.revision_tree.specs.Rows.{items_of, starts_by}
use Rattle.std.specs.Prelude.{get_or, length}
use Rattle.revision_tree.proofs.Pieces.{place_last, place_older}
use Rattle.revision_tree.proofs.place.piece_for.Goals as goal

pub returns-then-starts_at : goal.returns-then-starts_at
returns-then-starts_at c =
    let rs = c.args.rows.now in
    place_last rs c.args.rev c.requires.sorted c.requires.filled c.len.result (omega (arith, c.len.ensures, rs.older.ok.0)) (ap (starts_by c.args.rev) (sym c.deref.ensures.value) ∙ sym c.starts_at.ensures ∙ c.if-starts_at.true)

pub returns : goal.returns
returns c =
    let rs = c.args.rows.now in
    let same = c.deref-2.ensures.value in
    place_older rs c.args.rev c.requires.sorted c.requires.filled c.starting.result c.saturating_sub.result c.saturating_sub.ensures
    (omega (arith, c.starting.ensures.bound, ap length same))
    (ap (starts_by c.args.rev) (sym c.deref.ensures.value) ∙ sym c.starts_at.ensures ∙ c.if-starts_at.false)
    (λ p some. ap (λ ps. starts_by c.args.rev (items_of (get_or ps (c.starting.result - 1) p))) (sym same) ∙ c.starting.ensures.below p some)
    (λ p lt. ap (λ ps. starts_by c.args.rev (items_of (get_or ps c.starting.result p))) (sym same) ∙ c.starting.ensures.above p (omega (arith, lt, ap length same)))
