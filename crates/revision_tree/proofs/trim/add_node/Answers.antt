use Rattle.std.proofs.Common.{◌++◌, ◌∷◌, [], ◌∙◌, ap, sym}
use Rattle.std.proofs.lemmas.List.{append-nil, map-append}
use Rattle.revision_tree.specs.Nodes.{row_of, rows_of}
use Rattle.revision_tree.specs.Trimmed.{row_apart}
use Rattle.revision_tree.proofs.Trimmed.{none_without, one_without}
use Rattle.revision_tree.proofs.trim.add_node.Goals as goal

pub returns-then-eq : goal.returns-then-eq
returns-then-eq c =
    let before = rows_of c.args.left.now.items in
    sym (ap (λ rs. before ++ rs) (none_without c.args.rev c.args.node.now (sym c.eq.ensures ∙ c.if-eq.true)) ∙ append-nil before)

pub returns : goal.returns
returns c =
    let before = c.args.left.now.items in
    ap rows_of c.in_ok-push.ensures.items ∙ map-append row_of before (c.apart.result ∷ [])
    ∙ ap (λ rs. rows_of before ++ rs) (ap (λ row. row ∷ []) (c.apart.ensures ∙ ap (row_apart c.args.rev) c.in_ok-share.ensures.row) ∙ sym (one_without c.args.rev c.args.node.now (sym c.eq.ensures ∙ c.if-eq.false)))
