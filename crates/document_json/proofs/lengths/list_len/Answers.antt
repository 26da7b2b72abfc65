use Rattle.std.proofs.Common.{◌≡◌, ◌+◌, ◌++◌, ◌∷◌, [], ◌==◌, length, get_or, map, take, sym, ap, ◌∙◌, arith}
use Rattle.std.proofs.lemmas.List.{length-map, map_more, take_all}
use Rattle.serde_json.specs.Written.{compact_text}
use Rattle.document_json.proofs.TextLengths.{length-list, list-length-empty, closed_len, closed_len-push}
use Rattle.document_json.proofs.lengths.list_len.Goals as goal

pub returns-then-is_empty : goal.returns-then-is_empty
returns-then-is_empty g c of exact = list-length-empty of c.args.items.now (sym c.is_empty.ensures ∙ c.if-is_empty.true)

pub loop-item-preserved : goal.loop-item-preserved
loop-item-preserved g c of exact =
    let items = c.args.items.now in
    let at = c.loop-item.item-index in
    let item = get_or items at c.item-item.result in
    let front = map of (take at items) in
    let own = exact _ _ c.in_ok-own.ensures ∙ ap (λ x. length (compact_text (of x))) c.item-item.is in
    let pushed = closed_len-push front (of item) in
    let before = c.loop-item.invariant of exact in
    let len : c.in_ok-len.len ≡ 1 + closed_len (front ++ of item ∷ []) = omega (arith, own, pushed, before, c.in_ok-closed.ensures, c.in_ok-len.ensures) in
    len ∙ ap (λ ds. 1 + closed_len ds) (sym (map_more of items at c.item-item.result (omega arith)))

pub returns : goal.returns
returns g c of exact =
    let whole = ap (λ xs. closed_len (map of xs)) (take_all c.loop-item.item-index c.args.items.now c.loop-item-test.false) in
    let some = ap (λ n. n == 0) (length-map c.args.items.now of) ∙ sym c.is_empty.ensures ∙ c.if-is_empty.false in
    c.loop-item.invariant of exact ∙ ap (λ n. 1 + n) whole ∙ sym (length-list (map of c.args.items.now) some)
