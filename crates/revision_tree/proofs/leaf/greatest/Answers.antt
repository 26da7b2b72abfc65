use Rattle.std.proofs.Common.{◌≡◌, ◌∙◌, Some, None, sym, ap}
use Rattle.std.specs.Option.{option_or}
use Rattle.revision_tree.specs.Rows.{joined, lists_of}
use Rattle.revision_tree.proofs.Ranked.{greatest_of, greatest_of-append}
use Rattle.revision_tree.proofs.leaf.greatest.Goals as goal

pub returns-in-Some : goal.returns-in-Some
returns-in-Some c =
    let d = c.args.deleted in
    let older = joined (lists_of c.args.rows.now.older.items) in
    let last = c.args.rows.now.last.items in
    let here : Some c.in-Some.leaf ≡ greatest_of d last = sym c.in-Some.is ∙ c.greatest_among.ensures ∙ ap (greatest_of d) c.deref.ensures.value in
    ap (λ o. option_or o (greatest_of d older)) here ∙ sym (greatest_of-append d older last)

pub returns : goal.returns
returns c =
    let d = c.args.deleted in
    let older = joined (lists_of c.args.rows.now.older.items) in
    let last = c.args.rows.now.last.items in
    let here : None ≡ greatest_of d last = sym c.in_default.is ∙ c.greatest_among.ensures ∙ ap (greatest_of d) c.deref.ensures.value in
    c.greatest_in.ensures ∙ ap (λ ps. greatest_of d (joined (lists_of ps))) c.deref-2.ensures.value ∙ ap (λ o. option_or o (greatest_of d older)) here ∙ sym (greatest_of-append d older last)
