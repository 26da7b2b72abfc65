use Rattle.std.proofs.Common.{◌≡◌, ◌∙◌, ◌-◌, ◌++◌, ap, sym, subst, take, length, get_or, arith, eqb-true}
use Rattle.std.proofs.lemmas.List.{nil_from_length}
use Rattle.revision_tree.specs.Rows.{joined, lists_of}
use Rattle.revision_tree.proofs.Ends.{last_parts, filled_here, some_from}
use Rattle.revision_tree.proofs.whole.last_piece.Goals as goal

pub returns-then-is_empty-2-clause-parts : goal.returns-then-is_empty-2-clause-parts
returns-then-is_empty-2-clause-parts c =
    let rs = c.args.rows.now in
    let ps = rs.older.items in
    let p = c.index.result.now in
    let some = some_from rs.older.len (sym c.is_empty.ensures ∙ c.if-is_empty.false) in
    let none = eqb-true rs.last.len 0 (sym c.is_empty-2.ensures ∙ c.if-is_empty-2.true) in
    let end : c.len.result ≡ length ps = omega (arith, c.len.ensures, rs.older.ok.0) in (
      joined (take (length ps - 1) (lists_of ps)),
      last_parts ps p c.deref-then-is_empty-2-2.result.now rs.last.items (omega (arith, some, rs.older.ok.0)) (subst (λ n. p ≡ get_or ps (n - 1) p) end c.index.ensures)
          (c.deref-then-is_empty-2-2.ensures.value ∙ ap (λ v. v.items) c.deref-then-is_empty-2.ensures) (nil_from_length rs.last.items (omega (arith, none, rs.last.ok.0))),
    )

pub returns-then-is_empty-2-clause-none : goal.returns-then-is_empty-2-clause-none
returns-then-is_empty-2-clause-none c = λ e.
    let rs = c.args.rows.now in
    let some = some_from rs.older.len (sym c.is_empty.ensures ∙ c.if-is_empty.false) in
    absurd (filled_here rs.older.items (c.len.result - 1) c.index.result.now c.deref-then-is_empty-2-2.result.now c.requires (omega (arith, some, c.len.ensures, rs.older.ok.0)) c.index.ensures
    (c.deref-then-is_empty-2-2.ensures.value ∙ ap (λ v. v.items) c.deref-then-is_empty-2.ensures) e)

pub returns-clause-parts : goal.returns-clause-parts
returns-clause-parts c =
    let rs = c.args.rows.now in
    (joined (lists_of rs.older.items), ap (λ ns. joined (lists_of rs.older.items) ++ ns) (sym c.deref-2.ensures.value))
