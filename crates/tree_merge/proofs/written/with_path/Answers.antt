use Rattle.std.proofs.Common.{◌∙◌, refl, sym, ap, Ok}
use Rattle.std.specs.Prelude.{option_copied}
use Rattle.std.specs.Arc.{arc_value}
use Rattle.std.proofs.lemmas.Option.{none-some}
use Rattle.tree_merge.proofs.Grafted.{memory_only, ok_only}
use Rattle.tree_merge.proofs.Writes.{written_ok, written_refused, same_fault}
use Rattle.tree_merge.proofs.written.with_path.Goals as goal

pub returns-in_err-grafted-clause-refused : goal.returns-in_err-grafted-clause-refused
returns-in_err-grafted-clause-refused c =
    let law = written_refused c.args.limit (option_copied c.args.tree) c.args.path.now (arc_value c.args.body) c.args.deleted in
    let same = same_fault c.from_residual.result c.in_err-grafted.field-0.0 c.from_residual.ensures.1 in
    (λ e. law.0 (c.in_err-grafted.ensures.refused.0 (sym same ∙ e)), λ e. same ∙ c.in_err-grafted.ensures.refused.1 (law.1 e))

pub returns-then-is_stem-clause-written : goal.returns-then-is_stem-clause-written
returns-then-is_stem-clause-written c =
    written_ok c.args.limit (option_copied c.args.tree) c.args.path.now (arc_value c.args.body) c.args.deleted c.in_ok-grafted.grafted c.in_ok-grafted.ensures.grafted ∙ ap Ok (c.is_stem.ensures c.if-is_stem.true)

pub returns-then-is_stem-clause-refused : goal.returns-then-is_stem-clause-refused
returns-then-is_stem-clause-refused c =
    let law = written_refused c.args.limit (option_copied c.args.tree) c.args.path.now (arc_value c.args.body) c.args.deleted in
    (λ e. absurd (ok_only (Ok c.in_ok-grafted.grafted) c.in_ok-grafted.grafted refl e), λ e. absurd (none-some _ (sym (law.1 e) ∙ c.in_ok-grafted.ensures.grafted)))

pub returns-in_err-stem-clause-refused : goal.returns-in_err-stem-clause-refused
returns-in_err-stem-clause-refused c =
    let law = written_refused c.args.limit (option_copied c.args.tree) c.args.path.now (arc_value c.args.body) c.args.deleted in
    (λ e. absurd (memory_only c.from_residual-in_err-stem.result c.from_residual-in_err-stem.ensures.1 e), λ e. absurd (none-some _ (sym (law.1 e) ∙ c.in_ok-grafted.ensures.grafted)))

pub returns-clause-written : goal.returns-clause-written
returns-clause-written c =
    written_ok c.args.limit (option_copied c.args.tree) c.args.path.now (arc_value c.args.body) c.args.deleted c.in_ok-grafted.grafted c.in_ok-grafted.ensures.grafted ∙ ap Ok (sym c.in_ok-stem.ensures)

pub returns-clause-refused : goal.returns-clause-refused
returns-clause-refused c =
    let law = written_refused c.args.limit (option_copied c.args.tree) c.args.path.now (arc_value c.args.body) c.args.deleted in
    (λ e. absurd (ok_only (Ok c.in_ok-stem.stem) c.in_ok-stem.stem refl e), λ e. absurd (none-some _ (sym (law.1 e) ∙ c.in_ok-grafted.ensures.grafted)))
