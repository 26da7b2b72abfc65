use Rattle.std.proofs.Common.{◌≡◌, ◌∙◌, sym, subst, option_map, map, string_bytes, Option, List, rules}
use Rattle.clap.specs.Words.{Text}
use Rattle.command_line.specs.Replicate.{IsIdOf, IsListOf}
use Rattle.command_line.proofs.Given.{refused_too}
use Rattle.command_line.proofs.replicate.replicating_of.Goals as goal

pub returns-in_err-source-clause-none : goal.returns-in_err-source-clause-none
returns-in_err-source-clause-none c = λ reason is replicating given.
    c.place_of.ensures.none reason (refused_too _ _ _ _ c.in_err-source.was c.from_residual.ensures.1 is) (string_bytes replicating.source) given.source

pub returns-in_err-target-clause-none : goal.returns-in_err-target-clause-none
returns-in_err-target-clause-none c = λ reason is replicating given.
    c.place_of-2.ensures.none reason (refused_too _ _ _ _ c.in_err-target.was c.from_residual-in_err-target.ensures.1 is) (string_bytes replicating.target) given.target

pub returns-in_err-id-clause-none : goal.returns-in_err-id-clause-none
returns-in_err-id-clause-none c = λ reason is replicating given.
    c.read_id.ensures.none reason (refused_too _ _ _ _ c.in_err-id.was c.from_residual-in_err-id.ensures.1 is) (option_map string_bytes replicating.id)
    (subst (λ (text : Option Text). IsIdOf text (option_map string_bytes replicating.id)) (sym c.text_of.ensures) given.id)

pub returns-then-eq-clause-none : goal.returns-then-eq-clause-none
returns-then-eq-clause-none c = λ reason is replicating given.
    let source = c.in_ok-source.ensures.only (string_bytes replicating.source) given.source in
    let target = c.in_ok-target.ensures.only (string_bytes replicating.target) given.target in
    let same : c.as_str.result.now ≡ c.as_str-2.result.now = search rules in
    given.apart (source ∙ sym c.as_str.ensures.value ∙ same ∙ c.as_str-2.ensures.value ∙ sym target)

pub returns-in_err-doc_ids-clause-none : goal.returns-in_err-doc_ids-clause-none
returns-in_err-doc_ids-clause-none c = λ reason is replicating given.
    let ids : Option (List Text) = option_map (λ texts. map string_bytes texts.items) replicating.doc_ids in
    c.read_list.ensures.none reason (refused_too _ _ _ _ c.in_err-doc_ids.was c.from_residual-in_err-doc_ids.ensures.1 is) ids
    (subst (λ (text : Option Text). IsListOf text ids) (sym c.text_of-2.ensures) given.doc_ids)
