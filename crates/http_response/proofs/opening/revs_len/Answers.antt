use Rattle.std.proofs.Common.{length, true, rules, sym, ap, ◌∙◌, arith}
use Rattle.std.proofs.lemmas.Result.{IfOk-weaker}
use Rattle.json_profile.specs.Joined.{bare_text}
use Rattle.document_json.specs.Written.{rev_data, revs_data}
use Rattle.document_json.proofs.MemberTexts.{member-revs, none-revs}
use Rattle.document_json.proofs.TextLengths.{length-member}
use Rattle.http_response.proofs.opening.revs_len.Goals as goal

pub returns-then-is_empty : goal.returns-then-is_empty
returns-then-is_empty c name is = ap (λ ms. length (bare_text true ms)) (none-revs name c.args.revs.now (sym c.is_empty.ensures ∙ c.if-is_empty.true))

pub returns : goal.returns
returns c =
    let revs = c.args.revs.now in
    let list = c.in_ok-list.ensures rev_data (λ item answered h. search rules) in
    IfOk-weaker c.sum_len.result _ _
    (λ len h name is. omega (arith, h, is, list, length-member name (revs_data revs)) ∙ ap (λ ms. length (bare_text true ms)) (member-revs name revs (sym c.is_empty.ensures ∙ c.if-is_empty.false)))
    c.sum_len.ensures
