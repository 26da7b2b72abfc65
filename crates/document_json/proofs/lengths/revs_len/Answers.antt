use Rattle.std.proofs.Common.{length, sym, ap, ◌∙◌, rules}
use Rattle.json_profile.specs.Joined.{bare_text}
use Rattle.std.proofs.Common.{true}
use Rattle.document_json.specs.Written.{rev_data, revs_data}
use Rattle.document_json.proofs.MemberTexts.{member-revs, none-revs}
use Rattle.document_json.proofs.lengths.revs_len.Goals as goal

pub returns-then-is_empty : goal.returns-then-is_empty
returns-then-is_empty c = ap (λ ms. length (bare_text true ms)) (none-revs c.args.name.now c.args.revs.now (sym c.is_empty.ensures ∙ c.if-is_empty.true))

pub returns : goal.returns
returns c =
    c.in_ok-len.ensures (revs_data c.args.revs.now) (c.in_ok-value.ensures rev_data (λ item answered h. search rules))
    ∙ ap (λ ms. length (bare_text true ms)) (member-revs c.args.name.now c.args.revs.now (sym c.is_empty.ensures ∙ c.if-is_empty.false))
