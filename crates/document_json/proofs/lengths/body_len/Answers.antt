use Rattle.std.proofs.Common.{length, sym, ap, ◌∙◌}
use Rattle.document_json.proofs.TextLengths.{body-length}
use Rattle.document_json.proofs.lengths.body_len.Goals as goal

pub returns-then-len-eq-EMPTY-clause-len : goal.returns-then-len-eq-EMPTY-clause-len
returns-then-len-eq-EMPTY-clause-len c = (body-length c.args.body.now).0 (sym (ap length c.text-len.ensures.text) ∙ c.if-len-eq-EMPTY.true)

pub returns-else-len-eq-EMPTY-clause-len : goal.returns-else-len-eq-EMPTY-clause-len
returns-else-len-eq-EMPTY-clause-len c =
    ap length c.text-len.ensures.text ∙ (body-length c.args.body.now).1 (λ two. c.if-len-eq-EMPTY.false (ap length c.text-len.ensures.text ∙ two))
