use Rattle.std.proofs.Common.{sym, ◌∙◌}
use Rattle.decimals.proofs.Numbers.{number-parse}
use Rattle.decimals.proofs.parse_number.Goals as goal

pub returns : goal.returns
returns c = record {
  number =
      c.ok.ensures.value ∙ number-parse c.args.text.now c.parse.result (sym c.is_number.ensures ∙ c.if-not-is_number.false) c.parse.ensures.value.0;
}
