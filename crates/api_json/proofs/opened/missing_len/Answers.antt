use Rattle.std.proofs.Common.{◌+◌, sym, ap, ◌∙◌}
use Rattle.api_json.proofs.OpenedLengths.{length-missing}
use Rattle.api_json.proofs.opened.missing_len.Goals as goal

pub returns : goal.returns
returns c = ap (λ n. n + 12) c.rev_len.ensures.len ∙ sym (length-missing c.args.rev.now)
