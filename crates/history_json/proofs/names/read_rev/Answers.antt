use Rattle.std.proofs.Common.{Some, sym, ap, ◌∙◌}
use Rattle.history_json.proofs.Revs.{rev_text-once}
use Rattle.history_json.proofs.names.read_rev.Goals as goal

pub returns-in-Ok-clause-found : goal.returns-in-Ok-clause-found
returns-in-Ok-clause-found c = λ rev is e. ap Some (rev_text-once _ rev c.in-Ok.ensures.in_range is (c.in-Ok.ensures.parsed ∙ e))

pub returns-in-Err-clause-found : goal.returns-in-Err-clause-found
returns-in-Err-clause-found c = λ rev is e. absurd (c.in-Err.ensures.malformed.1 rev is (sym e))
