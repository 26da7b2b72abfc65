use Rattle.std.proofs.Common.{ap, sym, ◌∙◌}
use Rattle.model.specs.History.{Chronicle}
use Rattle.version_log.specs.Histories.{newest}
use Rattle.history_lock.proofs.Refused.{passed_on}
use Rattle.history_lock.proofs.opening.begin.Goals as goal

pub new-first-requires : goal.new-first-requires
new-first-requires g c = record {
  newest = record {
    base = ap (λ (k : Chronicle). k.base) (c.in-Ok.ensures.ok ∙ c.requires.empty);
    entries = ap (λ (k : Chronicle). k.entries) (c.in-Ok.ensures.ok ∙ c.requires.empty) ∙ sym (ap newest c.requires.front);
  };
}

pub returns-in_err-publisher-clause-refused : goal.returns-in_err-publisher-clause-refused
returns-in_err-publisher-clause-refused g c = passed_on c.from_residual.result c.in_err-publisher.field-0.0 c.from_residual.ensures.1 c.in_err-publisher.ensures.refused
