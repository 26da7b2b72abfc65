use Rattle.http_framing.proofs.Targets.{text_target, not_text}
use Rattle.http_framing.proofs.laws.text_targets.Goals as goal

pub returns-clause-text : goal.returns-clause-text
returns-clause-text c = text_target

pub returns-clause-not_text : goal.returns-clause-not_text
returns-clause-not_text c = not_text
