use Rattle.model.proofs.BodyLaws.{IsTextOf-body_text, body_text-once}
use Rattle.model.proofs.bodies.texts_of_bodies_read_back.Goals as goal

pub returns-clause-reads_back : goal.returns-clause-reads_back
returns-clause-reads_back c = IsTextOf-body_text

pub returns-clause-once : goal.returns-clause-once
returns-clause-once c = body_text-once
