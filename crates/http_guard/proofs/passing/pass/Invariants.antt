-- What is known when the response begins.
use Rattle.origin_policy.specs.Answers.{allowing}
use Rattle.http_guard.proofs.passing.pass.Given as goal

abbrev pub ghosts-answer_to : goal.ghosts-answer_to
ghosts-answer_to g a = record { taken = g.W.Sink.taken a.writer; lines = allowing a.origin.now }
