use Rattle.std.proofs.Common.{refl, true, codes}
use Rattle.std.specs.Prelude.{is_ok}
use Rattle.http_framing.specs.Input.{Refused}
use Rattle.test_wire.proofs.pages.AnsweringServiceUnit.refuse.Goals as goal

pub returns-clause-turn : goal.returns-clause-turn
returns-clause-turn g c = (
  record { item = Refused c.args._fault; text = codes "refused"; closes = true; whole = is_ok c.write_all.result },
  record { of_item = refl; answered = tt; closes = λ asked. refl },
  c.write_all.ensures.written,
  refl,
)
