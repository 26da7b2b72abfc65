use Rattle.std.proofs.Common.{◌++◌, refl, ◌∙◌, codes}
use Rattle.std.specs.Prelude.{is_ok}
use Rattle.http_framing.specs.Input.{Requested}
use Rattle.test_wire.proofs.pages.AnsweringServiceUnit.answer.Goals as goal

pub returns-clause-turn : goal.returns-clause-turn
returns-clause-turn g c = (
  record { item = Requested c.args.request.now; text = codes "HTTP/1.1 200 OK\n" ++ c.target.result.now; closes = c.closes.result; whole = is_ok c.write_text.result },
  record { of_item = refl; answered = tt; closes = λ asked. c.closes.ensures ∙ asked },
  c.write_text.ensures.written,
  refl,
  c.write_text.ensures.closes,
)
