use Rattle.std.proofs.Common.{refl}
use Rattle.http_framing.specs.Input.{Refused}
use Rattle.http_turns.proofs.Turns.{answers_fixed}
use Rattle.http_turns.proofs.turn.refuse.Goals as goal

pub returns : goal.returns
returns g c = λ turns. answers_fixed g.S.Viewer.goes g.S.Viewer.known turns _ c.place.result c.place.ensures.place _ (Refused c.args.fault) _ refl (c.closing.ensures.text, refl)
