use Rattle.std.proofs.Common.{sym, subst, Bool, IsTrue}
use Rattle.command_line.specs.Places.{IsName, IsNamed}
use Rattle.command_line.proofs.PlaceTexts.{either, named-is, no-host, not-named}
use Rattle.command_line.proofs.places.is_named.Goals as goal

pub returns-in_default : goal.returns-in_default
returns-in_default c = (λ t. cc, λ named. absurd (not-named c.args.text.now c.split_once.result c.split_once.ensures.cases c.in_default.is named))

pub returns-then-is_name : goal.returns-then-is_name
returns-then-is_name c =
    let name = subst IsName c.as_bytes.ensures.value (c.is_name.ensures.0 c.if-is_name.true) in
    subst (λ (b : Bool). (IsTrue b → IsNamed c.args.text.now) × (IsNamed c.args.text.now → IsTrue b)) (sym c.is_some.ensures)
    (named-is c.args.text.now c.split_once.result (c.in-Some.host, c.in-Some.port) c.number_in.result c.split_once.ensures.cases c.in-Some.is name
    c.number_in.ensures.number c.number_in.ensures.within c.number_in.ensures.no_number)

pub returns-else-is_name : goal.returns-else-is_name
returns-else-is_name c = (
  λ t. absurd (either c.is_name.result c.if-is_name.false t),
  λ named. absurd (no-host c.args.text.now c.split_once.result (c.in-Some.host, c.in-Some.port) c.split_once.ensures.cases c.in-Some.is
      (λ name. either c.is_name.result c.if-is_name.false (c.is_name.ensures.1 (subst IsName (sym c.as_bytes.ensures.value) name))) named),
)
