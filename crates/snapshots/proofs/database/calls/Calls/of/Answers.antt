use Rattle.std.specs.Prelude.{Option, unwrap_or}
use Rattle.std.proofs.Common.{ℕ, ap, sym, ◌∙◌}
use Rattle.model.specs.Map.{Map, get}
use Rattle.model.specs.Command.{numbers}
use Rattle.snapshots.specs.Calls.{calls_in}
use Rattle.snapshots.specs.declared.database.calls.Caller.{Caller}
use Rattle.snapshots.proofs.Calls.{get-last, get-earlier}
use Rattle.snapshots.proofs.database.calls.Calls.of.Goals as goal

abbrev number : Option ℕ → ℕ
number o = unwrap_or o 0

pub returns-in_default : goal.returns-in_default
returns-in_default c =
    c.calls_among.ensures
    ∙ ap (λ (o : Option Caller). number (get {O = numbers} (calls_in o c.self.inside.earlier.entries) c.args.session)) (sym c.in_default.is)
    ∙ ap (λ (m : Map numbers ℕ). number (get m c.args.session)) c.self.view_is

pub returns-then-last-session : goal.returns-then-last-session
returns-then-last-session c =
    ap number (sym (get-last c.in-Some.last c.self.inside.earlier.entries c.args.session c.if-last-session.true))
    ∙ ap (λ (o : Option Caller). number (get {O = numbers} (calls_in o c.self.inside.earlier.entries) c.args.session)) (sym c.in-Some.is)
    ∙ ap (λ (m : Map numbers ℕ). number (get m c.args.session)) c.self.view_is

pub returns : goal.returns
returns c =
    c.calls_among-2.ensures
    ∙ ap number (sym (get-earlier c.in-Some.last c.self.inside.earlier.entries c.args.session c.if-last-session.false))
    ∙ ap (λ (o : Option Caller). number (get {O = numbers} (calls_in o c.self.inside.earlier.entries) c.args.session)) (sym c.in-Some.is)
    ∙ ap (λ (m : Map numbers ℕ). number (get m c.args.session)) c.self.view_is
