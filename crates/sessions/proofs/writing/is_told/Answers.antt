use Rattle.std.proofs.Common.{ap, sym, ◌∙◌, ◌≡◌, ◌==◌, true, refl, arith}
use Rattle.std.proofs.lemmas.Bool.Decides.{nat_tests}
use Rattle.model.specs.Command.{Entry}
use Rattle.sessions.proofs.Receipts.{told}
use Rattle.sessions.proofs.writing.is_told.Goals as goal

pub returns : goal.returns
returns c =
    let e = c.in-Some.entry.now in
    let view = c.entry-2.view_is in
    let mine = sym (ap (λ (x : Entry). x.seat.session) view) ∙ sym c.session.ensures.session ∙ c.if-session.false ∙ c.session-2.ensures.session ∙ sym c.session-3.ensures.session in
    let called = sym (ap (λ (x : Entry). x.seat.call) view) ∙ sym c.call.ensures.call ∙ c.if-call.false ∙ c.call-else-session.ensures.call in
    let same : e.command ≡ c.args.asked.now = sym (ap (λ (x : Entry). x.command) view) ∙ c.if-not-is_same.ensures.same.0 refl in
    λ t.
    let last : c.calls_of.result ≡ c.args.seat.call = (let eq : (c.calls_of.result == c.call-2.result) ≡ true = t in grind (arith, nat_tests, c.call-2.ensures.call)) in
    told c.args.version.now.entries c.args.place c.session-3.result c.calls_of.result c.args.seat c.args.asked.now e (sym c.in-Some.ensures) c.session-3.ensures.session mine called same c.calls_of.ensures last
