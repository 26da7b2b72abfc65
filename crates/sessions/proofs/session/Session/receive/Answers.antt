use Rattle.std.proofs.Common.{ap, sym, ◌∙◌, refl, subst, arith, false, ◌≡◌, ◌+◌, List, length}
use mathlib.Core.List.{IsPrefix}
use Rattle.model.specs.Map.{empty}
use Rattle.model.specs.Command.{Entry, Seat}
use Rattle.model.specs.History.{Chronicle, of_session, base_of}
use Rattle.version_log.specs.Histories.{newest}
use Rattle.sessions.specs.Known.{Known, SeesOwn}
use Rattle.sessions.specs.Calls.{Told, IsTold}
use Rattle.sessions.proofs.Receipts.{writes, entry_is}
use Rattle.sessions.proofs.session.Session.receive.Goals as goal

pub returns-clause-receipt : goal.returns-clause-receipt
returns-clause-receipt g c =
    let view = c.self.view_is in
    let parts = c.into_parts-found.ensures in
    let found = c.into_parts-found.result.0 in
    let place = c.into_parts-found.result.1 in
    let seat = c.args.seat in
    let asked = c.args.asked.now in
    let old = c.args.self.now in
    let uncalled : (base_of g.J.Naming.base).calls ≡ empty = ap (λ (v : Chronicle). (base_of v.base).calls) (sym c.version.ensures.newest) ∙ c.place-recalled.ensures.history.base.uncalled in
    let receipt : Told = record { place = place; seat = seat; reply = c.into_parts-found.result.2; publication = c.publication-publication.result } in
    let t : IsTold (newest found) place seat asked = subst (λ (v : Chronicle). IsTold v.entries place seat asked) c.version-2.ensures.newest (c.if-not-is_told.ensures refl) in
    let seat_is = c.requires.seat in
    let count : length (of_session old.number (newest found)) ≡ length old.receipts + 1 = ap (λ (q : Seat). length (of_session q.session (newest found))) (sym seat_is) ∙ t.last ∙ ap (λ (q : Seat). q.call) seat_is in
    writes g.J.Naming.base uncalled old c.keep.new.self found asked receipt t.entry
    (subst SeesOwn view c.self.invariant.own)
    (subst (λ (l : List (List Entry)). IsPrefix l found) (ap (λ (k : Known). k.published) view) c.if-not-precedes.ensures.published)
    parts.grows
    t.at
    (entry_is (newest found) place seat asked c.into_parts-found.result.2 t parts.stands)
    seat_is
    count
    c.publication-publication.ensures.count
    (omega (arith, c.publication-publication.ensures.count, parts.counted))
    (c.keep.ensures ∙ (λ i. record old { published = found; receipts = of_session old.number (newest found); entered = (c.requires.entered ∙ sym count) i; lost = false }))
