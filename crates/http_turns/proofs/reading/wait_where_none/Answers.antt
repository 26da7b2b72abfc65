use Rattle.std.proofs.Common.{◌≡◌, ℕ, [], true, false, Ok, Err, inl, inr, refl, sym, ◌∙◌, subst}
use Rattle.model.specs.History.{now}
use Rattle.http_turns.specs.ChangesWanted.{has_changes}
use Rattle.http_turns.specs.CallsOfRequest.{WaitsFor}
use Rattle.session_api.specs.Known.{history_of}
use Rattle.http_turns.proofs.reading.wait_where_none.Goals as goal

pub returns-then-has_changes : goal.returns-then-has_changes
returns-then-has_changes g c =
    let d = now (history_of (g.S.Viewer.known c.args.session.now)) in
    let ids = c.args.changes.now.ids in
    let some : has_changes d c.since_seen-since.result ids ≡ true = sym c.has_changes.ensures ∙ c.if-has_changes.true in
    ([], (c.since_seen-since.ensures, inl (subst (λ (n : ℕ). has_changes d n ids ≡ true) c.since_seen-since.ensures some, (refl, refl), refl)))

pub returns-in-Ok : goal.returns-in-Ok
returns-in-Ok g c =
    let d = now (history_of (g.S.Viewer.known c.args.session.now)) in
    let ids = c.args.changes.now.ids in
    let is = c.since_seen-since.ensures in
    let none : has_changes d c.since_seen-since.result ids ≡ false = sym c.has_changes.ensures ∙ c.if-has_changes.false in
    let waits = c.in-Ok.ensures in
    let came = c.in-Ok._came in (
      waits.0,
      (is, inr (subst (λ (n : ℕ). has_changes d n ids ≡ false) is none, (Ok came, subst (λ (n : ℕ). WaitsFor g.S.Viewer.goes g.S.Viewer.known c.args.setting.now n n ids c.args.session.now waits.0 c.wait_for_changes.new.session (Ok came)) is waits.1, refl))),
    )

pub returns-in-Err : goal.returns-in-Err
returns-in-Err g c =
    let d = now (history_of (g.S.Viewer.known c.args.session.now)) in
    let ids = c.args.changes.now.ids in
    let is = c.since_seen-since.ensures in
    let none : has_changes d c.since_seen-since.result ids ≡ false = sym c.has_changes.ensures ∙ c.if-has_changes.false in
    let waits = c.in-Err.ensures in
    let why = c.in-Err.fault in (
      waits.0,
      inr (subst (λ (n : ℕ). has_changes d n ids ≡ false) is none, (Err why, subst (λ (n : ℕ). WaitsFor g.S.Viewer.goes g.S.Viewer.known c.args.setting.now n n ids c.args.session.now waits.0 c.wait_for_changes.new.session (Err why)) is waits.1, refl)),
    )
