use Rattle.std.proofs.Common.{◌≡◌, ◌==◌, ◌∙◌, true, ap, subst, length, arith}
use Rattle.std.proofs.lemmas.Bool.Decides.{nat_tests}
use Rattle.model.specs.History.{Chronicle, of_session}
use Rattle.version_log.specs.Histories.{newest}
use Rattle.sessions.specs.Known.{Known, SeesOwn}
use Rattle.sessions.proofs.LastTold.{own_by}
use Rattle.sessions.proofs.session.Session.has_own.Goals as goal

pub returns : goal.returns
returns g c =
    let k = c.args.self.now in
    let found = c.args.found.now in
    let view = c.self.view_is in
    λ t.
    let counts : c.calls_of.result ≡ c.self.inside.calls = (let eq : (c.calls_of.result == c.self.inside.calls) ≡ true = t in grind (arith, nat_tests)) in
    let there : c.calls_of.result ≡ length (of_session k.number (newest found)) = c.calls_of.ensures ∙ ap (λ (v : Chronicle). length (of_session c.self.inside.number v.entries)) c.version.ensures.newest ∙ ap (λ (q : Known). length (of_session q.number (newest found))) view in
    let here : c.self.inside.calls ≡ length k.receipts = c.self.invariant.counted ∙ ap (λ (q : Known). length q.receipts) view in
    own_by g.J.Naming.base k found (subst SeesOwn view c.self.invariant.own) c.requires.grows c.requires.later (omega (arith, counts, there, here))
