use Rattle.std.proofs.Common.{ℕ, [], inl, inr, refl, subst, arith}
use Rattle.http_turns.specs.CallsOfRequest.{WaitsFor}
use Rattle.http_turns.proofs.feed.has_more.Goals as goal

pub returns-then-pending-gt0 : goal.returns-then-pending-gt0
returns-then-pending-gt0 g c = ([], inr (inl (c.requires.some, omega (arith, c.if-pending-gt0.true, c.requires.counts), (refl, refl), refl)))

pub returns : goal.returns
returns g c =
    let waits = c.wait_for_changes.ensures in
    let goes = g.S.Viewer.goes in
    let known = g.S.Viewer.known in
    let turns = c.args.setting.now in
    let following = c.args.progress.now.following in
    let wait = subst (λ (n : ℕ). WaitsFor goes known turns n following.cursor following.ids c.args.session.now waits.0 c.wait_for_changes.new.session c.wait_for_changes.result) c.update_seq-seen.ensures.number waits.1 in
    (waits.0, inr (inr (c.requires.some, omega (arith, c.if-pending-gt0.false, c.requires.counts), wait)))
