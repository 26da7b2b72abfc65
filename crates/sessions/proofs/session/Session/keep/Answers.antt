use Rattle.std.proofs.Common.{ap, sym, ◌∙◌, ◌≡◌, ◌<◌, List, length, arith}
use Rattle.model.specs.Command.{Entry}
use Rattle.model.specs.History.{of_session}
use Rattle.version_log.specs.Histories.{newest}
use Rattle.sessions.specs.Known.{Known}
use Rattle.sessions.proofs.session.Session.keep.Goals as goal

pub invariant_of-self : goal.invariant_of-self
invariant_of-self g c =
    let holds = c.self.invariant in
    let number : c.self.inside.number ≡ c.args.self.now.number = ap (λ (k : Known). k.number) c.self.view_is in
    let more : c.self.inside.calls < c.self.inside.caller.entered = omega (arith, holds.counted, ap (λ (k : Known). length k.receipts) c.self.view_is, ap (λ (k : Known). k.entered) c.self.view_is, c.requires.entered) in
    let receipted : c.again.result ≡ c.args.found = c.again.ensures.same ∙ c.front.ensures.front in
    record {
      counted = c.requires.calls ∙ (λ i. length (of_session (sym number i) (newest (sym receipted i))));
      own = ap (λ (p : List (List Entry)). of_session c.self.inside.number (newest p)) (sym receipted);
      grows = c.requires.grows;
      session = holds.session;
      ticket_is = holds.ticket_is;
      gone = λ _. holds.heard more;
      heard = λ _. holds.heard more;
      entered = λ _. ap (λ (k : Known). k.entered) c.self.view_is ∙ sym c.requires.one;
      looked_is = tt;
    }
