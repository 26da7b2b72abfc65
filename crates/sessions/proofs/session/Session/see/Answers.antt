use Rattle.std.proofs.Common.{◌≡◌, ◌∙◌, [], ap, sym}
use Rattle.model.specs.History.{of_session}
use Rattle.version_log.specs.Histories.{newest}
use Rattle.version_log.proofs.Growing.{newest_grows, newest_legal}
use Rattle.sessions.specs.Known.{Known}
use Rattle.sessions.proofs.session.Session.see.Goals as goal

pub invariant_of-self : goal.invariant_of-self
invariant_of-self g c =
    let holds = c.self.invariant in
    let view = c.self.view_is in
    let own : of_session c.self.inside.number (newest c.args.found) ≡ of_session c.self.inside.number (newest c.self.inside.receipted) =
    ap (λ (k : Known). of_session k.number (newest c.args.found)) view ∙ c.requires.own ∙ sym (ap (λ (k : Known). k.receipts) view)
    in
    record {
      counted = holds.counted;
      own = own;
      grows = c.requires.grows;
      session = holds.session;
      ticket_is = holds.ticket_is;
      gone = holds.gone;
      heard = holds.heard;
      entered = holds.entered;
      looked_is = tt;
    }

pub returns-clause-looks : goal.returns-clause-looks
returns-clause-looks g c =
    let view = c.self.view_is in
    record {
      legal = newest_legal g.J.Naming.base [] c.args.found tt c.requires.grows;
      extends = newest_grows g.J.Naming.base c.args.self.now.published c.args.found c.requires.grows c.requires.later;
      own = ap (λ (k : Known). of_session k.number (newest c.args.found)) view ∙ c.requires.own ∙ sym (ap (λ (k : Known). k.receipts) view);
      same = λ i. record (view i) { published = c.args.found; waited = c.self.inside.waited };
    }
