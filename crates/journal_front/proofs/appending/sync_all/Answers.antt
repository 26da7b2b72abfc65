use Rattle.std.proofs.Common.{◌+◌, ◌≤◌, ◌∙◌, subst}
use Rattle.model.specs.History.{Chronicle, now}
use Rattle.replay_cli.specs.Successors.{raise}
use Rattle.journal_front.proofs.Keeping.{accounted_all, kept_in, limit_in}
use Rattle.journal_front.proofs.appending.sync_all.Goals as goal

pub keep-requires : goal.keep-requires
keep-requires g c =
    let known = g.K.Viewer.known c.args.session.now in
    let account = c.args.account.now in
    let within = subst (λ (h : Chronicle). c.limit_of.result ≤ (now h).update_seq + raise) c.version.ensures.version c.limit_of.ensures in
    record {
      kept = c.requires.kept account (kept_in g.F.Appended.told g.N.Naming.base c.args.journal.now known account c.requires.all c.in_ok-sync.ensures.told c.requires.base c.requires.account);
      limit = c.requires.limit c.limit_of.result account
          (limit_in g.F.Appended.told g.N.Naming.base c.args.journal.now known c.limit_of.result account c.requires.all c.in_ok-sync.ensures.told c.requires.base c.requires.account within);
    }

pub returns-clause-accounted : goal.returns-clause-accounted
returns-clause-accounted g c = accounted_all g.N.Naming.base (g.K.Viewer.known c.args.session.now) c.keep.new.self c.requires.base (c.keep.ensures.same ∙ c.requires.account)
