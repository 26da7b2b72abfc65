use Rattle.std.proofs.Common.{◌∙◌, ap}
use Rattle.model.specs.History.{Chronicle}
use Rattle.version_log.proofs.Prefixes.{prefix_trans}
use Rattle.journal_front.proofs.Progress.{when_false, when_true}
use Rattle.journal_front.proofs.Keeping.{accounted_all, accounted_more, kept_in}
use Rattle.journal_front.proofs.appending.append_new.Goals as goal

pub append-requires : goal.append-requires
append-requires g c =
    let old = g.K.Viewer.known c.args.session.now in
    let new = g.K.Viewer.known c.append_seen.new.session in
    let version_is = c.version.ensures.version in
    let base_is = c.append_seen.ensures.base ∙ c.requires.accounted.base_is in
    let entries_is = ap (λ (h : Chronicle). h.entries) version_is in
    record {
      base = ap (λ (h : Chronicle). h.base) version_is ∙ base_is;
      extends = rw entries_is (prefix_trans c.args.account.now old.seen new.seen c.requires.accounted.begins c.append_seen.ensures.grows);
      appended = c.requires.appended c.version.result.now.entries
          (kept_in g.F.Appended.said g.N.Naming.base c.append_seen.new.journal new c.version.result.now.entries c.in_ok-append_seen.ensures.all c.in_ok-append_seen.ensures.said base_is entries_is);
    }

pub returns-in_err-append_seen-clause-accounted : goal.returns-in_err-append_seen-clause-accounted
returns-in_err-append_seen-clause-accounted g c =
    accounted_more g.N.Naming.base (g.K.Viewer.known c.args.session.now) (g.K.Viewer.known c.append_seen.new.session) c.args.account.now c.requires.accounted c.append_seen.ensures.base c.append_seen.ensures.grows

pub returns-then-not-append-clause-accounted : goal.returns-then-not-append-clause-accounted
returns-then-not-append-clause-accounted g c =
    rw (when_false c.append.result _ _ c.if-not-append.true c.append.ensures)
    (accounted_more g.N.Naming.base (g.K.Viewer.known c.args.session.now) (g.K.Viewer.known c.append_seen.new.session) c.args.account.now c.requires.accounted c.append_seen.ensures.base c.append_seen.ensures.grows)

pub returns-clause-accounted : goal.returns-clause-accounted
returns-clause-accounted g c =
    accounted_all g.N.Naming.base (g.K.Viewer.known c.append_seen.new.session) c.append.new.self (c.append_seen.ensures.base ∙ c.requires.accounted.base_is)
    (when_true c.append.result _ _ c.if-not-append.false c.append.ensures ∙ ap (λ (h : Chronicle). h.entries) c.version.ensures.version)

pub returns-clause-account : goal.returns-clause-account
returns-clause-account g c = when_true c.append.result _ _ c.if-not-append.false c.append.ensures ∙ ap (λ (h : Chronicle). h.entries) c.version.ensures.version
