use Rattle.std.proofs.Common.{◌+◌, ◌≤◌, ◌∙◌, ap, subst}
use Rattle.model.specs.History.{Chronicle, now}
use Rattle.replay_cli.specs.Successors.{raise}
use Rattle.journal.specs.Held.{HoldsDump}
use Rattle.version_log.proofs.Prefixes.{prefix_trans}
use Rattle.journal_front.specs.Keeping.{HoldsAll}
use Rattle.journal_front.proofs.Ending.{looks_begins}
use Rattle.journal_front.proofs.Progress.{when_false, when_true}
use Rattle.journal_front.proofs.Keeping.{accounted_all, accounted_more, kept_in, limit_in, looked, looks_grows, same_base}
use Rattle.journal_front.proofs.mending.rewrite.Goals as goal

pub returns-in_default-clause-begins : goal.returns-in_default-clause-begins
returns-in_default-clause-begins g c = λ none.
    let old = g.K.Viewer.known c.args.session.now in
    let new = g.K.Viewer.known c.refresh.new.self in
    looks_begins c.args.broken.now old new c.requires.begins (looked old new c.refresh.result c.refresh.ensures.learns)

pub returns-then-not-append-clause-begins : goal.returns-then-not-append-clause-begins
returns-then-not-append-clause-begins g c = λ none.
    let old = g.K.Viewer.known c.args.session.now in
    let new = g.K.Viewer.known c.refresh.new.self in
    looks_begins c.args.broken.now old new c.requires.begins (looked old new c.refresh.result c.refresh.ensures.learns)

pub append-requires : goal.append-requires
append-requires g c =
    let old = g.K.Viewer.known c.args.session.now in
    let new = g.K.Viewer.known c.refresh.new.self in
    let looks = looked old new c.refresh.result c.refresh.ensures.learns in
    let version_is = c.version-last.ensures.version in
    let entries_is = ap (λ (h : Chronicle). h.entries) version_is in
    let base_is = same_base old new looks ∙ c.requires.accounted.base_is in
    let all : HoldsAll c.in-Some.whole new = record { holds = subst (λ (h : Chronicle). HoldsDump c.in-Some.whole h) version_is c.in-Some.ensures.held; legal = c.place-recalled.ensures.legal } in
    record {
      base = ap (λ (h : Chronicle). h.base) version_is ∙ base_is;
      extends = rw entries_is (prefix_trans c.args.account.now old.seen new.seen c.requires.accounted.begins (looks_grows old new looks));
      appended = c.requires.appended c.version-last.result.now.entries
          (kept_in g.F.Appended.said g.N.Naming.base c.in-Some.whole new c.version-last.result.now.entries all c.in-Some.ensures.said base_is entries_is);
    }

pub keep-requires : goal.keep-requires
keep-requires g c =
    let old = g.K.Viewer.known c.args.session.now in
    let new = g.K.Viewer.known c.refresh.new.self in
    let looks = looked old new c.refresh.result c.refresh.ensures.learns in
    let version_is = c.version-last.ensures.version in
    let base_is = same_base old new looks ∙ c.requires.accounted.base_is in
    let account_is = when_true c.append.result _ _ c.if-not-append.false c.append.ensures ∙ ap (λ (h : Chronicle). h.entries) version_is in
    let all : HoldsAll c.in-Some.whole new = record { holds = subst (λ (h : Chronicle). HoldsDump c.in-Some.whole h) version_is c.in-Some.ensures.held; legal = c.place-recalled.ensures.legal } in
    let within = subst (λ (h : Chronicle). c.limit_of.result ≤ (now h).update_seq + raise) version_is c.limit_of.ensures in
    record {
      kept = c.requires.kept c.append.new.self (kept_in g.F.Appended.told g.N.Naming.base c.in-Some.whole new c.append.new.self all c.in-Some.ensures.told base_is account_is);
      limit = c.requires.limit c.limit_of.result c.append.new.self
          (limit_in g.F.Appended.told g.N.Naming.base c.in-Some.whole new c.limit_of.result c.append.new.self all c.in-Some.ensures.told base_is account_is within);
    }

pub returns-then-is_err-clause-accounted : goal.returns-then-is_err-clause-accounted
returns-then-is_err-clause-accounted g c =
    let old = g.K.Viewer.known c.args.session.now in
    let new = g.K.Viewer.known c.refresh.new.self in
    let looks = looked old new c.refresh.result c.refresh.ensures.learns in
    accounted_more g.N.Naming.base old new c.args.account.now c.requires.accounted (same_base old new looks) (looks_grows old new looks)

pub returns-in_default-clause-accounted : goal.returns-in_default-clause-accounted
returns-in_default-clause-accounted g c =
    let old = g.K.Viewer.known c.args.session.now in
    let new = g.K.Viewer.known c.refresh.new.self in
    let looks = looked old new c.refresh.result c.refresh.ensures.learns in
    accounted_more g.N.Naming.base old new c.args.account.now c.requires.accounted (same_base old new looks) (looks_grows old new looks)

pub returns-then-not-append-clause-accounted : goal.returns-then-not-append-clause-accounted
returns-then-not-append-clause-accounted g c =
    let old = g.K.Viewer.known c.args.session.now in
    let new = g.K.Viewer.known c.refresh.new.self in
    let looks = looked old new c.refresh.result c.refresh.ensures.learns in
    rw (when_false c.append.result _ _ c.if-not-append.true c.append.ensures)
    (accounted_more g.N.Naming.base old new c.args.account.now c.requires.accounted (same_base old new looks) (looks_grows old new looks))

pub returns-clause-accounted : goal.returns-clause-accounted
returns-clause-accounted g c =
    let old = g.K.Viewer.known c.args.session.now in
    let new = g.K.Viewer.known c.refresh.new.self in
    let looks = looked old new c.refresh.result c.refresh.ensures.learns in
    accounted_all g.N.Naming.base new c.keep.new.self (same_base old new looks ∙ c.requires.accounted.base_is)
    (c.keep.ensures.same ∙ when_true c.append.result _ _ c.if-not-append.false c.append.ensures ∙ ap (λ (h : Chronicle). h.entries) c.version-last.ensures.version)
