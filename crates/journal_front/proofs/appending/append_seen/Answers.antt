use Rattle.std.proofs.Common.{sym, subst}
use Rattle.model.specs.History.{Chronicle, Extends}
use Rattle.journal.specs.Held.{BeginsDump, HoldsDump}
use Rattle.journal.specs.Kept.{Kept}
use Rattle.journal_front.specs.Keeping.{IsBehind}
use Rattle.journal_front.proofs.Keeping.{behind_begins, looked, looks_behind, looks_grows, on_ok}
use Rattle.journal_front.proofs.appending.append_seen.Goals as goal

pub returns-then-is_err-clause-begins : goal.returns-then-is_err-clause-begins
returns-then-is_err-clause-begins g c =
    let old = g.K.Viewer.known c.args.session.now in
    let new = g.K.Viewer.known c.refresh.new.self in
    behind_begins c.args.journal.now new (looks_behind c.args.journal.now old new c.requires.behind (looked old new c.refresh.result c.refresh.ensures.learns))

pub returns-clause-memory : goal.returns-clause-memory
returns-clause-memory g c = λ refused.
    let old = g.K.Viewer.known c.args.session.now in
    let new = g.K.Viewer.known c.refresh.new.self in
    let behind = looks_behind c.args.journal.now old new c.requires.behind (looked old new c.refresh.result c.refresh.ensures.learns) in
    subst (λ (k : Kept). IsBehind k new) (sym (c.append.ensures.memory refused)) behind

pub returns-clause-begins : goal.returns-clause-begins
returns-clause-begins g c =
    let old = g.K.Viewer.known c.args.session.now in
    let new = g.K.Viewer.known c.refresh.new.self in
    let behind = looks_behind c.args.journal.now old new c.requires.behind (looked old new c.refresh.result c.refresh.ensures.learns) in
    subst (λ (h : Chronicle). BeginsDump c.append.new.self h) c.version.ensures.version
    (c.append.ensures.begins behind.history behind.holds (subst (λ (h : Chronicle). Extends h behind.history) (sym c.version.ensures.version) behind.extends))

pub returns-clause-all : goal.returns-clause-all
returns-clause-all g c =
    let old = g.K.Viewer.known c.args.session.now in
    let new = g.K.Viewer.known c.refresh.new.self in
    let behind = looks_behind c.args.journal.now old new c.requires.behind (looked old new c.refresh.result c.refresh.ensures.learns) in
    on_ok c.append.result (λ holds. record { holds = subst (λ (h : Chronicle). HoldsDump c.append.new.self h) c.version.ensures.version holds; legal = c.place-recalled.ensures.legal })
    (c.append.ensures.held behind.history behind.holds (subst (λ (h : Chronicle). Extends h behind.history) (sym c.version.ensures.version) behind.extends))

pub returns-then-is_err-clause-grows : goal.returns-then-is_err-clause-grows
returns-then-is_err-clause-grows g c =
    let old = g.K.Viewer.known c.args.session.now in
    let new = g.K.Viewer.known c.refresh.new.self in
    looks_grows old new (looked old new c.refresh.result c.refresh.ensures.learns)

pub returns-clause-grows : goal.returns-clause-grows
returns-clause-grows g c =
    let old = g.K.Viewer.known c.args.session.now in
    let new = g.K.Viewer.known c.refresh.new.self in
    looks_grows old new (looked old new c.refresh.result c.refresh.ensures.learns)
