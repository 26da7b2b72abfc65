-- Of all documents, or of some.
use Rattle.std.specs.Prelude.{◌≡◌, IfOk}
use Rattle.std.proofs.Common.{subst, sym}
use Rattle.model.specs.History.{now}
use Rattle.model.specs.Changes.{changes_page, wanted_by}
use Rattle.changes_feed.proofs.page.wanted_changes.Goals as goal

pub returns-in-Some : goal.returns-in-Some
returns-in-Some c = subst (λ ids. IfOk c.changes_among.result (λ page. page ≡ changes_page (wanted_by ids) (now c.args.version.now) c.args.since c.args.limit c.args.style))
    (sym c.in-Some.is) c.changes_among.ensures.page

pub returns-in-None : goal.returns-in-None
returns-in-None c = subst (λ ids. IfOk c.changes.result (λ page. page ≡ changes_page (wanted_by ids) (now c.args.version.now) c.args.since c.args.limit c.args.style))
    (sym c.in-None.is) c.changes.ensures.page
