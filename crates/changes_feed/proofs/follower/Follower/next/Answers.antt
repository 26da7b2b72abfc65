-- The law of feeds, for the rows that were taken.
use Rattle.std.specs.Prelude.{◌≡◌, ℕ, List, take}
use Rattle.std.proofs.Common.{sym, ap, subst, ◌∙◌}
use Rattle.model.specs.Query.{Row}
use Rattle.model.specs.History.{now}
use Rattle.model.specs.Changes.{fed, IsRightFeed, last_seq_of, rows_since, wanted_by}
use Rattle.changes_feed.specs.Followed.{Following}
use Rattle.changes_feed.proofs.follower.Follower.next.Goals as goal

pub returns-clause-right : goal.returns-clause-right
returns-clause-right c = λ m s earlier num follows le right.
    let f = c.args.self.now in
    let later = c.args.version.now in
    let given = take c.args.limit (rows_since (wanted_by f.ids) (now later) f.cursor f.style) in
    let rows : c.in_ok-rows.rows.items ≡ given =
    c.in_ok-rows.ensures ∙ ap (λ (g : Following). take c.args.limit (rows_since (wanted_by g.ids) (now later) g.cursor g.style)) c.self.view_is in
    let last : c.last_seq-self-inside.result ≡ last_seq_of f.cursor given =
    c.last_seq-self-inside.ensures ∙ (λ i. last_seq_of (c.self.view_is i).cursor ((c.deref.ensures.value ∙ rows) i)) in
    subst (λ (p : List Row × ℕ). IsRightFeed (wanted_by f.ids) f.style (fed m p.0) s p.1 (now later)) (λ i. (sym rows i, sym last i))
    (c.feeds_stay_right.ensures.next (wanted_by f.ids) f.style m s f.cursor c.args.limit later earlier num follows le right)
