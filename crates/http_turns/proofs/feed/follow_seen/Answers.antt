use Rattle.std.proofs.Common.{◌≡◌, ℕ, List, [], ◌++◌, false, length, refl, ap, sym, ◌∙◌, subst}
use Rattle.std.specs.Prelude.{is_ok}
use Rattle.std.proofs.lemmas.List.{append-nil}
use Rattle.std.specs.Io.KnownBytes.{Appends}
use Rattle.model.specs.History.{now}
use Rattle.http_response.specs.Feed.{feed_head_text}
use Rattle.session_api.specs.Known.{history_of}
use Rattle.http_turns.specs.ChangesWanted.{most_rows}
use Rattle.http_turns.specs.Feed.{feed_start}
use Rattle.http_turns.specs.FeedWritten.{GoesOn}
use Rattle.http_turns.specs.declared.progress.Progress.{Progress}
use Rattle.http_turns.proofs.Feeds.{going-start, goes_unbegun, cut_as, writes-later}
use Rattle.http_turns.proofs.feed.follow_seen.Goals as goal

pub returns-in_default-clause-goes_on : goal.returns-in_default-clause-goes_on
returns-in_default-clause-goes_on g c =
    let k = g.S.Viewer.known c.args.session.now in
    let start = feed_start (now (history_of k)) c.args.changes in
    let head : c.as_bytes.result.now ≡ feed_head_text (length k.seen) = c.as_bytes.ensures.value ∙ c.deref.ensures.0 ∙ c.feed_head-head.ensures.head ∙ ap feed_head_text c.place.ensures.place in (
      [],
      goes_unbegun g.S.Viewer.goes g.S.Viewer.known _ (going-start g.S.Viewer.goes g.S.Viewer.known _ c.args.session.now start c.place.ensures.legal) false refl,
      (tt, cut_as _ _ c.as_bytes.result.now (feed_head_text (length k.seen) ++ []) (head ∙ sym (append-nil (feed_head_text (length k.seen)))) c.in_default.ensures.written.1),
    )

pub returns-clause-goes_on : goal.returns-clause-goes_on
returns-clause-goes_on g c =
    let k = g.S.Viewer.known c.args.session.now in
    let changes = c.args.changes in
    let start = c.new-start.result in
    let start_is : start ≡ feed_start (now (history_of k)) changes = c.new-start.ensures ∙ (λ i. record { following = record { cursor = c.since_seen-since.ensures i; style = changes.style; ids = changes.ids }; left = most_rows changes.limit }) in
    let head : c.as_bytes.result.now ≡ feed_head_text (length k.seen) = c.as_bytes.ensures.value ∙ c.deref.ensures.0 ∙ c.feed_head-head.ensures.head ∙ ap feed_head_text c.place.ensures.place in
    let goes = c.go_on.ensures.goes_on in (
      goes.0,
      subst (λ (s : Progress). GoesOn g.S.Viewer.goes g.S.Viewer.known c.args.setting.now c.args.session.now c.go_on.new.session s (is_ok c.go_on.result) goes.0) start_is goes.1,
      writes-later _ _ _ _ (feed_head_text (length k.seen)) goes.0 (subst (λ (t : List ℕ). Appends (g.W.Sink.taken c.args.writer.now) (g.W.Sink.taken c.write_next.new.writer) t) head c.in-Ok.ensures.written.0) goes.2,
    )
