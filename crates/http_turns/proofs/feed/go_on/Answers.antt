use Rattle.std.proofs.Common.{◌≡◌, [], ◌++◌, Bool, true, false, Ok, inl, refl, ap, ◌∙◌, subst}
use Rattle.std.specs.Prelude.{Result}
use Rattle.std.proofs.KnownBytes.{Appends-nil}
use Rattle.http_response.specs.Feed.{feed_last_text}
use Rattle.http_turns.specs.Feed.{piece_text}
use Rattle.http_turns.specs.FeedCalls.{HasMore}
use Rattle.session_api.specs.declared.fault.CallFault.{CallFault}
use Rattle.http_turns.proofs.Feeds.{gave_some, going-start, going-on, goes_cut, goes_ended, goes_refused, goes_unseen, one_writes, writes-later}
use Rattle.http_turns.proofs.RowsLeft.{gave_none, goes_short}
use Rattle.http_turns.proofs.feed.go_on.Goals as goal

pub loop-turn-init : goal.loop-turn-init
loop-turn-init g c = ([], going-start g.S.Viewer.goes g.S.Viewer.known _ _ c.args.start c.place-recalled.ensures.legal, Appends-nil _, refl)

pub returns-in_default-clause-goes_on : goal.returns-in_default-clause-goes_on
returns-in_default-clause-goes_on g c =
    let one = c.in_default.ensures.gives in
    let inv = c.loop-turn.invariant in
    (inv.0 ++ piece_text one.piece, goes_cut g.S.Viewer.goes g.S.Viewer.known _ inv.1 one.piece _ one.here one.gives [] refl false refl, one_writes one _ _ inv.2)

pub returns-in_default-given-clause-goes_on : goal.returns-in_default-given-clause-goes_on
returns-in_default-given-clause-goes_on g c =
    let inv = c.loop-turn.invariant in
    let taken = g.W.Sink.taken c.loop-turn.writer in
    let taken' = g.W.Sink.taken c.give.new.writer in
    let none = gave_none (g.S.Viewer.known c.loop-turn.session) c.loop-turn.progress c.give.new.progress taken taken' c.in-Ok.given c.in_default-given.is c.in-Ok.ensures.gives in
    let short = goes_short g.S.Viewer.goes g.S.Viewer.known _ inv.1 true (g.W.Sink.taken c.args.writer.now) taken taken' inv.2 none in
    (short.0, short.1, (short.2, tt))

pub returns-then-progress-eq0-clause-goes_on : goal.returns-then-progress-eq0-clause-goes_on
returns-then-progress-eq0-clause-goes_on g c =
    let inv = c.loop-turn.invariant in
    let pending = c.in-Some.pending in
    let gave = gave_some (g.S.Viewer.known c.loop-turn.session) c.loop-turn.progress c.give.new.progress (g.W.Sink.taken c.loop-turn.writer) (g.W.Sink.taken c.give.new.writer) c.in-Ok.given pending c.in-Some.is c.in-Ok.ensures.gives in
    let one = gave.0 in
    let next = c.give.new.progress in
    let last = feed_last_text next.following.cursor pending in (
      (inv.0 ++ piece_text one.piece) ++ last,
      goes_ended g.S.Viewer.goes g.S.Viewer.known _ inv.1 one.piece next one.here one.gives [] c.loop-turn.session _ pending gave.1 (inl (c.if-progress-eq0.true, (refl, refl), refl)),
      writes-later _ _ _ _ (inv.0 ++ piece_text one.piece) last (one_writes one _ _ inv.2).0 c.finish.ensures.written,
    )

pub loop-turn-preserved : goal.loop-turn-preserved
loop-turn-preserved g c =
    let inv = c.loop-turn.invariant in
    let gave = gave_some (g.S.Viewer.known c.loop-turn.session) c.loop-turn.progress c.give.new.progress (g.W.Sink.taken c.loop-turn.writer) (g.W.Sink.taken c.give.new.writer) c.in-Ok.given c.in-Some.pending c.in-Some.is c.in-Ok.ensures.gives in
    let one = gave.0 in
    let next = c.give.new.progress in
    let later = c.has_more.new.session in
    let more = c.in-Ok-true.ensures in
    let yes : (let r : Result Bool CallFault = Ok c.in-Ok-true.field-0 in r ≡ Ok true) = ap Ok c.in-Ok-true.field-0-test in
    let has_more = subst (λ (r : Result Bool CallFault). HasMore g.S.Viewer.goes g.S.Viewer.known c.args.setting.now next c.loop-turn.session more.0 later r) yes more.1 in (
      inv.0 ++ piece_text one.piece,
      going-on g.S.Viewer.goes g.S.Viewer.known _ inv.1 one.piece next one.here one.gives more.0 later has_more,
      (one_writes one _ _ inv.2).0,
      c.in-Ok.ensures.failures.0 ∙ inv.3,
    )

pub returns-in-Ok-false-clause-goes_on : goal.returns-in-Ok-false-clause-goes_on
returns-in-Ok-false-clause-goes_on g c =
    let inv = c.loop-turn.invariant in
    let pending = c.in-Some.pending in
    let gave = gave_some (g.S.Viewer.known c.loop-turn.session) c.loop-turn.progress c.give.new.progress (g.W.Sink.taken c.loop-turn.writer) (g.W.Sink.taken c.give.new.writer) c.in-Ok.given pending c.in-Some.is c.in-Ok.ensures.gives in
    let one = gave.0 in
    let next = c.give.new.progress in
    let later = c.has_more.new.session in
    let more = c.in-Ok-false.ensures in
    let last = feed_last_text next.following.cursor pending in
    let none : (let r : Result Bool CallFault = Ok c.in-Ok-false.field-0 in r ≡ Ok false) = ap Ok c.in-Ok-false.field-0-test in
    let has_more = subst (λ (r : Result Bool CallFault). HasMore g.S.Viewer.goes g.S.Viewer.known c.args.setting.now next c.loop-turn.session more.0 later r) none more.1 in (
      (inv.0 ++ piece_text one.piece) ++ last,
      goes_ended g.S.Viewer.goes g.S.Viewer.known _ inv.1 one.piece next one.here one.gives more.0 later _ pending gave.1 has_more,
      writes-later _ _ _ _ (inv.0 ++ piece_text one.piece) last (one_writes one _ _ inv.2).0 c.finish-in-Ok-false.ensures.written,
    )

pub returns-in-Err-clause-goes_on : goal.returns-in-Err-clause-goes_on
returns-in-Err-clause-goes_on g c =
    let inv = c.loop-turn.invariant in
    let gave = gave_some (g.S.Viewer.known c.loop-turn.session) c.loop-turn.progress c.give.new.progress (g.W.Sink.taken c.loop-turn.writer) (g.W.Sink.taken c.give.new.writer) c.in-Ok.given c.in-Some.pending c.in-Some.is c.in-Ok.ensures.gives in
    let one = gave.0 in
    let more = c.in-Err.ensures in
    (inv.0 ++ piece_text one.piece, goes_unseen g.S.Viewer.goes g.S.Viewer.known _ inv.1 one.piece c.give.new.progress one.here one.gives more.0 c.has_more.new.session c.in-Err.field-0 true more.1, ((one_writes one _ _ inv.2).0, tt))

pub returns-clause-goes_on : goal.returns-clause-goes_on
returns-clause-goes_on g c =
    let inv = c.loop-turn.invariant in
    (inv.0, goes_refused g.S.Viewer.goes g.S.Viewer.known _ inv.1 true, (inv.2, tt))
