use Rattle.std.specs.Arc.{arc_value}
use Rattle.std.proofs.Common.{◌≡◌, ◌+◌, ◌∙◌, ◌∷◌, [], ◌++◌, List, Some, ap, sym, subst, length, arith}
use Rattle.model.specs.Command.{Entry}
use Rattle.model.specs.History.{Chronicle}
use Rattle.version_log.specs.Histories.{newest, IsNewest}
use Rattle.updater_state.specs.State.{published_with}
use Rattle.updater_state.specs.Swaps.{compaction_of}
use Rattle.updater_state.proofs.Published.{applied, is_newest, follows_latest}
use Rattle.updater_state.proofs.Swaps.{newest_with, length-newest_with, entry_stands}
use Rattle.updater_state.proofs.swapping.publish_copy.Goals as goal

pub finish-requires-clause-follows : goal.finish-requires-clause-follows
finish-requires-clause-follows g c = follows_latest g.J.Naming.base c.version-latest.result.now c.args.copy.now.seen c.args.current.now c.version-latest.ensures.newest c.requires.follows

pub new-found-requires : goal.new-found-requires
new-found-requires g c =
    let v = arc_value c.in-Ok.shared in
    let current = c.args.current.now in
    let made = applied g.J.Naming.base v c.version-latest.result.now current (compaction_of c.args.seat ∷ []) (c.in-Ok.ensures.ok ∙ c.in_ok-version.ensures.compacted) c.version-latest.ensures.newest in
    let published = c.if-not-publish.ensures.published ∙ ap (λ (k : Chronicle). c.again-front.result ++ k.entries ∷ []) c.deref-2.ensures in
    record { newest = subst (IsNewest g.J.Naming.base v) (sym c.again.ensures.same) (is_newest g.J.Naming.base v c.again-front.result c.publish.new.self (ap (λ (k : Chronicle). k.base) made) published) }

pub new-answered-requires : goal.new-answered-requires
new-answered-requires g c =
    let v = arc_value c.in-Ok.shared in
    let current = c.args.current.now in
    let made = applied g.J.Naming.base v c.version-latest.result.now current (compaction_of c.args.seat ∷ []) (c.in-Ok.ensures.ok ∙ c.in_ok-version.ensures.compacted) c.version-latest.ensures.newest in
    let published = c.if-not-publish.ensures.published ∙ ap (λ (k : Chronicle). c.again-front.result ++ k.entries ∷ []) c.deref-2.ensures in
    record { newest = subst (λ (k : Chronicle). IsNewest g.J.Naming.base k c.publish.new.self) (sym c.in_ok-again.ensures) (is_newest g.J.Naming.base v c.again-front.result c.publish.new.self (ap (λ (k : Chronicle). k.base) made) published) }

pub new-requires-3-clause-counted : goal.new-requires-3-clause-counted
new-requires-3-clause-counted g c =
    let v = arc_value c.in-Ok.shared in
    let current = c.args.current.now in
    let made = applied g.J.Naming.base v c.version-latest.result.now current (compaction_of c.args.seat ∷ []) (c.in-Ok.ensures.ok ∙ c.in_ok-version.ensures.compacted) c.version-latest.ensures.newest in
    let published = c.if-not-publish.ensures.published ∙ ap (λ (k : Chronicle). c.again-front.result ++ k.entries ∷ []) c.deref-2.ensures in
    let newest_is = is_newest g.J.Naming.base v c.again-front.result c.publish.new.self (ap (λ (k : Chronicle). k.base) made) published in
    omega (arith, c.publication-recalled.ensures.few, c.place-place.ensures.place, ap (λ (k : Chronicle). length k.entries) c.deref.ensures, ap length newest_is.entries, ap (λ (l : List (List Entry)). length (newest l)) c.new-answered.ensures.front)

pub new-requires-3-clause-stands : goal.new-requires-3-clause-stands
new-requires-3-clause-stands g c =
    let v = arc_value c.in-Ok.shared in
    let current = c.args.current.now in
    let jobs = compaction_of c.args.seat ∷ [] in
    let made = applied g.J.Naming.base v c.version-latest.result.now current jobs (c.in-Ok.ensures.ok ∙ c.in_ok-version.ensures.compacted) c.version-latest.ensures.newest in
    let entries = ap (λ (k : Chronicle). k.entries) made in
    let before = c.again-front.ensures.same ∙ c.front.ensures.front in
    let published = c.if-not-publish.ensures.published ∙ ap (λ (k : Chronicle). c.again-front.result ++ k.entries ∷ []) c.deref-2.ensures in
    let found : c.new-answered.result ≡ published_with g.J.Naming.base current jobs =
    c.new-answered.ensures.front ∙ published
    ∙ (λ i. before i ++ entries i ∷ [])
    in
    let place : c.place-place.result ≡ length (newest current) + 1 = omega (arith, c.place-place.ensures.place, ap (λ (k : Chronicle). length k.entries) c.deref.ensures, ap length entries, length-newest_with g.J.Naming.base current c.args.seat, ap length (newest_with g.J.Naming.base current jobs)) in
    entry_stands g.J.Naming.base c.new-answered.result current c.args.seat c.place-place.result found place ∙ ap Some (sym c.new-2.ensures.reply)
