use Rattle.std.specs.Arc.{arc_value}
use Rattle.std.proofs.Common.{◌<◌, ◌∙◌, ◌∷◌, ◌++◌, List, [], ap, sym, subst, length, arith}
use Rattle.model.specs.Command.{Entry}
use Rattle.model.specs.History.{Chronicle, replay, base_of}
use Rattle.version_log.specs.Histories.{newest, IsNewest}
use Rattle.updater_state.specs.State.{entries_after}
use Rattle.updater_state.proofs.Published.{applied, longer, is_newest, drafts_told, drafts_published, one_more}
use Rattle.updater_state.proofs.publication.publish.Goals as goal

pub publish-requires-clause-longer : goal.publish-requires-clause-longer
publish-requires-clause-longer g c =
    let v = c.deref.result.now in
    let current = c.args.current.now in
    let jobs = c.args.jobs.now in
    let made = applied g.J.Naming.base v c.version-latest.result.now current jobs (c.deref.ensures ∙ c.in_ok-shared.ensures.ok ∙ c.in_ok-version.ensures.all) c.version-latest.ensures.newest in
    subst (λ (l : List (List Entry)). length (newest l) < length v.entries) (sym (c.again-front.ensures.same ∙ c.front.ensures.front))
    (longer v current (replay (base_of g.J.Naming.base) (newest current)) jobs (ap (λ (k : Chronicle). k.entries) made) c.requires.some)

pub new-requires-2 : goal.new-requires-2
new-requires-2 g c =
    let v = arc_value c.in_ok-shared.shared in
    let made = applied g.J.Naming.base v c.version-latest.result.now c.args.current.now c.args.jobs.now (c.in_ok-shared.ensures.ok ∙ c.in_ok-version.ensures.all) c.version-latest.ensures.newest in
    let published = c.if-not-publish.ensures.published ∙ ap (λ (k : Chronicle). c.again-front.result ++ k.entries ∷ []) c.deref.ensures in
    record { newest = is_newest g.J.Naming.base v c.again-front.result c.publish.new.self (ap (λ (k : Chronicle). k.base) made) published }

pub returns-clause-drafts : goal.returns-clause-drafts
returns-clause-drafts g c =
    let v = arc_value c.in_ok-shared.shared in
    let current = c.args.current.now in
    let made = applied g.J.Naming.base v c.version-latest.result.now current c.args.jobs.now (c.in_ok-shared.ensures.ok ∙ c.in_ok-version.ensures.all) c.version-latest.ensures.newest in
    drafts_told c.new-2.result v c.place.result (newest current) (entries_after g.J.Naming.base current c.args.jobs.now) c.draft_all_after.new.drafts.items
    c.in_ok-draft_all_after.ensures (ap (λ (k : Chronicle). k.entries) made) (c.place.ensures.place ∙ ap (λ (k : Chronicle). length k.entries) c.version-latest.ensures.newest)

pub returns-clause-published : goal.returns-clause-published
returns-clause-published g c =
    let v = arc_value c.in_ok-shared.shared in
    let current = c.args.current.now in
    let made = applied g.J.Naming.base v c.version-latest.result.now current c.args.jobs.now (c.in_ok-shared.ensures.ok ∙ c.in_ok-version.ensures.all) c.version-latest.ensures.newest in
    let published = c.if-not-publish.ensures.published ∙ ap (λ (k : Chronicle). c.again-front.result ++ k.entries ∷ []) c.deref.ensures in
    drafts_published g.J.Naming.base c.new-2.result v c.place.result c.draft_all_after.new.drafts.items c.in_ok-draft_all_after.ensures
    (subst (IsNewest g.J.Naming.base v) (sym c.new-2.ensures.front) (is_newest g.J.Naming.base v c.again-front.result c.publish.new.self (ap (λ (k : Chronicle). k.base) made) published))
    (one_more c.new-2.result current v.entries c.place.result
    (c.new-2.ensures.front ∙ published ∙ ap (λ (l : List (List Entry)). l ++ v.entries ∷ []) (c.again-front.ensures.same ∙ c.front.ensures.front))
    (omega (arith, c.publication-recalled.ensures.few, c.place.ensures.place, ap (λ (k : Chronicle). length k.entries) c.version-latest.ensures.newest)))
