use Rattle.std.proofs.Common.{◌<◌, ◌≡◌, ◌++◌, ◌∙◌, List, map, length, get_or, ap, sym, subst}
use Rattle.model.specs.Command.{Id}
use Rattle.model.specs.Map.{entries}
use Rattle.model.specs.Query.{Difference}
use Rattle.model.specs.Revision.{Rev}
use Rattle.replicator.proofs.Passes.{wanted-more}
use Rattle.replicator.proofs.wanted.wanted_of.Goals as goal

pub loop-id-preserved : goal.loop-id-preserved
loop-id-preserved c =
    let item = c.loop-id-item.result in
    let is_entries = c.documents-id-items.ensures.entries in
    let is = subst (λ (ds : List (Id × Difference)). item ≡ get_or ds c.loop-id.id-index item) is_entries c.loop-id-item.is in
    let within = subst (λ (ds : List (Id × Difference)). c.loop-id.id-index < length ds) is_entries c.loop-id-test.true in
    c.in_ok-push_missing.ensures ∙ ap (λ (ws : List (Id × Rev)). ws ++ map (λ rev. (item.0, rev)) item.1.missing) c.loop-id.invariant
    ∙ sym (wanted-more (entries c.args.differences.now) c.loop-id.id-index item within is)
