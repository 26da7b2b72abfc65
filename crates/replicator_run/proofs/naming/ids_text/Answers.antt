-- One id more, and at the end all.
use Rattle.std.proofs.Common.{◌≡◌, List, ℕ, [], ◌∷◌, ◌++◌, ap, sym, ◌∙◌, append_assoc, map}
use Rattle.std.specs.Prelude.{codes}
use Rattle.std.specs.List.{flat_map}
use Rattle.std.specs.Map.Iter.{deref}
use Rattle.std.proofs.lemmas.List.{append-nil, map-append}
use Rattle.std.proofs.lemmas.Grind.{flat_map-append}
use Rattle.std.proofs.lemmas.Iterator.Consumers.{YieldsList-from_rest, YieldsList-end}
use Rattle.model.specs.Command.{Id}
use Rattle.replicator_run.specs.CheckpointId.{measured}
use Rattle.replicator_run.proofs.naming.ids_text.Goals as goal

-- what a list has behind one id more
one-more : (front : List ℕ) (ids : List Id) (id : Id) → (front ++ flat_map measured ids) ++ measured id ≡ front ++ flat_map measured (ids ++ id ∷ [])
one-more front ids id =
    append_assoc front (flat_map measured ids) (measured id)
    ∙ ap (λ (l : List ℕ). front ++ l) (ap (λ (l : List ℕ). flat_map measured ids ++ l) (sym (append-nil (measured id))) ∙ sym (flat_map-append measured ids (id ∷ [])))

pub loop-id-preserved : goal.loop-id-preserved
loop-id-preserved c =
    c.in_ok-push_str.ensures.bytes
    ∙ (λ i. c.loop-id.invariant i ++ (c.as_str.ensures.value ∙ c.in_ok-measured.ensures) i)
    ∙ one-more (codes "ids:") (map deref c.loop-id.yielded) c.in-Some.id.now
    ∙ ap (λ (ids : List Id). codes "ids:" ++ flat_map measured ids) (sym (map-append deref c.loop-id.yielded (c.in-Some.id ∷ [])))

pub returns : goal.returns
returns c =
    let t = YieldsList-end (YieldsList-from_rest {shows = deref} c.args.ids.now cc) c.loop-id.yielded _ c.loop-id.yielded_by _ _ c.in-None.is c.next.ensures.steps in
    c.loop-id.invariant ∙ ap (λ (ids : List Id). codes "ids:" ++ flat_map measured ids) t.0
