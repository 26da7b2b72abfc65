-- The keys of the set are the ids among the texts, each once.
use Rattle.std.specs.Prelude.{◌≡◌, List, map}
use Rattle.std.specs.BTreeSet.{BTreeSet}
use Rattle.std.proofs.Common.{All, ap, sym, subst, ◌∙◌}
use Rattle.model.specs.Map.{entries, from_list}
use Rattle.model.specs.Command.{Id, IsId, names}
use Rattle.document_id.specs.Ids.{AreIds}
use Rattle.document_id.proofs.SetLists.{All-keys, keys-listed, rising}
use Rattle.document_id.proofs.ids.DocIds.named.Goals as goal

pub invariant_of-result : goal.invariant_of-result
invariant_of-result c =
    let set = c.in_ok-ids-2.ids in
    let made : c.in_ok-new.field-0.value ≡ set = c.in_ok-new.ensures.ok in
    let each : All IsId c.in_ok-ids.ids.items = subst (All IsId) c.deref.ensures.value c.recall_all.ensures in
    subst (λ (s : BTreeSet Id). AreIds s.keys) (sym made) (record {
      rising = rising names set.keys c.in_ok-ids-2.ensures.1;
      each = All-keys names c.in_ok-ids.ids.items set c.in_ok-ids-2.ensures IsId each;
    })

pub returns : goal.returns
returns c =
    let set = c.in_ok-ids-2.ids in
    let made : c.in_ok-new.field-0.value ≡ set = c.in_ok-new.ensures.ok in
    record {
      ids =
          ap (λ (s : BTreeSet Id). s.keys) made
          ∙ keys-listed names c.in_ok-ids.ids.items set c.in_ok-ids-2.ensures (λ id. id)
          ∙ ap (λ (ids : List Id). map (λ (e : Id × Id). e.0) (entries {O = names} (from_list (map (λ id. (id, id)) ids)))) c.in_ok-ids.ensures;
    }
