use Rattle.std.specs.Prelude.{List, drop}
use Rattle.std.specs.Map.Iter.{deref_pair}
use Rattle.std.proofs.Common.{ap, sym, ◌∙◌, arith}
use Rattle.std.proofs.Math.ListN.{length-map}
use Rattle.model.specs.Map.{entries}
use Rattle.cow_index.specs.Entries.{entries_from}
use Rattle.model.specs.Command.{Id, names}
use Rattle.model.specs.Database.{Database, Record}
use Rattle.model.specs.History.{now}
use Rattle.snapshots.specs.Listing.{Listing}
use Rattle.snapshots.specs.Taken.{ids_of}
use Rattle.compactor.proofs.Sliced.{rest-drop, none-first, left-drop}
use Rattle.compactor.proofs.slices.rest.Goals as goal

pub returns-in_default-clause-rest : goal.returns-in_default-clause-rest
returns-in_default-clause-rest c k le is =
    let d : Database = now c.args.version.now in
    let zero = none-first k (ids_of d.docs) (omega (arith, le, length-map (entries d.docs) (λ (e : Id × Record). e.0))) (sym c.in_default.is ∙ is) in
    c.iter.ensures.rest
    ∙ ap (λ (l : Listing). entries l.docs) c.documents.ensures
    ∙ ap (λ (e : Database). entries e.docs) c.database.ensures
    ∙ ap (λ n. drop n (entries d.docs)) (sym zero)

pub returns-clause-rest : goal.returns-clause-rest
returns-clause-rest c k le is =
    let d : Database = now c.args.version.now in
    left-drop deref_pair _ _ c.next-last.result c.next-last.ensures.steps
    ∙ ap (λ (es : List (Id × Record)). drop 1 es) (c.range_from-rest.ensures.rest
    ∙ ap (λ (l : Listing). entries_from names.cmp c.in-Some.last (entries l.docs)) c.documents-2.ensures
    ∙ ap (λ (e : Database). entries_from names.cmp c.in-Some.last (entries e.docs)) c.database-2.ensures)
    ∙ rest-drop (entries d.docs) d.docs.sorted k le c.in-Some.last (sym c.in-Some.is ∙ is)
