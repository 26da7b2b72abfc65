use Rattle.std.specs.Prelude.{◌≡◌, All, T}
use Rattle.std.specs.FinMap.Entries.{is_sorted}
use Rattle.std.proofs.Common.{◌∙◌, subst, sym}
use Rattle.std.proofs.lemmas.Bool.{true≢false}
use Rattle.std.proofs.lemmas.Option.{none-some}
use Rattle.model.specs.Command.{names}
use Rattle.model.specs.Database.{IsRecord}
use Rattle.model.specs.Map.{entries}
use Rattle.snapshots.specs.Listing.{Listing}
use Rattle.snapshots.proofs.Documents.{listing_only, numbers_at, rises}
use Rattle.snapshots.proofs.Epochs.{at_some}
use Rattle.snapshots.proofs.records.Records.from_list.Goals as goal

pub returns-then-not-ids_rise : goal.returns-then-not-ids_rise
returns-then-not-ids_rise c = record {
  listed = λ l. (
    λ e. absurd (none-some l e),
    λ h. absurd (true≢false (sym (c.ids_rise.ensures.1 (subst (λ es. T (is_sorted names.cmp es)) (sym c.deref.ensures.value) (rises c.args.documents.items c.args.update_seq l h.1))) ∙ c.if-not-ids_rise.true)),
  );
}

pub numbered-requires : goal.numbered-requires
numbered-requires c = subst (λ es. T (is_sorted names.cmp es)) c.deref.ensures.value (c.ids_rise.ensures.0 c.if-not-ids_rise.false)

pub returns-in_default : goal.returns-in_default
returns-in_default c = record {
  listed = λ l. (
    λ e. absurd (none-some l e),
    λ h. absurd (c.in_ok-records.ensures.none l.docs h.1.entries (numbers_at c.args.documents.items c.args.update_seq l h) c.in_default.is),
  );
}

pub returns : goal.returns
returns c =
    let made = at_some (λ (r : Listing). (entries r.docs ≡ c.args.documents.items) × (r.update_seq ≡ c.args.update_seq)) c.in_ok-records.field-0 c.in-Some.records c.in_ok-records.ensures.made c.in-Some.is in
    record {
      listed = λ l. listing_only c.args.documents.items c.args.update_seq c.in-Some.records l made.0 made.1
          (subst (All (λ d. IsRecord d.0 d.1)) c.deref-2.ensures.value c.recall_all.ensures) c.recall_numbers.ensures;
    }
