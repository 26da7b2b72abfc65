use Rattle.std.specs.Prelude.{◌≡◌, length, None}
use Rattle.std.proofs.Common.{ap, sym, subst, ◌∙◌}
use Rattle.model.specs.Map.{empty, entries}
use Rattle.model.specs.PurgeLog.{PurgeLog}
use Rattle.model.specs.Database.{Database}
use Rattle.model.specs.History.{Chronicle, now}
use Rattle.model.specs.Compaction.{Marks}
use Rattle.snapshots.specs.Listing.{Listing}
use Rattle.compactor.specs.Copy.{copied, IsCopy}
use Rattle.compactor.proofs.Copies.{IsCopy-start, copied-start}
use Rattle.compactor.proofs.compaction.Compaction.start.Goals as goal

pub invariant_of-result : goal.invariant_of-result
invariant_of-result c =
    let d : Database = now c.args.version.now in
    let update : c.update_seq-update_mark.result ≡ d.update_seq = c.update_seq-update_mark.ensures ∙ ap (λ (l : Listing). l.update_seq) c.documents-documents.ensures ∙ ap (λ (e : Database). e.update_seq) c.database-database.ensures in
    let purge : c.purge_seq.result ≡ d.purges.purge_seq = c.purge_seq.ensures ∙ ap (λ (l : PurgeLog). l.purge_seq) c.purges.ensures.log ∙ ap (λ (e : Database). e.purges.purge_seq) c.database-database.ensures in
    let all : c.len.result ≡ length (entries d.docs) = c.len.ensures ∙ ap (λ (l : Listing). length (entries l.docs)) c.documents-documents.ensures ∙ ap (λ (e : Database). length (entries e.docs)) c.database-database.ensures in
    let m : Marks = record { update = c.update_seq-update_mark.result; purge = c.purge_seq.result } in
    let records = c.up_to-records.ensures ∙ ap (λ (l : Listing). record l { update_seq = c.update_seq-update_mark.result }) c.new.ensures ∙ ap (λ n. record { docs = empty; update_seq = n }) update in
    subst (λ (h : Chronicle). IsCopy (now h) None c.len.result c.up_to-records.result m) (sym c.in_ok-seen.ensures.same)
    (IsCopy-start c.args.version.now c.len.result c.up_to-records.result m all records (λ i. record { update = update i; purge = purge i }))

pub returns-clause-started : goal.returns-clause-started
returns-clause-started c =
    let d : Database = now c.args.version.now in
    let update : c.update_seq-update_mark.result ≡ d.update_seq = c.update_seq-update_mark.ensures ∙ ap (λ (l : Listing). l.update_seq) c.documents-documents.ensures ∙ ap (λ (e : Database). e.update_seq) c.database-database.ensures in
    let purge : c.purge_seq.result ≡ d.purges.purge_seq = c.purge_seq.ensures ∙ ap (λ (l : PurgeLog). l.purge_seq) c.purges.ensures.log ∙ ap (λ (e : Database). e.purges.purge_seq) c.database-database.ensures in
    let all : c.len.result ≡ length (entries d.docs) = c.len.ensures ∙ ap (λ (l : Listing). length (entries l.docs)) c.documents-documents.ensures ∙ ap (λ (e : Database). length (entries e.docs)) c.database-database.ensures in
    let seen = c.in_ok-seen.ensures.same in
    let none : c.up_to-records.result.docs ≡ empty = ap (λ (l : Listing). l.docs) (c.up_to-records.ensures ∙ ap (λ (l : Listing). record l { update_seq = c.update_seq-update_mark.result }) c.new.ensures) in
    let docs = (λ i. copied c.len.result (none i) (seen i)) ∙ copied-start c.args.version.now c.len.result all in
    λ i. record {
      seen = seen i;
      left = all i;
      docs = docs i;
      marks = record { update = update i; purge = purge i };
      visited = 0;
    }
