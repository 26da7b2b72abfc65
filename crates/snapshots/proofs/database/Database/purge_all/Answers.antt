use Rattle.std.specs.Prelude.{◌≡◌, List, map}
use Rattle.std.proofs.Common.{ap, sym, subst, ◌∙◌, arith}
use Rattle.std.proofs.lemmas.List.{take_all}
use Rattle.std.proofs.lemmas.Bool.{true≢false}
use Rattle.model.specs.Map.{IsRising, entries, same_list}
use Rattle.model.specs.Revision.{Rev}
use Rattle.model.specs.Command.{Id, names}
use Rattle.model.specs.Database.{Database, removed_of, after_purge}
use Rattle.model.proofs.MapLaws.{IsRising-keys}
use Rattle.snapshots.proofs.Histories.{logged-after_purge, few-after_purge}
use Rattle.snapshots.proofs.Purges.{answered, removed-next, after_purges-next, answered-next, answered-all, answered-sorted}
use Rattle.snapshots.proofs.database.Database.purge_all.Goals as goal

pub loop-document-preserved : goal.loop-document-preserved
loop-document-preserved c =
    let es = c.documents-documents.result.now in
    let i = c.loop-document.document-index in
    let x = c.document-item.result in
    let d : Database = c.args.self.now in
    let now : Database = c.loop-document.self in
    let rising = subst (λ (fs : List (Id × List Rev)). IsRising names (map (λ (e : Id × List Rev). e.0) fs)) (sym c.documents-documents.ensures.entries) (IsRising-keys names c.args.named.now) in
    let x_is : (c.document.inside.id, c.document.inside.revisions.items) ≡ x = c.document.view_is in
    let step : c.purge.new.self ≡ after_purge now x = c.in_ok-revisions.ensures.after ∙ ap (λ (rs : List Rev). after_purge now (c.document.inside.id, rs)) c.deref.ensures.value ∙ ap (after_purge now) x_is in
    let removed : c.in_ok-revisions.revisions.items ≡ removed_of now x.0 x.1 = c.in_ok-revisions.ensures.removed ∙ ap (λ (rs : List Rev). removed_of now c.document.inside.id rs) c.deref.ensures.value ∙ ap (λ (e : Id × List Rev). removed_of now e.0 e.1) x_is in
    let one : ◌≡◌ {A = Id × List Rev} (c.in_ok-share.field-0, c.in_ok-revisions.revisions.items) (answered d x) =
    λ j. ((c.in_ok-share.ensures.same ∙ ap (λ (e : Id × List Rev). e.0) x_is) j, (removed ∙ removed-next es rising i x c.loop-document-test.true c.document-item.is d now c.loop-document.invariant.after) j) in
    record {
      after = after_purges-next es rising i x c.loop-document-test.true c.document-item.is d now c.purge.new.self c.loop-document.invariant.after step;
      replies = c.in_ok-push.ensures.items ∙ answered-next es rising i x c.loop-document-test.true c.document-item.is d c.loop-document.removed.items _ c.loop-document.invariant.replies one;
      room = omega (arith, few-after_purge now x, ap (λ (e : Database). e.update_seq) step, c.loop-document.invariant.room, c.loop-document-test.true);
      log_room = omega (arith, logged-after_purge now x, ap (λ (e : Database). e.purges.purge_seq) step, c.loop-document.invariant.log_room, c.loop-document-test.true);
    }

pub unreachable-requires : goal.unreachable-requires
unreachable-requires c =
    let all = c.loop-document.invariant.replies ∙ ap (map (answered c.args.self.now)) (take_all c.loop-document.document-index c.documents-documents.result.now c.loop-document-test.false ∙ c.documents-documents.ensures.entries) in
    true≢false (sym (c.in_default.ensures.rising.1 (answered-sorted c.args.self.now c.args.named.now c.loop-document.removed.items all)))

pub returns-clause-reply : goal.returns-clause-reply
returns-clause-reply c =
    let all = c.loop-document.invariant.replies ∙ ap (map (answered c.args.self.now)) (take_all c.loop-document.document-index c.documents-documents.result.now c.loop-document-test.false ∙ c.documents-documents.ensures.entries) in
    same_list _ _ (c.in-Some.ensures.entries ∙ all ∙ answered-all c.args.self.now (entries c.args.named.now))
