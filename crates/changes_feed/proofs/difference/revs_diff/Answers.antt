-- The documents that lack something are the entries of the differences.
use Rattle.std.specs.Prelude.{◌≡◌, ◌+◌, ◌∷◌, ◌++◌, [], T, take, List, Option}
use Rattle.std.specs.FinMap.Entries.{is_sorted}
use Rattle.std.proofs.Common.{sym, ap, subst, ◌∙◌}
use Rattle.std.proofs.lemmas.List.{take_more, take_all}
use Rattle.model.specs.Map.{refine, refine_list, same_list}
use Rattle.model.specs.Revision.{Rev}
use Rattle.model.specs.Command.{Id, names}
use Rattle.model.specs.History.{now}
use Rattle.model.specs.Query.{Difference}
use Rattle.model.specs.Documents.{difference, differences}
use Rattle.changes_feed.specs.Lacking.{one_lacking}
use Rattle.changes_feed.proofs.LackLists.{refine_list-push}
use Rattle.changes_feed.proofs.difference.revs_diff.Goals as goal

pub loop-document-preserved : goal.loop-document-preserved
loop-document-preserved c =
    let f : Id → List Rev → Option Difference = difference (now c.args.version.now) in
    let docs = c.documents-document-items.result.now in
    let i = c.loop-document.document-index in
    let e = c.document-item.result in
    let more : take (i + 1) docs ≡ take i docs ++ e ∷ [] = take_more docs i e c.loop-document-test.true ∙ ap (λ d. take i docs ++ d ∷ []) (sym c.document-item.is) in
    let told : one_lacking c.document.inside.id c.in_ok-difference.difference ≡ one_lacking e.0 (f e.0 e.1) =
    ap (one_lacking c.document.inside.id) (c.in_ok-difference.ensures ∙ ap (f c.document.inside.id) c.deref.ensures.value)
    ∙ ap (λ (d : Id × List Rev). one_lacking d.0 (f d.0 d.1)) c.document.view_is in
    c.in_ok-add.ensures
    ∙ ap (λ ls. ls ++ one_lacking c.document.inside.id c.in_ok-difference.difference) c.loop-document.invariant
    ∙ ap (λ ls. refine_list names f (take i docs) ++ ls) told
    ∙ sym (refine_list-push f (take i docs) e)
    ∙ ap (refine_list names f) (sym more)

pub new-requires : goal.new-requires
new-requires c =
    let f : Id → List Rev → Option Difference = difference (now c.args.version.now) in
    let docs = c.documents-document-items.result.now in
    let whole = c.loop-document.invariant ∙ ap (refine_list names f) (take_all c.loop-document.document-index docs c.loop-document-test.false ∙ c.documents-document-items.ensures.entries) in
    record { rising = subst (λ es. T (is_sorted names.cmp es)) (sym whole) (refine f c.args.asked.now).sorted }

pub returns : goal.returns
returns c =
    let f : Id → List Rev → Option Difference = difference (now c.args.version.now) in
    let docs = c.documents-document-items.result.now in
    let whole = c.loop-document.invariant ∙ ap (refine_list names f) (take_all c.loop-document.document-index docs c.loop-document-test.false ∙ c.documents-document-items.ensures.entries) in
    record { differences = same_list {O = names} c.new.result (differences (now c.args.version.now) c.args.asked.now) (c.new.ensures.entries ∙ whole) }
