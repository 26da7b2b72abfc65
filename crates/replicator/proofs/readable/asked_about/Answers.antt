use Rattle.std.proofs.Common.{◌≡◌, rules, Err, List, Ok, ap, get_or, length, subst, sym, ◌∙◌}
use Rattle.std.proofs.lemmas.Fn.{always_returns_same}
use Rattle.std.specs.Prelude.{unwrap_or, []}
use Rattle.std.specs.List.Sorted.{IsBinarySearchResult, IsSearchInRange}
use Rattle.model.specs.Command.{Id, names}
use Rattle.model.specs.Revision.{Rev}
use Rattle.replicator.proofs.Searched.{search_found, search_missed}
use Rattle.replicator.proofs.readable.asked_about.Goals as goal

pub returns-in-Ok : goal.returns-in-Ok
returns-in-Ok c =
    let compared = λ (e : Id × List Rev). names.cmp e.0 c.args.id.now in
    let listed = c.documents-documents.ensures.entries in
    let found = c.in-Ok.ensures.position compared (always_returns_same _ _ _ (λ a r f k. search rules)) in
    let entry = c.index-documents-place.result in
    c.deref.ensures.value ∙ ap (λ (e : Id × List Rev). e.1) c.found.view_is ∙ sym (ap (λ o. unwrap_or o []) (search_found names c.args.asked.now c.args.id.now c.in-Ok.place entry
    (subst (λ es. IsSearchInRange (Ok c.in-Ok.place) (length es)) listed c.in-Ok.ensures.bound)
    (subst (λ es. IsBinarySearchResult compared es (Ok c.in-Ok.place)) listed found)
    (subst (λ es. entry ≡ get_or es c.in-Ok.place entry) listed c.index-documents-place.is)))

pub returns-in-Err : goal.returns-in-Err
returns-in-Err c =
    let compared = λ (e : Id × List Rev). names.cmp e.0 c.args.id.now in
    let listed = c.documents-documents.ensures.entries in
    let missed = c.in-Err.ensures.position compared (always_returns_same _ _ _ (λ a r f k. search rules)) in
    sym (ap (λ o. unwrap_or o []) (search_missed names c.args.asked.now c.args.id.now c.in-Err.field-0
    (subst (λ es. IsSearchInRange (Err c.in-Err.field-0) (length es)) listed c.in-Err.ensures.bound)
    (subst (λ es. IsBinarySearchResult compared es (Err c.in-Err.field-0)) listed missed)))
