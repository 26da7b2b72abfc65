use Rattle.std.proofs.Common.{rules, ap, ◌∙◌, subst, sym}
use Rattle.std.specs.Prelude.{IfSome, is_some}
use Rattle.std.proofs.lemmas.Fn.{always_returns_same}
use Rattle.model.specs.Revision.{rev_cmp}
use Rattle.revision_tree.specs.Nodes.{IsPlaceOf}
use Rattle.revision_tree.proofs.Places.{place_knows, search_knows, search_place}
use Rattle.revision_tree.proofs.search.place_among.Goals as goal

pub returns-in-Some-clause-known : goal.returns-in-Some-clause-known
returns-in-Some-clause-known c =
    sym (place_knows c.args.nodes.now c.args.rev c.in-Some.place c.requires c.in-Some.ensures)

pub returns-clause-known : goal.returns-clause-known
returns-clause-known c =
    let found = c.binary_search_by.ensures.position (λ n. rev_cmp n.rev c.args.rev) (always_returns_same _ _ _ (λ a r f k. search rules)) in
    ap is_some c.ok.ensures.value ∙ search_knows c.args.nodes.now c.args.rev c.requires c.binary_search_by.result c.binary_search_by.ensures.bound found

pub returns-clause-place : goal.returns-clause-place
returns-clause-place c =
    let found = c.binary_search_by.ensures.position (λ n. rev_cmp n.rev c.args.rev) (always_returns_same _ _ _ (λ a r f k. search rules)) in
    subst (λ o. IfSome o (λ i. IsPlaceOf c.args.nodes.now c.args.rev i)) (sym c.ok.ensures.value) (search_place c.args.nodes.now c.args.rev c.requires c.binary_search_by.result c.binary_search_by.ensures.bound found)
