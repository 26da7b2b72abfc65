use Rattle.std.proofs.Common.{◌≡◌, ◌↔◌, Result, Ok, Err, Some, IfOk, sym}
use Rattle.std.proofs.lemmas.Result.{IfOk-weaker}
use Rattle.model.specs.Map.{entries}
use Rattle.revision_tree.specs.Nodes.{IsListOf, entries_of}
use Rattle.base_json.proofs.BaseLists.{known_all}
use Rattle.history_json.proofs.Taken.{once}
use Rattle.base_json.proofs.revisions.read_tree.Goals as goal

each_of : {X E T : Type 0} (P : T → X → Type 0) (r : Result X E) → ((t : T) → IfOk r (P t)) → IfOk r (λ x. (t : T) → P t x)
each_of P (Err e) told = tt
each_of P (Ok x) told = told

pub returns-in_default : goal.returns-in_default
returns-in_default c = λ t tree range is.
    let none = rw c.in_default.is at (c.in_ok-nodes.ensures (entries t) (known_all t tree range) is) in
    absurd (cc)

pub returns : goal.returns
returns c =
    IfOk-weaker c.from_list.result _ _
    (λ found made t tree range is.
    let nodes : entries_of c.in-Some.nodes.items ≡ entries t = once _ _ (rw c.in-Some.is at (c.in_ok-nodes.ensures (entries t) (known_all t tree range) is)) in
    (made t).1 (record { entries = sym nodes; tree = tree; range = range }))
    (each_of (λ t made. (made ≡ Some t) ↔ IsListOf c.in-Some.nodes.items t) c.from_list.result c.from_list.ensures.listed)
