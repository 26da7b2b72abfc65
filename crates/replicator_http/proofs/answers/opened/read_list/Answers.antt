use Rattle.std.proofs.Common.{◌≡◌, Some, subst, sym}
use Rattle.serde_json.specs.Find.{as_array}
use Rattle.serde_json.specs.View.{items_of}
use Rattle.document_json.specs.Each.{DecidesEach}
use Rattle.replicator_http.proofs.Under.{all-listed}
use Rattle.replicator_http.proofs.answers.opened.read_list.Goals as goal

pub returns : goal.returns
returns c =
    let values = c.in-Some.values.items in
    let array : Some (items_of values) ≡ as_array c.args.value = rw c.in-Some.is at c.in_ok-values.ensures in
    subst (λ found. DecidesEach c.read_all.result found) (sym (all-listed c.args.value values array)) c.read_all.ensures
