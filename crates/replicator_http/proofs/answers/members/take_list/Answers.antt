use Rattle.std.proofs.Common.{◌≡◌, Some}
use Rattle.serde_json.specs.Find.{as_array}
use Rattle.serde_json.specs.View.{items_of}
use Rattle.replicator_http.proofs.Under.{listed-under}
use Rattle.replicator_http.proofs.answers.members.take_list.Goals as goal

pub returns-in-Some-2 : goal.returns-in-Some-2
returns-in-Some-2 c =
    let values = c.in-Some-2.values.items in
    let array : Some (items_of values) ≡ as_array c.in-Some-take.list = rw c.in-Some-2.is at c.in_ok-values.ensures in
    listed-under c.args.name.now c.args.value c.in-Some-take.list c.in-Some.object values c.in-Some.ensures c.in-Some-take.ensures.taken array
