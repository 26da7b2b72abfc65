use Rattle.std.proofs.Common.{◌≡◌, ◌∙◌, Some, arith, sym}
use Rattle.serde_json.specs.Find.{as_array}
use Rattle.serde_json.specs.View.{items_of}
use Rattle.document_json.proofs.Listings.{few-all, few-none, listed-few}
use Rattle.document_json.proofs.bulk.take_documents.Goals as goal

pub returns-then-len-gt-MAX_EDITS-clause-listed : goal.returns-then-len-gt-MAX_EDITS-clause-listed
returns-then-len-gt-MAX_EDITS-clause-listed c =
    let values = c.in-Some-2.values.items in
    let array : Some (items_of values) ≡ as_array c.in-Some-take.documents = rw c.in-Some-2.is at c.in_ok-values.ensures in
    sym (listed-few c.args.value c.in-Some.object c.in-Some-take.documents values c.in-Some.ensures c.in-Some-take.ensures.taken array ∙ few-none values (omega (c.if-len-gt-MAX_EDITS.true, c.len.ensures, arith)))

pub returns-clause-listed : goal.returns-clause-listed
returns-clause-listed c =
    let values = c.in-Some-2.values.items in
    let array : Some (items_of values) ≡ as_array c.in-Some-take.documents = rw c.in-Some-2.is at c.in_ok-values.ensures in
    sym (listed-few c.args.value c.in-Some.object c.in-Some-take.documents values c.in-Some.ensures c.in-Some-take.ensures.taken array ∙ few-all values (omega (c.if-len-gt-MAX_EDITS.false, c.len.ensures, arith)))
