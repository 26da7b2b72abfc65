-- The members of a list in rising order.
use Rattle.std.specs.Prelude.{◌≡◌, List}
use Rattle.std.specs.BTreeSet.{BTreeSet, IsFromIterResult}
use Rattle.model.specs.Revision.{Rev, revs, rev_cmp}
use Rattle.model.specs.Documents.{in_order}
use Rattle.document_id.proofs.SetLists.{keys-listed}

-- the keys of a set that was made of the list
pub keys-in_order : (xs : List Rev) (n : BTreeSet Rev) → IsFromIterResult rev_cmp xs n → n.keys ≡ in_order xs
keys-in_order xs n h = keys-listed revs xs n h (λ r. tt {0})
