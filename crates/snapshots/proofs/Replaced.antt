-- What is known of a record that is replaced.
use Rattle.std.specs.Prelude.{◌≡◌, ℕ, List, Option, option_map}
use Rattle.std.specs.FinMap.Entries.{find}
use Rattle.std.proofs.Common.{ap, sym, ◌∙◌}
use Rattle.model.specs.Map.{get-from_list}
use Rattle.model.specs.Command.{Id, names}
use Rattle.model.specs.Database.{Record}
use Rattle.snapshots.specs.Listing.{Listing, listing_of}
use Rattle.snapshots.specs.Replaced.{replaced, replaced_at}
use Rattle.snapshots.specs.declared.records.replaced.Replaced.{Replaced}

-- of the record in the list, where it is of that in the listing
pub replaced-listed : (es : List (Id × Record)) (n : ℕ) (id : Id) (o : Option Replaced) (l : Listing) → listing_of es n ≡ l → o ≡ replaced_at l.docs id → o ≡ option_map replaced (find names.cmp id es)
replaced-listed es n id o l is known = known ∙ ap (λ (k : Listing). replaced_at k.docs id) (sym is) ∙ ap (option_map replaced) (get-from_list names es id)
