-- The documents of a database by their ids, with an index by their update numbers and a count.
use Rattle.std.specs.Prelude.{◌≡◌, ◌≤◌, ◌+◌, ℕ, List, length, filter, T, Some, refl}
use Rattle.std.specs.Coded.{Coded, code_by, coded×, coded_ℕ}
use Rattle.std.specs.FinMap.Entries.{is_sorted}
use Rattle.model.specs.Map.{Map, get, put, from_list}
use Rattle.model.specs.Tree.{Tree}
use Rattle.model.specs.Command.{Id, names}
use Rattle.model.specs.Database.{Database, Record, IsNumbered, empty_database}
use Rattle.model.specs.Changes.{by_seq}
use Rattle.model.specs.Answers.{is_live}
use Rattle.snapshots.specs.Codes.{coded_records}

-- documents, and the last update number that was given
pub record Listing : Type 0 where
  pub docs : Map names Record
  pub update_seq : ℕ

abbrev pub coded_listing : Coded Listing
coded_listing = code_by (Map names Record × ℕ) (coded× coded_records coded_ℕ) (λ l. (l.docs, l.update_seq)) (λ p. record { docs = p.0; update_seq = p.1 }) (λ _. refl)

-- a database of these documents and nothing else
abbrev pub database_of : Listing → Database
database_of l = record empty_database { docs = l.docs; update_seq = l.update_seq }

-- with that record of a document, where no number is above n
abbrev pub placed : Listing → Id → Record → ℕ → Listing
placed l id r n = record { docs = put l.docs id r; update_seq = n }

-- no other document has that number
abbrev pub IsFree : Map names Record → Id → ℕ → Type 0
IsFree docs id n = (other : Id) (r : Record) → get docs other ≡ Some r → r.seq ≡ n → other ≡ id

-- with that tree of a document, at the next update number
abbrev pub updated : Listing → Id → Tree → Listing
updated l id t = record { docs = put l.docs id (record { tree = t; seq = l.update_seq + 1 }); update_seq = l.update_seq + 1 }

abbrev pub listing_of : List (Id × Record) → ℕ → Listing
listing_of es n = record { docs = from_list es; update_seq = n }

-- how many have a winner that is not deleted
abbrev pub live_count : List (Id × Record) → ℕ
live_count es = length (filter (λ e. is_live e.1) es)

-- the index and the count are those of the documents
pub record IsIndexed (es : List (Id × Record)) (numbered : List (ℕ × (Id × Record))) (count update_seq : ℕ) : Type 0 where
  pub sorted : T (is_sorted names.cmp es)
  pub numbers : IsNumbered (database_of (listing_of es update_seq))
  pub by_number : numbered ≡ by_seq (database_of (listing_of es update_seq))
  pub live : count ≡ live_count es
  pub few : count ≤ update_seq
