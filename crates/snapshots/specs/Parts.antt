-- A database as lists of what it has.
use Rattle.std.specs.Prelude.{◌≡◌, ◌≤◌, ℕ, List, [], Some}
use Rattle.purge.specs.Log.{log_of}
use Rattle.model.specs.Map.{entries, get}
use Rattle.model.specs.Command.{Id, IsLimit}
use Rattle.model.specs.Database.{Database, Record, IsNumbered, IsRecord}
use Rattle.model.specs.History.{Chronicle, IsBase, largest_base}
use Rattle.snapshots.specs.Listing.{Listing, database_of}
use Rattle.snapshots.specs.declared.database.parts.DatabaseParts.{DatabaseParts}

-- the list has the documents in the order of their ids. Each is one that a database can have, and their numbers are from 1
-- to the last that was given, no two alike.
pub record AreDocuments (listed : List (Id × Record)) (l : Listing) : Type 0 where
  pub entries : entries l.docs ≡ listed
  pub each : (id : Id) (r : Record) → get l.docs id ≡ Some r → IsRecord id r
  pub numbers : IsNumbered (database_of l)

-- d has just these documents, local documents, purges, numbers and limits
pub record AreParts (parts : DatabaseParts) (d : Database) : Type 0 where
  pub docs : entries d.docs ≡ parts.documents.items
  pub locals : entries d.locals ≡ parts.locals.items
  pub update_seq : d.update_seq ≡ parts.update_seq
  pub purges : d.purges ≡ log_of parts.purge_seq parts.purges.items parts.purged_limit
  pub revs_limit : d.revs_limit ≡ parts.revs_limit

-- v has no entries yet, and names as its base the database of the parts, from which a history can begin
pub record BeginsFrom (parts : DatabaseParts) (v : Chronicle) : Type 0 where
  pub database : Database
  pub base : v.base ≡ Some database
  pub entries : v.entries ≡ []
  pub made_of : AreParts parts database
  pub is_base : IsBase database

-- a history may begin over these numbers, and at least one revision is kept above a leaf
pub record AreInRange (update_seq purge_seq limit : ℕ) : Type 0 where
  pub updates : update_seq ≤ largest_base
  pub purges : purge_seq ≤ largest_base
  pub revs_limit : IsLimit limit
