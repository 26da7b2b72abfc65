-- What the database of a version is made of.
use Rattle.std.specs.Prelude.{◌<◌, ℕ}
use Rattle.model.specs.Map.{Map}
use Rattle.model.specs.Command.{names, numbers}
use Rattle.model.specs.Local.{Local}
use Rattle.model.specs.PurgeLog.{PurgeLog}
use Rattle.model.specs.Database.{Database}
use Rattle.snapshots.specs.Listing.{Listing}

abbrev pub database_with : Listing → Map names Local → PurgeLog → ℕ → Map numbers ℕ → Database
database_with listing locals purges revs_limit calls = record {
  docs = listing.docs;
  locals = locals;
  update_seq = listing.update_seq;
  purges = purges;
  revs_limit = revs_limit;
  calls = calls;
}

-- at least one revision is kept above a leaf, and each number has a next one
pub record HasRoom (limit update_seq purge_seq : ℕ) : Type 0 where
  pub revisions : 0 < limit
  pub updates : update_seq < 18446744073709551615
  pub purges : purge_seq < 18446744073709551615
