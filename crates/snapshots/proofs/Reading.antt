-- A database of the parts that were read.
use Rattle.std.specs.Prelude.{◌≡◌, ◌≤◌, Some}
use Rattle.std.proofs.Common.{sym, subst, refl}
use Rattle.std.proofs.lemmas.Option.{same_Some}
use Rattle.local_docs.specs.Listed.{IsListOf}
use Rattle.model.specs.Map.{Map, empty}
use Rattle.model.specs.Command.{names, IsLimit}
use Rattle.model.specs.Local.{Local}
use Rattle.model.specs.PurgeLog.{PurgeLog, IsLog}
use Rattle.model.specs.Database.{Database}
use Rattle.model.specs.History.{IsBase, largest_base}
use Rattle.purge.specs.Log.{log_of}
use Rattle.snapshots.specs.Database.{database_with}
use Rattle.snapshots.specs.Listing.{Listing}
use Rattle.snapshots.specs.Parts.{AreDocuments, AreInRange, AreParts}
use Rattle.snapshots.specs.declared.database.parts.DatabaseParts.{DatabaseParts}

module _ (parts : DatabaseParts) where
  -- a history can begin from the database of these parts
  abbrev pub Fits : Database → Type 0
  Fits d = AreParts parts d × IsBase d

  abbrev pub ListsDocuments : Listing → Type 0
  ListsDocuments l = (l.update_seq ≡ parts.update_seq) × AreDocuments parts.documents.items l

  abbrev pub ListsPurges : PurgeLog → Type 0
  ListsPurges l = (l ≡ log_of parts.purge_seq parts.purges.items parts.purged_limit) × IsLog l

  -- ---- of a database that fits, each part does

  pub range_of : (d : Database) → Fits d → AreInRange parts.update_seq parts.purge_seq parts.revs_limit
  range_of d h = record {
    updates = subst (λ n. n ≤ largest_base) h.0.update_seq h.1.updates;
    purges = subst (λ (l : PurgeLog). l.purge_seq ≤ largest_base) h.0.purges h.1.purges;
    revs_limit = subst IsLimit h.0.revs_limit h.1.database.revs_limit;
  }

  abbrev pub listing_at : Database → Listing
  listing_at d = record { docs = d.docs; update_seq = d.update_seq }

  pub documents_of : (d : Database) → Fits d → ListsDocuments (listing_at d)
  documents_of d h = (
    h.0.update_seq,
    record {
      entries = h.0.docs;
      each = h.1.database.docs;
      numbers = record { within = h.1.database.numbered.within; distinct = h.1.database.numbered.distinct };
    },
  )

  pub locals_of : (d : Database) → Fits d → IsListOf parts.locals.items d.locals
  locals_of d h = record { entries = h.0.locals; each = h.1.database.locals }

  pub purges_of : (d : Database) → Fits d → ListsPurges d.purges
  purges_of d h = (h.0.purges, h.1.database.log)

  -- ---- and of the parts

  module _ (documents : Listing) (locals : Map names Local) (purges : PurgeLog) where
    abbrev pub made : Database
    made = database_with documents locals purges parts.revs_limit empty

    pub Fits-made : AreInRange parts.update_seq parts.purge_seq parts.revs_limit → ListsDocuments documents → IsListOf parts.locals.items locals → ListsPurges purges → Fits made
    Fits-made range of_documents of_locals of_purges = (
      record { docs = of_documents.1.entries; locals = of_locals.entries; update_seq = of_documents.0; purges = of_purges.0; revs_limit = refl },
      record {
        database = record {
          docs = of_documents.1.each;
          numbered = record { within = of_documents.1.numbers.within; distinct = of_documents.1.numbers.distinct };
          locals = of_locals.each;
          log = of_purges.1;
          revs_limit = range.revs_limit;
        };
        uncalled = refl;
        updates = subst (λ n. n ≤ largest_base) (sym of_documents.0) range.updates;
        purges = subst (λ (l : PurgeLog). l.purge_seq ≤ largest_base) (sym of_purges.0) range.purges;
      },
    )

    pub made-is : (d : Database) → Fits d → Some documents ≡ Some (listing_at d) → Some locals ≡ Some d.locals → Some purges ≡ Some d.purges → made ≡ d
    made-is d h of_documents of_locals of_purges =
        let listing = same_Some documents (listing_at d) of_documents in
        let is_locals = same_Some locals d.locals of_locals in
        let is_purges = same_Some purges d.purges of_purges in
        λ i. record {
          docs = (listing i).docs;
          locals = is_locals i;
          update_seq = (listing i).update_seq;
          purges = is_purges i;
          revs_limit = sym h.0.revs_limit i;
          calls = sym h.1.uncalled i;
        }
