-- What names a store.
use Rattle.std.specs.Prelude.{◌≡◌, refl, Option}
use Rattle.std.specs.Coded.{Coded, code_by, coded×}
use Rattle.logbook.specs.Pages.{Book, book_coded}
use Rattle.model.specs.Database.{Database}

-- Its book of publications, and the base that its history names. It is no record, so a search for a store looks
-- for none of the parts of its database.
pub data Store : Type 0 where
  named : Book → Option Database → Store

abbrev parts : Store → Book × Option Database
parts (named book base) = (book, base)

pub named-parts : (s : Store) → named (parts s).0 (parts s).1 ≡ s
named-parts (named book base) = refl

-- a store as its parts, by which a model's value may hold it
abbrev pub coded_store : Coded (Option Database) → Coded Store
coded_store base = code_by (Book × Option Database) (coded× book_coded base) parts (λ p. named p.0 p.1) named-parts
