-- What names an opened database.
use Rattle.std.specs.Prelude.{◌≡◌, ℕ, refl, Option}
use Rattle.std.specs.Coded.{Coded, code_by, coded×}
use Rattle.logbook.specs.Pages.{Book, book_coded}
use Rattle.atomic_table.specs.Seated.{TableId, table_id_coded}
use Rattle.model.specs.Database.{Database}
use Rattle.model.specs.World.{Config}

-- its book of publications, the base of its history, the table of its queue, and its configuration
pub record Names : Type 0 where
  pub book : Book
  pub base : Option Database
  pub table : TableId
  pub config : Config

abbrev pub coded_names : Coded (Option Database) → Coded Config → Coded Names
coded_names base config = code_by (Book × (Option Database × (TableId × Config))) (coded× book_coded (coded× base (coded× table_id_coded config)))
    (λ n. (n.book, (n.base, (n.table, n.config)))) (λ p. record { book = p.0; base = p.1.0; table = p.1.1.0; config = p.1.1.1 }) (λ _. refl)

-- An opened database is the one that a name describes: the name's book, base and table, its configuration, and as many places in
-- the queue and as many sessions as that says.
pub record IsNamed (book : Book) (base : Option Database) (table : TableId) (capacity sessions : ℕ) (config : Config) (opened : Names) : Type 0 where
  pub book_is : opened.book ≡ book
  pub base_is : opened.base ≡ base
  pub table_is : opened.table ≡ table
  pub config_is : opened.config ≡ config
  pub capacity_is : opened.config.queue ≡ capacity
  pub sessions_is : opened.config.sessions ≡ sessions
