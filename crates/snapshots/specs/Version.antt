-- A version: its base, its history, and what the history makes of the base.
use Rattle.std.specs.Prelude.{◌≡◌, ◌≤◌, ◌+◌, ◌*◌, ℕ, zero, suc, List, length, slice_get, All, Option, None}
use Rattle.model.specs.Command.{Entry, IsEntry, max_edits}
use Rattle.model.specs.Database.{Database, IsDatabase}
use Rattle.model.specs.History.{IsLegal, Chronicle, base_of, now, IsBase}

-- the entry at a place, from 1
abbrev pub entry_at : List Entry → ℕ → Option Entry
entry_at es zero = None
entry_at es (suc n) = slice_get es n

abbrev pub chronicle_of : Option Database → List Entry → Chronicle
chronicle_of base entries = record { base = base; entries = entries }

-- a history keeps its limits, and determines what its database is
pub record IsHistory (c : Chronicle) : Type 0 where
  pub base : IsBase (base_of c.base)
  pub legal : IsLegal (base_of c.base) c.entries
  pub valid : All IsEntry c.entries
  pub database : IsDatabase (now c)
  pub few : length c.entries ≤ 4294967295
  pub numbers : (now c).update_seq ≤ (base_of c.base).update_seq + max_edits * length c.entries
  pub purges : (now c).purges.purge_seq ≤ (base_of c.base).purges.purge_seq + max_edits * length c.entries

pub record IsVersion (base : Option Database) (database : Database) (entries : List Entry) : Type 0 where
  pub history : IsHistory (chronicle_of base entries)
  pub replayed : database ≡ now (chronicle_of base entries)
