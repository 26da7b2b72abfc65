-- What is skipped, since no request can hold it.
use Rattle.std.specs.Prelude.{◌≡◌, ◌⊎◌, ℕ, ◌+◌, ◌<◌, ◌≤◌, ◌-◌, ◌==◌, nat_lt, Bool, true, false, if◌then◌else◌, List, [], length, map, take, is_some, Ok, Err, ⊤}
use Rattle.std.specs.List.{flat_map}
use Rattle.model.specs.Query.{ChangesPage, Row}
use Rattle.model.specs.Revision.{Rev}
use Rattle.replicator.specs.declared.fault.PeerFault.TheVariants as fault
use Rattle.replicator.specs.Call.{Call, Changes, Bulk}
use Rattle.replicator.specs.Readable.{last_number}
use Rattle.replicator_run.specs.Counted.{and_more}
use Rattle.replicator_run.specs.Large.{large_in}

-- the most leaves of one document that are asked about: one request holds so many, whatever its id is
abbrev pub max_of_one : ℕ
max_of_one = 22700

-- the most leaves of several documents that are asked about at once: one request holds so many of a hundred
abbrev pub max_of_more : ℕ
max_of_more = 16000

abbrev pub leaves_of : Row → List Rev
leaves_of row = row.changes

-- the leaves of the rows
abbrev pub leaves_in : List Row → List Rev
leaves_in rows = flat_map leaves_of rows

-- the row, and where its document has more leaves than are asked about, none of them
abbrev pub without_many : Row → Row
without_many row = if nat_lt max_of_one (length row.changes) then record row { changes = [] } else row

-- so many of the rows are asked about at once: as many as have few enough leaves, and at least one
pub record IsAskedLen (rows : List Row) (len : ℕ) : Type 0 where
  pub within : len ≤ length rows
  pub some : 0 < length rows → 0 < len
  pub few : (len ≡ 1) ⊎ (length (leaves_in (take len rows)) ≤ max_of_more)
  pub most : (len ≡ length rows) ⊎ (max_of_more < length (leaves_in (take (len + 1) rows)))

-- the page up to the row of this count, as if no more had been asked for
abbrev pub first_rows : ℕ → ChangesPage → ChangesPage
first_rows len page =
    if len == length page.rows then page
    else record {
      last_seq = last_number 0 (take len page.rows);
      pending = and_more page.pending (length page.rows - len);
      rows = take len page.rows;
    }

abbrev pub page_without_many : ChangesPage → ChangesPage
page_without_many page = record page { rows = map without_many page.rows }

-- the first rows of a page, as many as can be asked about at once, and nothing of a document that can't
abbrev pub IsAskedOf : ChangesPage → ChangesPage → Type 0
IsAskedOf full page =
    (len : ℕ) × IsAskedLen (page_without_many full).rows len × (page ≡ first_rows len (page_without_many full))

-- what is answered where the end answers this page
abbrev pub IsPassedOn : ChangesPage → Call → Type 0
IsPassedOn full (Changes ids since limit (Ok page)) = IsAskedOf full page
IsPassedOn full call = ⊥

-- what the end answers where this is answered
abbrev pub with_page : ChangesPage → Call → Call
with_page full (Changes ids since limit answer) = Changes ids since limit (Ok full)
with_page full call = call

-- the call is answered as the end answers it: it gives no page, and sends no document that no bulk can hold
abbrev pub IsAsIs : Call → Type 0
IsAsIs (Changes ids since limit (Ok page)) = ⊥
IsAsIs (Bulk documents answer) = is_some (large_in documents) ≡ false
IsAsIs call = ⊤

-- a document that no bulk can hold counts as taken; and where there is no memory to measure it, that is answered
abbrev pub IsSkipped : Call → Type 0
IsSkipped (Bulk documents (Ok taken)) = is_some (large_in documents) ≡ true
IsSkipped (Bulk documents (Err fault.Memory)) = ⊤
IsSkipped call = ⊥

module _ {E : Type 0} (goes : E → Call → E → Type 0) where
  -- each call goes from the later state as from the one before
  abbrev pub IsUnasked : E → E → Type 0
  IsUnasked old new = (call : Call) (after : E) → goes new call after → goes old call after

  -- By a call an end that skips documents goes as it would, but of a page it passes on what can be asked about, and it
  -- isn't asked to take a document that no bulk can hold.
  abbrev pub Skips : E → Call → E → Type 0
  Skips old call new =
      (goes old call new × IsAsIs call)
      ⊎ (((full : ChangesPage) × goes old (with_page full call) new × IsPassedOn full call) ⊎ (IsUnasked old new × IsSkipped call))

  -- so it goes where documents are skipped, and else as it would
  abbrev pub GoesSkipping : Bool → E → Call → E → Type 0
  GoesSkipping false = goes
  GoesSkipping true = Skips
