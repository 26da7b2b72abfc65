-- How a text is replayed, a line at a time.
use Rattle.std.specs.Prelude.{◌≡◌, ℕ, suc, ◌<◌, ◌≤◌, true, List, [], ◌∷◌, ◌++◌, length, All, Option, IfSome, ⊤}
use Rattle.std.specs.Io.KnownBytes.{Consumes, IsAtEnd}
use Rattle.model.specs.Command.{Entry}
use Rattle.model.specs.Database.{Database, act}
use Rattle.model.specs.History.{Chronicle, IsLegal, IsNext, replay, base_of}
use Rattle.history_json.specs.Line.{IsLine}
use Rattle.history_json.specs.Lines.{is_one_line}
use Rattle.history_dump.specs.Dump.{entry_line, dump_text, first_line, IsFirst}
use Rattle.replay_cli.specs.Places.{last_place}
use Rattle.replay_cli.specs.Readable.{IsLineAt}
use Rattle.replay_cli.specs.Verdicts.{begun_with}
use Rattle.replay_cli.specs.declared.verdict.Verdict.{Verdict}
use Rattle.replay_cli.specs.declared.verdict.Verdict.TheVariants as verdict
use Rattle.journal.specs.declared.restored.End.{End}
use Rattle.journal.specs.declared.restored.End.TheVariants.{Whole, Cut, Torn}
pub use Rattle.replay_cli.specs.Successors.{AreTooLarge}

-- the last byte is a line feed
abbrev pub HasFeed : List ℕ → Type 0
HasFeed line = (front : List ℕ) × (line ≡ front ++ 10 ∷ [])

-- a line with its line feed, and no other
pub record IsWhole (line : List ℕ) : Type 0 where
  pub front : List ℕ
  pub one : is_one_line front ≡ true
  pub line_is : line ≡ front ++ 10 ∷ []

-- a last line that has no line feed, which may be empty
pub record IsCut (old new : Option (List ℕ)) (line : List ℕ) : Type 0 where
  pub consumed : Consumes old new line
  pub one : is_one_line line ≡ true
  pub end : IfSome old (λ _. IsAtEnd new)

-- no other entry has its line
abbrev pub IsOnly : Entry → Type 0
IsOnly entry = (other : Entry) → IsLine other → entry_line other ≡ entry_line entry → other ≡ entry

-- no other history has these lines
pub record IsOnlyDump (history : Chronicle) : Type 0 where
  pub base : (other : Option Database) → IsFirst other → first_line other ≡ first_line history.base → other ≡ history.base
  pub entries : All IsOnly history.entries

-- what was read up to here is the dump of a legal history, of which this is the last database
pub record IsReplayed (base : Option Database) (old new : Option (List ℕ)) (d : Database) (place taken : ℕ) : Type 0 where
  pub entries : List Entry
  pub consumed : Consumes old new (dump_text (begun_with base entries))
  pub first : IsFirst base
  pub within : All IsLine entries
  pub places : length entries ≤ last_place
  pub legal : IsLegal (base_of base) entries
  pub only : IsOnlyDump (begun_with base entries)
  pub database : d ≡ replay (base_of base) entries
  pub place_is : place ≡ length entries
  pub taken_is : taken ≡ length (dump_text (begun_with base entries))

-- the line is that of the next entry, by which the database goes on
pub record IsNextLine (line : List ℕ) (old new : Database) (place place_new : ℕ) : Type 0 where
  pub entry : Entry
  pub within : IsLine entry
  pub line_is : line ≡ entry_line entry
  pub only : IsOnly entry
  pub room : place < last_place
  pub next : IsNext old entry
  pub database : new ≡ act old entry.seat entry.command
  pub place_is : place_new ≡ suc place

-- behind so many entries, which made this database, the line is that of an entry that can be the next
abbrev pub CanBeNext : List ℕ → Database → ℕ → Type 0
CanBeNext line d place = (entry : Entry) × IsLine entry × (line ≡ entry_line entry) × (place < last_place) × IsNext d entry

-- the verdict on the line behind so many entries, after which the database is this
abbrev pub IsRefused : List ℕ → Database → ℕ → Verdict → Type 0
IsRefused line d place (verdict.Legal places) = ⊥
IsRefused line d place (verdict.WrongAt at) =
    (at ≡ suc place) × (place < last_place) × ((entry : Entry) × IsLine entry × (line ≡ entry_line entry) × (IsNext d entry → ⊥))
IsRefused line d place (verdict.UnreadableLine number) = (number ≡ suc (suc place)) × (IsLineAt (suc place) line → ⊥)

-- a whole line that begins before the end of what was synced, behind so many entries and bytes, and has this verdict
pub record IsDamagedAt (synced : ℕ) (line : List ℕ) (d : Database) (place taken : ℕ) (v : Verdict) (at : ℕ) : Type 0 where
  pub at_is : at ≡ taken
  pub synced_behind : taken < synced
  pub verdict : IsRefused line d place v
  pub refused : CanBeNext line d place → ⊥

-- a whole line that isn't that of the next entry, and begins no earlier than what was synced ends; anything may lie behind it
pub record IsTorn (synced : ℕ) (d : Database) (place taken : ℕ) (tail : List ℕ) : Type 0 where
  pub line : List ℕ
  pub rest : List ℕ
  pub tail_is : tail ≡ line ++ rest
  pub whole : IsWhole line
  pub unsynced : synced ≤ taken
  pub refused : CanBeNext line d place → ⊥

-- what lies behind the lines that were taken, which have so many entries and bytes and made this database
abbrev pub IsEnd : ℕ → Database → ℕ → ℕ → List ℕ → End → Type 0
IsEnd synced d place taken tail Whole = tail ≡ []
IsEnd synced d place taken tail Cut = (0 < length tail) × (is_one_line tail ≡ true)
IsEnd synced d place taken tail Torn = IsTorn synced d place taken tail

-- nothing is left behind an end, but where it is torn
abbrev pub IsLastRead : Option (List ℕ) → Option (List ℕ) → End → Type 0
IsLastRead old new Whole = IfSome old (λ _. IsAtEnd new)
IsLastRead old new Cut = IfSome old (λ _. IsAtEnd new)
IsLastRead old new Torn = ⊤

-- the last line that was read, which isn't taken
pub record IsStopped (synced : ℕ) (old new : Option (List ℕ)) (d : Database) (place taken : ℕ) (line : List ℕ) (end : End) : Type 0 where
  pub consumed : Consumes old new line
  pub is_end : IsEnd synced d place taken line end
  pub last : IsLastRead old new end

-- what was replayed before such a line
pub record IsReplayedAll (synced : ℕ) (base : Option Database) (old new : Option (List ℕ)) (d : Database) (place taken : ℕ) (end : End) : Type 0 where
  pub middle : Option (List ℕ)
  pub replayed : IsReplayed base old middle d place taken
  pub tail : List ℕ
  pub stopped : IsStopped synced middle new d place taken tail end
