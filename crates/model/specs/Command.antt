-- What a session can ask the database to do, and what it is answered.
use Rattle.std.specs.Prelude.{◌≡◌, ◌<◌, ◌≤◌, ◌^◌, ◌&&◌, ℕ, Bool, List, ◌∷◌, length, nat_lt, All, ⊤, Option, IfSome, Result, Ok, Err, IsUtf8}
use Rattle.std.specs.Cmp.{nat_cmp_total}
use Rattle.std.specs.Ordering.{nat_cmp}
use Rattle.std.specs.Cmp.Lexicographic.{slice_cmp, nat_list_cmp_total}
use Rattle.std.specs.FinMap.{nat_cmp-IsAntisymmetric, slice_cmp-IsAntisymmetric}
pub use Rattle.model.specs.declared.refusal.Refusal.{Refusal}
pub use Rattle.model.specs.declared.refusal.Refusal.TheVariants.{Conflict, BadHistory, Missing, Deleted, GenerationLimit}
use Rattle.model.specs.Map.{Order, Map, entries}
use Rattle.model.specs.Body.{Body, IsBody}
use Rattle.model.specs.Revision.{Rev, IsRev}
use Rattle.model.specs.TreeChange.{IsPath}

-- the bytes of a document's identity
-- CouchDB: "CouchDB Replication Protocol", "Definitions"
abbrev pub Id : Type 0
Id = List ℕ

-- a text of 1 to 512 bytes
-- CouchDB: "CouchDB Replication Protocol", "Definitions"
pub record IsId (id : Id) : Type 0 where
  pub text : IsUtf8 id
  pub not_empty : 0 < length id
  pub short : length id ≤ 512

-- a text of a length that an identity has
abbrev pub has_id_length : Id → Bool
has_id_length text = nat_lt 0 (length text) && nat_lt (length text) 513

abbrev pub names : Order
names = record { key = Id; cmp = slice_cmp nat_cmp; total = nat_list_cmp_total; exact = slice_cmp-IsAntisymmetric nat_cmp-IsAntisymmetric }

abbrev pub numbers : Order
numbers = record { key = ℕ; cmp = nat_cmp; total = nat_cmp_total; exact = nat_cmp-IsAntisymmetric }

-- an edit of a document, over the revision that it names
-- CouchDB: POST /{db}/_bulk_docs, "docs"
pub record Edit : Type 0 where
  pub id : Id
  pub named : Option Rev
  pub deleted : Bool
  pub body : Body

-- a revision from another replica, with what is known of its ancestors, newest first
-- CouchDB: POST /{db}/_bulk_docs, "new_edits"
pub record Merge : Type 0 where
  pub id : Id
  pub newest : Rev
  pub older : List Rev
  pub deleted : Bool
  pub body : Body

-- CouchDB: POST /{db}/_bulk_docs, PUT /{db}/_local/{docid}, POST /{db}/_purge, PUT /{db}/_revs_limit, PUT /{db}/_purged_infos_limit, POST /{db}/_compact
pub data Command : Type 0 where
  Edits : List Edit → Command
  Merges : List Merge → Command
  -- the revision number named, and no body for a deletion
  PutLocal : Id → Option ℕ → Option Body → Command
  -- revisions of each document
  Purge : Map names (List Rev) → Command
  SetLimit : ℕ → Command
  SetPurgedLimit : ℕ → Command
  Compact : Command

-- CouchDB: POST /{db}/_bulk_docs; POST /{db}/_purge, "purge_seq", "purged"
pub data Reply : Type 0 where
  -- of each edit its revision
  Wrote : List (Result Rev Refusal) → Reply
  -- the number of the local document's revision, 0 for a deletion
  WroteLocal : Result ℕ Refusal → Reply
  -- the purge number, and of each document named the leaves removed
  Purged : ℕ → Map names (List Rev) → Reply
  Done : Reply

-- a session's number, and the number of its call, from 1
pub record Seat : Type 0 where
  pub session : ℕ
  pub call : ℕ

-- a command that waits for its turn
pub record Job : Type 0 where
  pub seat : Seat
  pub command : Command

-- a command that was answered
pub record Entry : Type 0 where
  pub seat : Seat
  pub command : Command
  pub reply : Reply

-- ---- what can be asked, and the form of what is answered

-- the most edits of a bulk, and the most documents of a purge
abbrev pub max_edits : ℕ
max_edits = 1048576

-- the last revision number of a local document, and the largest number of revisions, and of purges, that is kept
abbrev pub last_counter : ℕ
last_counter = 4294967295

abbrev pub largest_limit : ℕ
largest_limit = 4294967295

-- the last purge number that a reply reports, the largest whole number of `i64`
abbrev pub last_purge : ℕ
last_purge = 9223372036854775807

pub record IsEdit (e : Edit) : Type 0 where
  pub id : IsId e.id
  pub named : IfSome e.named IsRev
  pub body : IsBody e.body

pub record IsMerge (m : Merge) : Type 0 where
  pub id : IsId m.id
  pub path : IsPath (m.newest ∷ m.older)
  pub revs : All IsRev (m.newest ∷ m.older)
  pub body : IsBody m.body

abbrev pub IsCounter : ℕ → Type 0
IsCounter k = (0 < k) × (k ≤ last_counter)

abbrev pub IsLimit : ℕ → Type 0
IsLimit n = (0 < n) × (n ≤ largest_limit)

abbrev pub NamesRevs : Id × List Rev → Type 0
NamesRevs e = IsId e.0 × All IsRev e.1

abbrev pub IsCommand : Command → Type 0
IsCommand (Edits es) = (length es ≤ max_edits) × All IsEdit es
IsCommand (Merges ms) = (length ms ≤ max_edits) × All IsMerge ms
IsCommand (PutLocal id named body) = IsId id × IfSome named IsCounter × IfSome body IsBody
IsCommand (Purge named) = (length (entries named) ≤ max_edits) × All NamesRevs (entries named)
IsCommand (SetLimit n) = IsLimit n
IsCommand (SetPurgedLimit n) = IsLimit n
IsCommand Compact = ⊤

abbrev pub FitsEdit : Result Rev Refusal → Type 0
FitsEdit (Ok r) = IsRev r
FitsEdit (Err e) = ⊤

abbrev pub FitsMerge : Result Rev Refusal → Type 0
FitsMerge (Ok r) = IsRev r
FitsMerge (Err e) = e ≡ BadHistory

abbrev pub FitsLocal : Result ℕ Refusal → Type 0
FitsLocal (Ok k) = k ≤ last_counter
FitsLocal (Err Conflict) = ⊤
FitsLocal (Err Missing) = ⊤
FitsLocal (Err GenerationLimit) = ⊤
FitsLocal (Err BadHistory) = ⊥
FitsLocal (Err Deleted) = ⊥

-- the reply has the form of an answer to the command: a list of any length
abbrev pub FitsReply : Command → Reply → Type 0
FitsReply (Edits es) (Wrote rs) = All FitsEdit rs
FitsReply (Merges ms) (Wrote rs) = All FitsMerge rs
FitsReply (PutLocal id named body) (WroteLocal r) = FitsLocal r
FitsReply (Purge named) (Purged n removed) = (n ≤ last_purge) × All NamesRevs (entries removed)
FitsReply (SetLimit n) Done = ⊤
FitsReply (SetPurgedLimit n) Done = ⊤
FitsReply Compact Done = ⊤
FitsReply c r = ⊥

-- a session has any number of calls that 64 bits count
pub record IsSeat (s : Seat) : Type 0 where
  pub session : s.session < 64
  pub call : (0 < s.call) × (s.call < 2 ^ 64)

pub record IsEntry (e : Entry) : Type 0 where
  pub seat : IsSeat e.seat
  pub command : IsCommand e.command
  pub reply : FitsReply e.command e.reply
