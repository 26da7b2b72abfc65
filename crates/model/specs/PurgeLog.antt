-- The log of purges: the newest of them, under the numbers that they were given.
use Rattle.std.specs.Prelude.{◌≡◌, ◌<◌, ◌≤◌, ◌+◌, ◌-◌, ◌==◌, ℕ, Bool, not, List, [], ◌∷◌, ◌++◌, length, filter, nat_lt, All, ⊤}
use Rattle.std.specs.List.{list_any, range_with_len}
use Rattle.model.specs.Lists.{last_few}
use Rattle.model.specs.Revision.{Rev, IsRev}
use Rattle.model.specs.Command.{Id, IsId, IsLimit}

-- a document that lost leaves, under its purge number
-- CouchDB: POST /{db}/_purge, "purge_seq", "purged"
pub record PurgeInfo : Type 0 where
  pub seq : ℕ
  pub id : Id
  pub leaves : List Rev

-- the number of the last purge, the newest purges in rising order, and the most that are kept
-- CouchDB: GET /{db}/_purged_infos_limit
pub record PurgeLog : Type 0 where
  pub purge_seq : ℕ
  pub infos : List PurgeInfo
  pub limit : ℕ

-- CouchDB: GET /{db}/_purged_infos_limit
abbrev pub empty_log : PurgeLog
empty_log = record { purge_seq = 0; infos = []; limit = 1000 }

-- one more purge, at the next number; past the limit the oldest goes
-- CouchDB: POST /{db}/_purge, "purge_seq", "purged"
abbrev pub logged : PurgeLog → Id → List Rev → PurgeLog
logged l id leaves = record l { purge_seq = l.purge_seq + 1; infos = last_few l.limit (l.infos ++ record { seq = l.purge_seq + 1; id = id; leaves = leaves } ∷ []) }

-- under another limit, the newest that it keeps; what is gone stays away
-- CouchDB: PUT /{db}/_purged_infos_limit
abbrev pub limited : PurgeLog → ℕ → PurgeLog
limited l n = record l { infos = last_few n l.infos; limit = n }

-- the purges above the mark
abbrev pub purges_since : PurgeLog → ℕ → List PurgeInfo
purges_since l mark = filter (λ p. nat_lt mark p.seq) l.infos

abbrev pub has_number : List PurgeInfo → ℕ → Bool
has_number infos n = list_any (λ p. p.seq == n) infos

-- a number above the mark was given and is no longer in the log
unfoldable pub is_overrun : PurgeLog → ℕ → Bool
is_overrun l mark = list_any (λ n. not (has_number l.infos n)) (range_with_len (mark + 1) (l.purge_seq - mark))

-- the numbers rise by one, and the last is n
abbrev pub AreNumbered : ℕ → List PurgeInfo → Type 0
AreNumbered n [] = ⊤
AreNumbered n (p ∷ ps) = (p.seq + length ps ≡ n) × (0 < p.seq) × AreNumbered n ps

pub record IsPurgeInfo (p : PurgeInfo) : Type 0 where
  pub id : IsId p.id
  pub revs : All IsRev p.leaves
  pub not_empty : 0 < length p.leaves

-- what a log keeps: its newest purge, if there was one, and no more than the limit
pub record IsLog (l : PurgeLog) : Type 0 where
  pub limit : IsLimit l.limit
  pub numbered : AreNumbered l.purge_seq l.infos
  pub infos : All IsPurgeInfo l.infos
  pub room : length l.infos ≤ l.limit
  pub newest : 0 < l.purge_seq → 0 < length l.infos
