-- Which history a journal holds.
use Rattle.std.specs.Prelude.{◌≡◌, ℕ, ◌≤◌, false, List, [], length, take, Option, IfSome}
use mathlib.Core.List.{IsPrefix}
use Rattle.model.specs.Database.{Database}
use Rattle.model.specs.History.{Chronicle}
use Rattle.history_dump.specs.Dump.{dump_text}
use Rattle.journal.specs.Kept.{Kept}

-- the history of no entries
abbrev pub begun : Option Database → Chronicle
begun base = record { base = base; entries = [] }

-- the history up to a place
abbrev pub up_to : Chronicle → ℕ → Chronicle
up_to h place = record { base = h.base; entries = take place h.entries }

-- known bytes are the dump of this history
abbrev pub AreDump : Option (List ℕ) → Chronicle → Type 0
AreDump known h = IfSome known (λ text. text ≡ dump_text h)

-- The file is the dump of this history, to its last entry, and what is covered is the dump of its entries up to a place.
-- Nothing failed.
pub record HoldsDump (k : Kept) (h : Chronicle) : Type 0 where
  pub place_is : k.place ≡ length h.entries
  pub few : k.synced ≤ k.place
  pub taken_is : AreDump k.taken h
  pub covered_is : AreDump k.covered (up_to h k.synced)
  pub sound : k.broken ≡ false

-- the file is a beginning of the dump of this history
abbrev pub BeginsDump : Kept → Chronicle → Type 0
BeginsDump k h = IfSome k.taken (λ text. IsPrefix text (dump_text h))
