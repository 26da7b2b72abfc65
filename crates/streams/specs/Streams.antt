-- A reader and a writer side by side.
use Rattle.std.specs.Prelude.{ℕ, List, Option}

-- a reader and a writer: the bytes that are left and those that were taken, where they are known, and how many calls failed
pub record Streams : Type 0 where
  pub left : Option (List ℕ)
  pub failed_reads : ℕ
  pub taken : Option (List ℕ)
  pub failed_writes : ℕ

-- the same, by what is left, the failed reads, what was taken and the failed writes
abbrev pub streams_of : Option (List ℕ) → ℕ → Option (List ℕ) → ℕ → Streams
streams_of left failed_reads taken failed_writes = record { left = left; failed_reads = failed_reads; taken = taken; failed_writes = failed_writes }
