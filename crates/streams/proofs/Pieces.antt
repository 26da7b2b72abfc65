-- Bytes that are taken in pieces.
use Rattle.std.proofs.Common.{◌≡◌, ℕ, ◌+◌, ◌-◌, List, take, drop, length, Option, arith}
use Rattle.std.specs.Io.KnownBytes.{Appends}
use Rattle.std.proofs.KnownBytes.{Appends-trans}
use Rattle.std.proofs.lemmas.Grind.{common_steps}
use Rattle.std.proofs.Math.Seq.{take-add}

-- the range up to the end is all that is left
pub take-rest : (bytes : List ℕ) (at : ℕ) → take (length bytes - at) (drop at bytes) ≡ drop at bytes
take-rest bytes at = grind (arith, common_steps)

-- after the first bytes, some more of what is left
pub Appends-more : (old mid new : Option (List ℕ)) (bytes : List ℕ) (at n : ℕ) → Appends old mid (take at bytes)
    → Appends mid new (take n (take (length bytes - at) (drop at bytes))) → Appends old new (take (at + n) bytes)
Appends-more old mid new bytes at n first more =
    rw take-add (Appends-trans old mid new _ _ first (rw (take-rest bytes at) at more))
