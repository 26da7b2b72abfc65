-- The rule that makes an identity makes one in range, where its generation is.
use Rattle.std.specs.Prelude.{ℕ, zero, suc, ◌<◌, ◌≤◌, Bool, List, length, All, Option, Some, None, slice_index}
use Rattle.std.specs.Int.{byte_at, bytes_low_first}
use Rattle.std.proofs.Common.{⊎_elim, arith}
use Rattle.std.proofs.lemmas.Bool.{cases_lt}
use Rattle.std.proofs.lemmas.List.{get_or_past}
use Rattle.std.proofs.lemmas.List.Elements.{All-nil, All-cons, All-append, All-get_or}
use Rattle.md5.specs.Md5.{md5, digest_bytes}
use Rattle.md5.proofs.StandardFacts.{length-md5}
use Rattle.hex.specs.Hex.{IsBytes}
use Rattle.model.specs.Body.{Body}
use Rattle.model.specs.Revision.{Rev, IsRev, child, generation_after, last_generation}

byte_below : (i n : ℕ) → byte_at i n < 256
byte_below zero n = omega arith
byte_below (suc i) n = omega arith

bytes_of_number : (i k n : ℕ) → All (λ b. b < 256) (bytes_low_first i k n)
bytes_of_number i zero n = All-nil _
bytes_of_number i (suc k) n = All-cons (λ b. b < 256) (byte_at i n) _ (byte_below i n) (bytes_of_number (suc i) k n)

bytes_of_digest : (h : List ℕ) (n : ℕ) → All (λ b. b < 256) (digest_bytes h n)
unfolding digest_bytes
bytes_of_digest h zero = All-nil _
bytes_of_digest h (suc n) = All-append (λ b. b < 256) _ _ (bytes_of_digest h n) (bytes_of_number 0 4 (slice_index h n))

IsBytes-all : (xs : List ℕ) → All (λ b. b < 256) xs → IsBytes xs
IsBytes-all xs h i = ⊎_elim (λ lt. All-get_or (λ b. b < 256) xs i 0 lt h) (λ past. let none = get_or_past xs i 0 past in omega arith) (cases_lt i (length xs))

IsBytes-md5 : (m : List ℕ) → IsBytes (md5 m)
unfolding md5
IsBytes-md5 m = IsBytes-all (md5 m) (bytes_of_digest _ 4)

generation_after-positive : (parent : Option Rev) → 0 < generation_after parent
generation_after-positive None = omega arith
generation_after-positive (Some p) = omega arith

pub IsRev-child : (parent : Option Rev) (deleted : Bool) (body : Body) → generation_after parent ≤ last_generation → IsRev (child parent deleted body)
IsRev-child parent deleted body le = record { not_zero = generation_after-positive parent; in_range = le; size = length-md5 _; bytes = IsBytes-md5 _ }
