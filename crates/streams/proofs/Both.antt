-- One write behind another.
use Rattle.std.proofs.Common.{ℕ, ◌+◌, List, ◌++◌, length, take, sym, subst, arith, length-append, Option, Result, Ok, Err}
use Rattle.std.specs.Io.KnownBytes.{Appends}
use Rattle.std.proofs.KnownBytes.{Appends-trans}
use Rattle.std.proofs.Math.Seq.{take-append-add}
use Rattle.streams.specs.Writes.{Writes}

-- a write behind bytes that were all written
pub writes_then : {A E : Type 0} (a b c : Option (List ℕ)) (r : Result A E) (xs ys : List ℕ) → Appends a b xs → Writes b c r ys → Writes a c r (xs ++ ys)
writes_then a b c (Ok x) xs ys first w = (Appends-trans a b c xs ys first w.0, tt)
writes_then a b c (Err e) xs ys first w = (
  tt,
  (
    length xs + w.1.0,
    omega (arith, w.1.1, length-append xs ys),
    subst (Appends a c) (sym (take-append-add xs ys w.1.0)) (Appends-trans a b c xs (take w.1.0 ys) first w.1.2),
  ),
)
