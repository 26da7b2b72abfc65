-- Sessions that are lent to calls, as for work on threads, and then closed.
use Rattle.std.proofs.Common.{◌≡◌, ◌≤◌, ℕ, List, arith, ap, map, take, length}
use Rattle.std.specs.List.{range_with_len}
use Rattle.std.proofs.lemmas.List.{length-take}
use Rattle.std.proofs.lemmas.List.FromFn.{length-map-range_with_len}
use Rattle.sessions.specs.Known.{Known, fresh}

-- as many sessions as were opened are lent to a call, and there are no more after it
pub no_more : (opened lent after : List Known) (len count most : ℕ) → opened ≡ map fresh (range_with_len 0 count) → count ≡ most → lent ≡ opened → length lent ≡ len → length (take len after) ≤ most
no_more opened lent after len count most new few same long = omega (arith, length-take len after, length-map-range_with_len fresh 0 count, ap length new, ap length same)
