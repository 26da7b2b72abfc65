-- What the last version says of a session.
use Rattle.std.specs.Prelude.{Option}
use Rattle.std.proofs.Common.{◌≡◌, ℕ, Bool, true, false, not, List, length, nat_eq, refl, ap, sym, ◌∙◌, arith}
use Rattle.std.proofs.lemmas.Bool.{or_parts}
use Rattle.std.proofs.lemmas.Bool.Decides.{nat_tests}
use mathlib.Core.List.{IsPrefix}
use Rattle.model.specs.Map.{empty}
use Rattle.model.specs.Command.{Entry}
use Rattle.model.specs.Database.{Database, calls_of}
use Rattle.model.specs.History.{Chronicle, now, of_session, base_of}
use Rattle.version_log.specs.Histories.{newest, Grows}
use Rattle.version_log.proofs.Growing.{newest_grows}
use Rattle.sessions.specs.Known.{Known, seen, SeesOwn}
use Rattle.sessions.specs.Ends.{IsExact}
use Rattle.sessions.proofs.Receipts.{same_calls, counted}

-- the calls that a version records
pub calls_told : (c : Chronicle) (s : ℕ) → (base_of c.base).calls ≡ empty → calls_of (now c) s ≡ length (of_session s c.entries)
calls_told c s uncalled = counted (base_of c.base) uncalled s c.entries

not_false : (n m : ℕ) → not (nat_eq n m) ≡ false → n ≡ m
not_false n m is = go (nat_eq n m) refl is
  where
    go : (b : Bool) → nat_eq n m ≡ b → not b ≡ false → n ≡ m
    go true e f = grind (arith, nat_tests)
    go false e f = absurd (cc f)

-- what was published later has as many entries of the session as it has receipts: they are those with a receipt
pub own_by : (base : Option Database) (k : Known) (later : List (List Entry)) → SeesOwn k → Grows base later → IsPrefix k.published later → length (of_session k.number (newest later)) ≡ length k.receipts → of_session k.number (newest later) ≡ k.receipts
own_by base k later own grows extends count = same_calls k.number (seen k) (newest later) (newest_grows base k.published later grows extends) (count ∙ ap length (sym own)) ∙ own

pub exact_by : (base : Option Database) (k : Known) (last : List (List Entry)) → SeesOwn k → Grows base last → IsPrefix k.published last → IsExact (newest last) k
exact_by base k last own grows extends found = own_by base k last own grows extends (not_false (length (of_session k.number (newest last))) (length k.receipts) (or_parts _ _ found).1)
