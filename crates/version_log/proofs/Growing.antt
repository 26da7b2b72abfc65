-- Published histories, each of which goes on from the one before.
use Rattle.std.proofs.Common.{◌≡◌, ℕ, ◌+◌, ◌==◌, ◌≤◌, ◌<◌, leb, length-append, Bool, true, false, arith, List, [], ◌∷◌, ◌++◌, length, refl, ap, sym, ◌∙◌, subst}
use mathlib.Core.List.{IsPrefix}
use Rattle.model.specs.Command.{Entry}
use Rattle.model.specs.Database.{Database}
use Rattle.model.specs.History.{IsLegal, Chronicle, base_of}
use Rattle.version_log.specs.Histories.{newest_after, newest, LengthensAfter, GoesOn, GrowsAfter, Grows}
use Rattle.std.proofs.lemmas.Bool.Decides.{nat_tests}
use Rattle.std.specs.Prelude.{MatchBool, Option}
use Rattle.version_log.proofs.Prefixes.{prefix_self, prefix_trans, prefix_shorter}

pub grows-append : (base : Option Database) (h : List Entry) (xs ys : List (List Entry)) → GrowsAfter base h xs → GrowsAfter base (newest_after h xs) ys → GrowsAfter base h (xs ++ ys)
grows-append base h [] ys p q = q
grows-append base h (x ∷ xs) ys p q = (p.0, grows-append base x xs ys p.1 q)

pub lengthens-append : (h : List Entry) (xs ys : List (List Entry)) → LengthensAfter h xs → LengthensAfter (newest_after h xs) ys → LengthensAfter h (xs ++ ys)
lengthens-append h [] ys p q = q
lengthens-append h (x ∷ xs) ys p q = (p.0, lengthens-append x xs ys p.1 q)

pub grows_behind : (base : Option Database) (h : List Entry) (xs ys : List (List Entry)) → GrowsAfter base h (xs ++ ys) → GrowsAfter base (newest_after h xs) ys
grows_behind base h [] ys p = p
grows_behind base h (x ∷ xs) ys p = grows_behind base x xs ys p.1

pub newest_after-append : (h : List Entry) (xs ys : List (List Entry)) → newest_after h (xs ++ ys) ≡ newest_after (newest_after h xs) ys
newest_after-append h [] ys = refl
newest_after-append h (x ∷ xs) ys = newest_after-append x xs ys

pub newest_extends : (base : Option Database) (h : List Entry) (xs : List (List Entry)) → GrowsAfter base h xs → IsPrefix h (newest_after h xs)
newest_extends base h [] p = prefix_self h
newest_extends base h (x ∷ xs) p = prefix_trans h x (newest_after x xs) p.0.extends (newest_extends base x xs p.1)

pub newest_legal : (base : Option Database) (h : List Entry) (xs : List (List Entry)) → IsLegal (base_of base) h → GrowsAfter base h xs → IsLegal (base_of base) (newest_after h xs)
newest_legal base h [] l p = l
newest_legal base h (x ∷ xs) l p = newest_legal base x xs p.0.legal p.1

-- each publication adds an entry
few_after : (base : Option Database) (h : List Entry) (xs : List (List Entry)) → GrowsAfter base h xs → length h + length xs ≤ length (newest_after h xs)
few_after base h [] p = omega arith
few_after base h (x ∷ xs) p = omega (arith, p.0.longer, few_after base x xs p.1)

pub few-publications : (base : Option Database) (xs : List (List Entry)) → Grows base xs → length xs ≤ length (newest xs)
few-publications base xs p = omega (arith, few_after base [] xs p)

-- of more publications the newest history extends that of fewer
pub newest_grows : (base : Option Database) (xs ys : List (List Entry)) → Grows base ys → IsPrefix xs ys → IsPrefix (newest xs) (newest ys)
newest_grows base xs ys g p =
    subst (λ l. IsPrefix (newest xs) l) (sym (newest_after-append [] xs p.0) ∙ ap newest p.1) (newest_extends base (newest xs) p.0 (grows_behind base [] xs p.0 (subst (Grows base) (sym p.1) g)))

-- the newest histories are as the publications are
pub newest_as : (base : Option Database) (xs ys : List (List Entry)) (b : Bool) → Grows base xs → Grows base ys → MatchBool b (IsPrefix xs ys) (IsPrefix ys xs) → MatchBool b (IsPrefix (newest xs) (newest ys)) (IsPrefix (newest ys) (newest xs))
newest_as base xs ys true gx gy p = newest_grows base xs ys gy p
newest_as base xs ys false gx gy p = newest_grows base ys xs gx p

-- of two beginnings of one list, that with the smaller count begins the other
pub precedes_by : (xs ys zs : List (List Entry)) (m n : ℕ) → m ≡ length xs → n ≡ length ys → IsPrefix xs zs → IsPrefix ys zs → MatchBool (leb m n) (IsPrefix xs ys) (IsPrefix ys xs)
precedes_by xs ys zs m n a b p q = go (leb m n) refl
  where
    go : (t : Bool) → leb m n ≡ t → MatchBool t (IsPrefix xs ys) (IsPrefix ys xs)
    go true is = prefix_shorter xs ys zs p q (let le : m ≤ n = grind (arith, nat_tests) in omega (arith, le, a, b))
    go false is = prefix_shorter ys xs zs q p (let le : n < m = grind (arith, nat_tests) in omega (arith, le, a, b))

pub found_old : (n m : ℕ) (A B : Type 0) → n ≡ m → MatchBool (n == m) A B → A
found_old n m A B is h = let t : (n == m) ≡ true = grind (arith, nat_tests) in subst (λ b. MatchBool b A B) t h

-- the log with one publication more
pub grows_by : (base : Option Database) (log new : List (List Entry)) (e : List Entry) (n : ℕ) → n ≡ length log → new ≡ log ++ e ∷ [] → GoesOn base (newest log) e → Grows base log → (n + 1 ≡ length new) × Grows base new
grows_by base log new e n count is on grows = (omega (arith, count, ap length is, length-append log (e ∷ [])), subst (Grows base) (sym is) (grows-append base [] log (e ∷ []) grows (on, tt)))

-- what a version goes on from, by its base
pub goes_on : (over : Option Database) (h : List Entry) (c : Chronicle) → c.base ≡ over → IsLegal (base_of c.base) c.entries → IsPrefix h c.entries → length h < length c.entries → GoesOn over h c.entries
goes_on over h c base legal extends longer = record { extends = extends; longer = longer; legal = subst (λ (b : Option Database). IsLegal (base_of b) c.entries) base legal }
