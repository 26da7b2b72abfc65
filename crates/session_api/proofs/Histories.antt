-- Histories, as sessions see them.
use Rattle.std.proofs.Common.{◌≡◌, ℕ, zero, suc, ◌-◌, ◌≤◌, List, [], ◌∷◌, ◌++◌, length, slice_get, Some, refl, ap, sym, ◌∙◌, subst, arith, append_assoc, length-append}
use Rattle.std.proofs.lemmas.Option.{none-some, same_Some}
use Rattle.std.proofs.lemmas.List.{append-nil, take_all, take-append-le}
use Rattle.std.proofs.lemmas.List.Elements.{filter-append}
use Rattle.model.specs.Map.{same_key}
use Rattle.model.specs.Command.{Entry, numbers}
use Rattle.model.specs.Database.{Database, act, reply_to}
use Rattle.model.specs.History.{IsLegal, now, of_session, replay, base_of}
use Rattle.model.specs.Told.{NoneFalls}
use Rattle.model.proofs.TellLaws.{Tells-within}
use Rattle.session_api.specs.Known.{Known, HasEntryAt, entry_at, database_at, history_of, sees_more, with_calls}
use Rattle.session_api.specs.Learns.{Looks}

pub of_session-append : (session : ℕ) (xs ys : List Entry) → of_session session (xs ++ ys) ≡ of_session session xs ++ of_session session ys
of_session-append session xs ys = filter-append (λ e. same_key numbers session e.seat.session) xs ys

-- places that rise from a higher one rise from a lower one
pub falls_from : (low high : ℕ) (places : List ℕ) → low ≤ high → NoneFalls high places → NoneFalls low places
falls_from low high [] h n = tt
falls_from low high (p ∷ ps) h n = (omega (arith, h, n.0), n.1)

-- places that go on from where others ended
pub falls_on : (low high : ℕ) (places more : List ℕ) → NoneFalls low (places ++ high ∷ []) → NoneFalls high more → NoneFalls low (places ++ more)
falls_on low high [] more n m = falls_from low high more n.0 m
falls_on low high (p ∷ ps) more n m = (n.0, falls_on p high ps more n.1 m)

-- the reply of an entry of a legal history is a database's
pub legal_reply : (base : Database) (es : List Entry) (n : ℕ) (e : Entry) → IsLegal base es → slice_get es n ≡ Some e → (d : Database) × (e.reply ≡ reply_to d e.command)
legal_reply base [] n e legal is = absurd (none-some e is)
legal_reply base (f ∷ es) zero e legal is = (base, subst (λ (x : Entry). x.reply ≡ reply_to base x.command) (same_Some f e is) legal.0.reply)
legal_reply base (f ∷ es) (suc n) e legal is = legal_reply (act base f.seat f.command) es n e legal.1 is

-- the entry that is there is seen
pub entry_there : (k : Known) (place : ℕ) (entry : Entry) → HasEntryAt k place entry → entry_at k place ≡ Some entry
entry_there k zero entry told = absurd (omega (arith, told.0))
entry_there k (suc n) entry told = let one : n ≡ suc n - 1 = omega arith in ap (slice_get k.seen) one ∙ told.1

pub place_within : (k : Known) (place : ℕ) (entry : Entry) → HasEntryAt k place entry → place ≤ length k.seen
place_within k place entry told = (Tells-within (base_of k.base) k.seen entry.seat entry.command place entry.reply told).1

-- ---- looks

pub looks_itself : (k : Known) → IsLegal (base_of k.base) k.seen → Looks k k
looks_itself k legal = record { legal = legal; more = []; extends = (λ i. record k { seen = sym (append-nil k.seen) i }); none = refl }

pub looks_length : (old new : Known) → Looks old new → length old.seen ≤ length new.seen
looks_length old new looks = omega (arith, ap (λ (k : Known). length k.seen) looks.extends, length-append old.seen looks.more)

pub looks_then : (a b c : Known) → Looks a b → Looks b c → Looks a c
looks_then a b c p q =
    let seen : b.seen ≡ a.seen ++ p.more = ap (λ (k : Known). k.seen) p.extends in
    let number : b.number ≡ a.number = ap (λ (k : Known). k.number) p.extends in
    record {
      legal = q.legal;
      more = p.more ++ q.more;
      extends = q.extends ∙ ap (λ (k : Known). sees_more k q.more) p.extends ∙ (λ i. record a { seen = append_assoc a.seen p.more q.more i });
      none = of_session-append a.number p.more q.more ∙ ap (λ (es : List Entry). es ++ of_session a.number q.more) p.none ∙ ap (λ (n : ℕ). of_session n q.more) (sym number) ∙ q.none;
    }

-- a look, where calls and a loss are told apart
pub looks_only : (old new : Known) → Looks old new → Looks (with_calls old new.pushes new.lost) new
looks_only old new looks = record {
  legal = looks.legal;
  more = looks.more;
  extends = looks.extends ∙ (λ i. with_calls (sees_more old looks.more) (ap (λ (k : Known). k.pushes) (sym looks.extends) i) (ap (λ (k : Known). k.lost) (sym looks.extends) i));
  none = looks.none;
}

-- ---- the database at a place

-- what was seen is what is seen at its place
pub database_seen : (k : Known) → now (history_of k) ≡ database_at k (length k.seen)
database_seen k = ap (replay (base_of k.base)) (sym (take_all (length k.seen) k.seen (omega arith)))

-- it stays
pub database-more : (k : Known) (more : List Entry) (place : ℕ) → place ≤ length k.seen → database_at k place ≡ database_at (sees_more k more) place
database-more k more place within = ap (replay (base_of k.base)) (sym (take-append-le place k.seen more within))

pub database-append : (old new : Known) → Looks old new → (place : ℕ) → place ≤ length old.seen → database_at old place ≡ database_at new place
database-append old new looks place within = database-more old looks.more place within ∙ ap (λ (k : Known). database_at k place) (sym looks.extends)

-- what was seen before, too
pub database_before : (old new : Known) → Looks old new → now (history_of old) ≡ database_at new (length old.seen)
database_before old new looks = database_seen old ∙ database-append old new looks (length old.seen) (omega arith)
