-- A session's calls in a history that has one call more.
use Rattle.std.proofs.Common.{◌≡◌, ℕ, zero, suc, ◌+◌, ◌-◌, ◌<◌, ◌≤◌, ◌⊎◌, inl, inr, true, false, List, [], ◌∷◌, ◌++◌, length, slice_get, Some, option_map, refl, ap, sym, ◌∙◌, subst, arith, length-append}
use mathlib.Core.List.{IsPrefix}
use Rattle.std.specs.Prelude.{unwrap_or, Option}
use Rattle.std.proofs.lemmas.Option.{none-some, same_Some}
use Rattle.std.proofs.lemmas.Bool.{cond-true, cond-false, cases_lt}
use Rattle.std.proofs.lemmas.List.{append-nil}
use Rattle.std.proofs.lemmas.List.Elements.{filter-append}
use Rattle.model.specs.Map.{Map, empty, get, same_key, same_key_itself}
use Rattle.model.specs.Command.{Command, Reply, Seat, Entry, numbers}
use Rattle.model.specs.Database.{Database, act, calls_of}
use Rattle.model.specs.History.{IsLegal, replay, of_session, base_of}
use Rattle.model.proofs.ListLaws.{by_cases}
use Rattle.model.proofs.CallLaws.{calls-replay, calls-own, calls-other}
use Rattle.snapshots.specs.Version.{entry_at}
use Rattle.version_log.specs.Histories.{newest, Grows}
use Rattle.version_log.proofs.Growing.{newest_grows, newest_legal}
use Rattle.sessions.specs.Known.{Known, seen, SeesOwn, settled}
use Rattle.sessions.specs.Calls.{Told, Writes, IsTold, next_seat}

pub of_session-append : (s : ℕ) (xs ys : List Entry) → of_session s (xs ++ ys) ≡ of_session s xs ++ of_session s ys
of_session-append s xs ys = filter-append (λ e. same_key numbers s e.seat.session) xs ys

own : (s : ℕ) (e : Entry) → e.seat.session ≡ s → same_key numbers s e.seat.session ≡ true
own s e is = ap (same_key numbers s) is ∙ same_key_itself numbers s

of_session-own : (s : ℕ) (e : Entry) (es : List Entry) → same_key numbers s e.seat.session ≡ true → of_session s (e ∷ es) ≡ e ∷ of_session s es
of_session-own s e es t = cond-true _ _ _ t

of_session-other : (s : ℕ) (e : Entry) (es : List Entry) → same_key numbers s e.seat.session ≡ false → of_session s (e ∷ es) ≡ of_session s es
of_session-other s e es f = cond-false _ _ _ f

-- a session has no call in a base
none_called : (base : Database) (s : ℕ) → base.calls ≡ empty → calls_of base s ≡ 0
none_called base s uncalled = ap (λ (m : Map numbers ℕ). unwrap_or (get m s) 0) uncalled

-- the number of calls that the database records, over a base
pub counted : (base : Database) → base.calls ≡ empty → (s : ℕ) (h : List Entry) → calls_of (replay base h) s ≡ length (of_session s h)
counted base uncalled s h = omega (arith, calls-replay base h s, none_called base s uncalled)

-- an entry of the session is among its calls
has_call : (s : ℕ) (xs : List Entry) (k : ℕ) (e : Entry) → slice_get xs k ≡ Some e → e.seat.session ≡ s → 0 < length (of_session s xs)
has_call s [] k e at is = absurd (none-some e at)
has_call s (x ∷ xs) zero e at is = omega (arith, ap length (of_session-own s x xs (own s x (ap (λ (y : Entry). y.seat.session) (same_Some x e at) ∙ is))))
has_call s (x ∷ xs) (suc k) e at is =
    let rest = has_call s xs k e at is in
    by_cases (same_key numbers s x.seat.session)
    (λ t. omega (arith, ap length (of_session-own s x xs t)))
    (λ f. omega (arith, ap length (of_session-other s x xs f), rest))

pub nothing_left : {X : Type 0} (l : List X) → length l ≡ 0 → l ≡ []
nothing_left [] h = refl
nothing_left (x ∷ xs) h = absurd (omega (arith, h))

-- where a session has one call in xs, that is the entry
the_call : (s : ℕ) (xs : List Entry) (k : ℕ) (e : Entry) → slice_get xs k ≡ Some e → e.seat.session ≡ s → length (of_session s xs) ≡ 1 → of_session s xs ≡ e ∷ []
the_call s [] k e at is one = absurd (none-some e at)
the_call s (x ∷ xs) zero e at is one =
    let here = same_Some x e at in
    let split = of_session-own s x xs (own s x (ap (λ (y : Entry). y.seat.session) here ∙ is)) in
    split ∙ ap (λ l. x ∷ l) (nothing_left (of_session s xs) (omega (arith, one, ap length split))) ∙ ap (λ (y : Entry). y ∷ []) here
the_call s (x ∷ xs) (suc k) e at is one =
    let some = has_call s xs k e at is in
    by_cases (same_key numbers s x.seat.session)
    (λ t. absurd (omega (arith, ap length (of_session-own s x xs t), one, some)))
    (λ f. let split = of_session-other s x xs f in split ∙ the_call s xs k e at is (sym (ap length split) ∙ one))

slice_get_behind : (xs ys : List Entry) (k : ℕ) → length xs ≤ k → slice_get (xs ++ ys) k ≡ slice_get ys (k - length xs)
slice_get_behind [] ys k le = ap (λ n. slice_get ys n) (omega arith)
slice_get_behind (x ∷ xs) ys zero le = absurd (omega arith)
slice_get_behind (x ∷ xs) ys (suc k) le = slice_get_behind xs ys k (omega arith) ∙ ap (λ n. slice_get ys n) (omega arith)

-- the calls of a session in a beginning of a history, and those behind it
behind : (s : ℕ) (old new : List Entry) (pre : IsPrefix old new) → of_session s new ≡ of_session s old ++ of_session s pre.0
behind s old new pre = ap (of_session s) (sym pre.1) ∙ of_session-append s old pre.0

-- a history has as many calls of a session as a beginning of it: they are the same
pub same_calls : (s : ℕ) (old new : List Entry) → IsPrefix old new → length (of_session s new) ≡ length (of_session s old) → of_session s new ≡ of_session s old
same_calls s old new pre count =
    let split = behind s old new pre in
    let none = nothing_left (of_session s pre.0) (omega (arith, count, ap length split, length-append (of_session s old) (of_session s pre.0))) in
    split ∙ ap (λ (l : List Entry). of_session s old ++ l) none ∙ append-nil (of_session s old)

-- in a beginning of a legal history a call's number is at most that of the session's calls there
early_call : (base : Database) (old rest : List Entry) (k : ℕ) (e : Entry) → IsLegal base (old ++ rest) → k < length old → slice_get (old ++ rest) k ≡ Some e
    → e.seat.call ≤ calls_of base e.seat.session + length (of_session e.seat.session old)
early_call base [] rest k e legal less at = absurd (omega (arith, less))
early_call base (x ∷ xs) rest zero e legal less at =
    subst (λ (y : Entry). y.seat.call ≤ calls_of base y.seat.session + length (of_session y.seat.session (x ∷ xs))) (same_Some x e at)
    (omega (arith, legal.0.seat, ap length (of_session-own x.seat.session x xs (same_key_itself numbers x.seat.session))))
early_call base (x ∷ xs) rest (suc k) e legal less at =
    let s = e.seat.session in
    let later = early_call (act base x.seat x.command) xs rest k e legal.1 (omega (arith, less)) at in
    by_cases (same_key numbers s x.seat.session)
    (λ t. omega (arith, later, calls-own base x.seat x.command s t, ap length (of_session-own s x xs t)))
    (λ f. omega (arith, later, calls-other base x.seat x.command s f, ap length (of_session-other s x xs f)))

-- an entry with a greater number is behind the beginning
stands_behind : (base : Database) → base.calls ≡ empty → (s : ℕ) (old new : List Entry) (k : ℕ) (e : Entry) → IsLegal base new → IsPrefix old new → slice_get new k ≡ Some e → e.seat.session ≡ s → length (of_session s old) < e.seat.call → length old ≤ k
stands_behind base uncalled s old new k e legal pre at is more = from (cases_lt k (length old))
  where
    early : k < length old → ⊥
    early less = omega (
      arith,
      more,
      ap (λ n. length (of_session n old)) is,
      none_called base e.seat.session uncalled,
      early_call base old pre.0 k e (subst (IsLegal base) (sym pre.1) legal) less (ap (λ l. slice_get l k) pre.1 ∙ at),
    )

    from : (k < length old) ⊎ (length old ≤ k) → length old ≤ k
    from (inl less) = absurd (early less)
    from (inr le) = le

-- a history has one call more of a session than a beginning of it, and an entry of the session behind that: its calls are those and the entry
new_call : (s : ℕ) (old new : List Entry) (k : ℕ) (e : Entry) → IsPrefix old new → length old ≤ k → slice_get new k ≡ Some e → e.seat.session ≡ s → length (of_session s new) ≡ length (of_session s old) + 1 → of_session s new ≡ of_session s old ++ e ∷ []
new_call s old new k e pre le at is one =
    let rest = pre.0 in
    let split = behind s old new pre in
    let at' : slice_get rest (k - length old) ≡ Some e = sym (slice_get_behind old rest k le) ∙ ap (λ l. slice_get l k) pre.1 ∙ at in
    let count : length (of_session s rest) ≡ 1 = omega (arith, one, ap length split, length-append (of_session s old) (of_session s rest)) in
    split ∙ ap (λ l. of_session s old ++ l) (the_call s rest (k - length old) e at' is count)

-- the entry at a place
at_place : (h : List Entry) (place : ℕ) (e : Entry) → entry_at h place ≡ Some e → (0 < place) × (slice_get h (place - 1) ≡ Some e)
at_place h zero e at = absurd (none-some e at)
at_place h (suc n) e at = (omega arith, ap (λ k. slice_get h k) (omega arith) ∙ at)

-- where there is an entry, there were publications
first_publication : (found : List (List Entry)) (place : ℕ) (e : Entry) → entry_at (newest found) place ≡ Some e → 0 < length found
first_publication [] zero e at = absurd (none-some e at)
first_publication [] (suc n) e at = absurd (none-some e at)
first_publication (h ∷ hs) place e at = omega arith

-- what a session compares shows what it owes
pub writes : (base : Option Database) → (base_of base).calls ≡ empty → (old new : Known) (found : List (List Entry)) (command : Command) (receipt : Told) (e : Entry)
    → SeesOwn old → IsPrefix old.published found → Grows base found → entry_at (newest found) receipt.place ≡ Some e → e ≡ record { seat = receipt.seat; command = command; reply = receipt.reply }
    → receipt.seat ≡ next_seat old → length (of_session old.number (newest found)) ≡ length old.receipts + 1 → receipt.publication ≡ length found → length found ≤ receipt.place
    → new ≡ record (settled old) { published = found; receipts = of_session old.number (newest found); entered = length (of_session old.number (newest found)) }
    → Writes base (settled old) command receipt new
writes base uncalled old new found command receipt e own later grows at is seat_is one publication bound same =
    let s = old.number in
    let here = at_place (newest found) receipt.place e at in
    let mine : e.seat.session ≡ s = ap (λ (x : Entry). x.seat.session) is ∙ ap (λ (t : Seat). t.session) seat_is in
    let called : e.seat.call ≡ length old.receipts + 1 = ap (λ (x : Entry). x.seat.call) is ∙ ap (λ (t : Seat). t.call) seat_is in
    let legal = newest_legal base [] found tt grows in
    let longer = newest_grows base old.published found grows later in
    let above = stands_behind (base_of base) uncalled s (seen old) (newest found) (receipt.place - 1) e legal longer here.1 mine (omega (arith, called, ap length own)) in
    let call = new_call s (seen old) (newest found) (receipt.place - 1) e longer above here.1 mine (one ∙ ap (λ (l : List Entry). length l + 1) (sym own)) in
    let first = first_publication found receipt.place e at in
    let number : new.number ≡ s = ap (λ (k : Known). k.number) same in
    let published : new.published ≡ found = ap (λ (k : Known). k.published) same in
    let receipts' : new.receipts ≡ of_session s (newest found) = ap (λ (k : Known). k.receipts) same in
    record {
      legal = subst (λ (p : List (List Entry)). IsLegal (base_of base) (newest p)) (sym published) legal;
      extends = subst (λ (p : List (List Entry)). IsPrefix (newest old.published) (newest p)) (sym published) longer;
      seat = seat_is;
      told = subst (λ (p : List (List Entry)). (0 < receipt.place) × (slice_get (newest p) (receipt.place - 1) ≡ Some (record { seat = receipt.seat; command = command; reply = receipt.reply }))) (sym published) (here.0, here.1 ∙ ap Some is);
      receipts = receipts' ∙ call ∙ ap (λ (l : List Entry). l ++ e ∷ []) own ∙ ap (λ (x : Entry). old.receipts ++ x ∷ []) is;
      only = (λ i. of_session (number i) (newest (published i))) ∙ sym receipts';
      first = omega (arith, first, publication);
      bound = omega (arith, bound, publication);
      counted = publication ∙ ap (λ (p : List (List Entry)). length p) (sym published);
      same = λ i. record {
        number = number i;
        published = new.published;
        receipts = new.receipts;
        pushes = new.pushes;
        waited = new.waited;
        tried = new.tried;
        entered = ((ap (λ (k : Known). k.entered) same ∙ ap length (sym receipts')) i);
        lost = (same i).lost;
      };
    }

-- the entry is what was asked and answered
pub entry_is : (h : List Entry) (place : ℕ) (seat : Seat) (command : Command) (reply : Reply) (t : IsTold h place seat command)
    → option_map (λ (x : Entry). x.reply) (entry_at h place) ≡ Some reply → t.entry ≡ record { seat = seat; command = command; reply = reply }
entry_is h place seat command reply t stands =
    let replies : t.entry.reply ≡ reply = same_Some t.entry.reply reply (sym (ap (option_map (λ (x : Entry). x.reply)) t.at) ∙ stands) in
    λ i. record { seat = t.seat_is i; command = t.command_is i; reply = replies i }

-- what a version is compared with says that the entry is what was asked
pub told : (h : List Entry) (place session calls : ℕ) (seat : Seat) (command : Command) (e : Entry)
    → entry_at h place ≡ Some e → session ≡ seat.session → e.seat.session ≡ session → e.seat.call ≡ seat.call → e.command ≡ command → calls ≡ length (of_session session h) → calls ≡ seat.call → IsTold h place seat command
told h place session calls seat command e at own mine called same counts last = record {
  entry = e;
  at = at;
  seat_is = λ i. record { session = (mine ∙ own) i; call = called i };
  command_is = same;
  last = ap (λ s. length (of_session s h)) (sym own) ∙ sym counts ∙ last;
}

-- a session has no more calls than there are entries
pub few_calls : (s : ℕ) (h : List Entry) → length (of_session s h) ≤ length h
few_calls s [] = omega arith
few_calls s (x ∷ xs) = by_cases (same_key numbers s x.seat.session)
    (λ t. omega (arith, ap length (of_session-own s x xs t), few_calls s xs))
    (λ f. omega (arith, ap length (of_session-other s x xs f), few_calls s xs))
