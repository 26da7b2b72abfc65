-- What a command leaves of the counts of calls, and how many update numbers it gives.
use Rattle.std.specs.Prelude.{◌≡◌, ◌≢◌, ◌+◌, ◌≤◌, ℕ, List, Some, unwrap_or, length, refl}
use Rattle.std.proofs.Common.{ap, arith, sym, ◌∙◌}
use Rattle.std.proofs.lemmas.List.Sums.{length-filter, count_by-le-length}
use Rattle.model.specs.Map.{Map, empty, get, put, from_list, entries, same_key, same_key_itself}
use Rattle.model.specs.Local.{Local}
use Rattle.model.specs.PurgeLog.{PurgeLog}
use Rattle.model.specs.Command.{names, numbers, Command, Edits, Merges, PutLocal, Purge, SetLimit, SetPurgedLimit, Compact, Entry}
use Rattle.model.specs.Database.{Database, calls_of, changed_by, counted}
use Rattle.model.specs.History.{Chronicle, base_of, now}
use Rattle.model.proofs.RestLaws.{rest_of_edits, rest_of_merges, rest_of_purges}
use Rattle.model.proofs.CallLaws.{calls-replay}
use Rattle.model.proofs.LookupLaws.{apart, get-put_same, get-put_other, put_again}
use Rattle.snapshots.specs.Calls.{calls_in}
use Rattle.snapshots.specs.Database.{database_with}
use Rattle.snapshots.specs.declared.database.calls.Caller.{Caller}
use Rattle.snapshots.specs.Listing.{Listing}

calls-changed : (d : Database) (c : Command) → (changed_by d c).calls ≡ d.calls
unfolding changed_by
calls-changed d (Edits es) = ap (λ (e : Database). e.calls) (rest_of_edits d es)
calls-changed d (Merges ms) = ap (λ (e : Database). e.calls) (rest_of_merges d ms)
calls-changed d (PutLocal id named body) = refl
calls-changed d (Purge named) = ap (λ (e : Database). e.calls) (rest_of_purges d (entries named))
calls-changed d (SetLimit n) = refl
calls-changed d (SetPurgedLimit n) = refl
calls-changed d Compact = refl

pub calls_of-changed : (d : Database) (c : Command) (s : ℕ) → calls_of (changed_by d c) s ≡ calls_of d s
calls_of-changed d c s = ap (λ (m : Map numbers ℕ). unwrap_or (get m s) 0) (calls-changed d c)

-- a session has made at most as many calls as there are entries
pub calls_of-few : (h : Chronicle) → (base_of h.base).calls ≡ empty → (s : ℕ) → calls_of (now h) s ≤ length h.entries
calls_of-few h uncalled s =
    let none : calls_of (base_of h.base) s ≡ 0 = ap (λ (m : Map numbers ℕ). unwrap_or (get m s) 0) uncalled in
    omega (arith, none, calls-replay (base_of h.base) h.entries s, length-filter (λ (e : Entry). same_key numbers s e.seat.session) h.entries, count_by-le-length (λ (e : Entry). same_key numbers s e.seat.session) h.entries)

-- one more call of a session among the numbers that are kept
pub database-counted : (documents : Listing) (locals : Map names Local) (purges : PurgeLog) (limit : ℕ) (calls later : Map numbers ℕ) (d : Database) (s n : ℕ) → database_with documents locals purges limit calls ≡ d → later ≡ put {O = numbers} calls s n → n ≡ calls_of d s + 1 → database_with documents locals purges limit later ≡ counted d s
database-counted documents locals purges limit calls later d s n is put_call next =
    ap (λ (m : Map numbers ℕ). database_with documents locals purges limit m) put_call
    ∙ ap (λ k. record (database_with documents locals purges limit calls) { calls = put {O = numbers} calls s k }) (next ∙ ap (λ (e : Database). calls_of e s + 1) (sym is))
    ∙ ap (λ (e : Database). counted e s) is

-- ---- where the number of the last session is beside the others

module _ (last : Caller) (es : List (ℕ × ℕ)) where
  abbrev earlier : Map numbers ℕ
  earlier = from_list es

  pub get-last : (s : ℕ) → last.session ≡ s → get {O = numbers} (calls_in (Some last) es) s ≡ Some last.calls
  get-last s same = ap (get {O = numbers} (calls_in (Some last) es)) (sym same) ∙ get-put_same {O = numbers} earlier last.session last.calls last.session (same_key_itself numbers last.session)

  pub get-earlier : (s : ℕ) → last.session ≢ s → get {O = numbers} (calls_in (Some last) es) s ≡ get {O = numbers} earlier s
  get-earlier s other = get-put_other {O = numbers} earlier last.session last.calls s (apart {O = numbers} earlier last.session s (λ e. other (sym e)))

  -- one more call of that session
  pub put-last : (s n : ℕ) → last.session ≡ s → put {O = numbers} earlier s n ≡ put {O = numbers} (calls_in (Some last) es) s n
  put-last s n same = ap (λ k. put {O = numbers} earlier k n) (sym same) ∙ sym (put_again {O = numbers} earlier last.session last.calls n) ∙ ap (λ k. put {O = numbers} (calls_in (Some last) es) k n) same
