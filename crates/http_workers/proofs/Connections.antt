-- Connections and visits of a worker, one more.
use Rattle.std.proofs.Common.{◌≡◌, ℕ, zero, suc, ◌+◌, ◌≤◌, List, [], ◌∷◌, ◌++◌, length, Option, None, Some, Bool, true, false, refl, subst, ◌∙◌, arith, length-append}
use Rattle.std.specs.Prelude.{◌<◌, ⊤, Result, IsSome}
use Rattle.std.specs.List.{FoldsTo}
use Rattle.std.proofs.lemmas.Fn.{FoldsTo-push}
use Rattle.http_connection.specs.declared.outcome.Ended.{Ended}
use Rattle.session_api.specs.SessionCall.{SessionCall}
use Rattle.session_api.specs.Known.{Known}
use Rattle.session_api.specs.declared.fault.CallFault.{CallFault}
use Rattle.http_workers.specs.Worker.{Accepts, CatchesUp, Serves, ServesUntil, ServesVisits, ServesWhole, Visit, Visits, most_connections}

module _ {S : Type 0} (goes : S → SessionCall → S → Type 0) (known : S → Known) (turns : ℕ) where
  -- so many connections, with those that could not be accepted, took a session from one state to another
  abbrev pub Accepted : ℕ → S → S → Type 0
  Accepted n old new = (accepted : List (Option Ended)) × FoldsTo (Accepts goes known turns) old accepted new × (length accepted ≡ n)

  pub one_more : (n : ℕ) (old mid new : S) (one : Option Ended) → Accepted n old mid → Accepts goes known turns mid one new → Accepted (n + 1) old new
  one_more n old mid new one (accepted, runs, count) accepts =
      (accepted ++ one ∷ [], FoldsTo-push (Accepts goes known turns) old accepted mid one new runs accepts, omega (arith, count, length-append accepted (one ∷ [])))

  -- a connection that was accepted is a visit of one that nobody answered before
  visit_of : S → Ended → Visit
  visit_of new ended = record { came = 0; ended = Some ended; left = length (known new).seen; goes_on = false }

  is_visit : (old new : S) (ended : Ended) → Serves goes known turns old ended new → Visits goes known turns old (visit_of new ended) new
  unfolding visit_of
  is_visit old new ended serves = record { looked = None; mid = old; catches_up = refl; served = (omega arith, serves, refl); whole = λ none. absurd (cc); returned = tt }

  visits_of : (accepted : List (Option Ended)) (old new : S) → FoldsTo (Accepts goes known turns) old accepted new → ServesVisits goes known turns old new
  visits_of [] old new runs = record { visits = []; runs = runs }
  visits_of (Some ended ∷ accepted) old new (mid, serves, runs) =
      let rest = visits_of accepted mid new runs in
      record { visits = visit_of mid ended ∷ rest.visits; runs = (mid, is_visit old mid ended serves, rest.runs) }
  visits_of (None ∷ accepted) old new (mid, same, runs) =
      let rest = visits_of accepted mid new runs in
      record { visits = rest.visits; runs = subst (λ (s : S). FoldsTo (Visits goes known turns) s rest.visits new) same rest.runs }

  -- all were accepted, whether or not a flag may have ended them early
  pub served_all : {F : Type 0} (over : Option F) (n connections : ℕ) (old new : S) → Accepted n old new → n ≡ most_connections connections → ServesUntil goes known turns over connections old new
  served_all None n zero old new (accepted, runs, count) all = visits_of accepted old new runs
  served_all None n (suc m) old new (accepted, runs, count) all = record { accepted = accepted; runs = runs; all = count ∙ all }
  served_all (Some over) n zero old new (accepted, runs, count) all = visits_of accepted old new runs
  served_all (Some over) n (suc m) old new (accepted, runs, count) all = record { accepted = accepted; runs = runs; some = omega (arith, count, all) }

  -- a flag ended them early
  pub served_some : {F : Type 0} (over : Option F) (n connections : ℕ) (old new : S) → IsSome over → Accepted n old new → n ≤ most_connections connections → ServesUntil goes known turns over connections old new
  served_some None n connections old new there served within = absurd (cc)
  served_some (Some over) n zero old new there (accepted, runs, count) within = visits_of accepted old new runs
  served_some (Some over) n (suc m) old new there (accepted, runs, count) within = record { accepted = accepted; runs = runs; some = omega (arith, count, within) }

  -- visits took a session from one state to another
  abbrev pub Visited : S → S → Type 0
  Visited old new = ServesVisits goes known turns old new

  pub none_yet : (s : S) → Visited s s
  none_yet s = record { visits = []; runs = refl }

  pub visit_more : (old mid new : S) (visit : Visit) → Visited old mid → Visits goes known turns mid visit new → Visited old new
  visit_more old mid new visit served visits =
      record { visits = served.visits ++ visit ∷ []; runs = FoldsTo-push (Visits goes known turns) old served.visits mid visit new served.runs visits }

  -- visits, where no number of connections is asked for
  pub served_visits : {F : Type 0} (over : Option F) (connections : ℕ) (old new : S) → connections ≡ 0 → Visited old new → ServesUntil goes known turns over connections old new
  served_visits None zero old new none visited = visited
  served_visits None (suc m) old new none visited = absurd (omega (arith, none))
  served_visits (Some over) zero old new none visited = visited
  served_visits (Some over) (suc m) old new none visited = absurd (omega (arith, none))

  -- what was served where no number of connections is asked for are visits
  pub visits_until : {F : Type 0} (over : Option F) (connections : ℕ) (old new : S) → connections ≡ 0 → ServesUntil goes known turns over connections old new → Visited old new
  visits_until None zero old new none served = served
  visits_until None (suc m) old new none served = absurd (omega (arith, none))
  visits_until (Some over) zero old new none served = served
  visits_until (Some over) (suc m) old new none served = absurd (omega (arith, none))

  -- a session that may have looked, and then has seen enough, served a connection
  pub answered : (old mid new : S) (looked : Option (Result ⊤ CallFault)) (came told left : ℕ) (goes_on : Bool) (ended : Ended) → told ≡ came → CatchesUp goes known old looked mid
      → told ≤ length (known mid).seen → Serves goes known turns mid ended new → (goes_on ≡ true → ServesWhole goes known turns mid new) → left ≡ length (known new).seen
      → Visits goes known turns old (record { came = came; ended = Some ended; left = left; goes_on = goes_on }) new
  answered old mid new looked came told left goes_on ended came_is catches_up enough serves whole left_is =
      record { looked = looked; mid = mid; catches_up = catches_up; served = (omega (arith, came_is, enough), serves, left_is); whole = whole; returned = tt }

  -- or it has seen too little, and the connection was returned as it was
  pub passed_on : (old mid : S) (looked : Option (Result ⊤ CallFault)) (came told : ℕ) → told ≡ came → CatchesUp goes known old looked mid → length (known mid).seen < told
      → Visits goes known turns old (record { came = came; ended = None; left = came; goes_on = true }) mid
  passed_on old mid looked came told came_is catches_up little =
      record { looked = looked; mid = mid; catches_up = catches_up; served = tt; whole = tt; returned = (omega (arith, came_is, little), refl, refl, refl) }
