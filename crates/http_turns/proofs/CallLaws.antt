-- The calls of a session, one after another, and what it knows after them.
use Rattle.std.proofs.Common.{◌≡◌, ℕ, max, Bool, false, List, [], ◌∷◌, ◌++◌, Option, None, Some, Ok, Err, inl, inr, refl, sym, subst}
use Rattle.std.specs.Prelude.{Result, ⊤}
use Rattle.std.specs.List.{FoldsTo}
use Rattle.std.proofs.lemmas.Fn.{FoldsTo-push}
use Rattle.model.specs.Command.{Id}
use Rattle.model.specs.History.{IsLegal, base_of}
use Rattle.http_request.specs.declared.asked.Asked.{Asked as Asking}
use Rattle.http_request.specs.declared.asked.Asked.TheVariants as asked
use Rattle.http_request.specs.declared.changes.ChangesAsked.{ChangesAsked}
use Rattle.http_request.specs.declared.changes.Feed.{Feed}
use Rattle.http_request.specs.declared.changes.Feed.TheVariants as feed
use Rattle.session_api.specs.Learns.{Looks, Makes}
use Rattle.session_api.specs.SessionCall.{SessionCall, Refreshed, Wrote, Waited}
use Rattle.http_turns.specs.CallsOfRequest.{CarriesOut, EndsTurns, FindsNone, IsReading, LooksForChanges, MakesNone, MakesOnly, Polls, WaitsFor, WaitsTurn, WaitsWhereNone}
use Rattle.session_api.specs.Known.{Known, with_calls}
use Rattle.session_api.specs.declared.fault.CallFault.{CallFault}
use Rattle.session_api.proofs.Histories.{looks_itself, looks_only, looks_then}

-- it asks for an answer, at once or as changes come
abbrev pub IsQuery : Asking → Type 0
IsQuery asked.Welcome = ⊥
IsQuery (asked.Command form command) = ⊥
IsQuery (asked.Query query) = ⊤
IsQuery (asked.Changes changes) = ⊤

pub folds-append : {P A : Type 0} (R : P → A → P → Type 0) (xs ys : List A) (p q r : P) → FoldsTo R p xs q → FoldsTo R q ys r → FoldsTo R p (xs ++ ys) r
folds-append R [] ys p q r h k = subst (λ u. FoldsTo R u ys r) (sym h) k
folds-append R (x ∷ xs) ys p q r h k = (h.0, h.1, folds-append R xs ys h.0 q r h.2 k)

module _ {S : Type 0} (goes : S → SessionCall → S → Type 0) (known : S → Known) where
  abbrev Legal : S → Type 0
  Legal s = IsLegal (base_of (known s).base) (known s).seen

  abbrev Seeing : S → S → Type 0
  Seeing old new = Looks (known old) (known new)

  -- ---- what was seen

  pub looked : (old : S) (answer : Result ⊤ CallFault) (new : S) → Makes goes known old (Refreshed answer) new → Seeing old new
  looked old (Ok done) new makes = makes.learns.0
  looked old (Err why) new makes = makes.learns.0

  waited : (old : S) (seq turns : ℕ) (answer : Result Bool CallFault) (new : S) → Makes goes known old (Waited seq turns answer) new → Seeing old new
  waited old seq turns (Ok past) new makes = makes.learns.0
  waited old seq turns (Err why) new makes = makes.learns.0

  pub seen_itself : (old new : S) → Legal old → new ≡ old → Seeing old new
  seen_itself old new legal same = subst (λ (s : S). Seeing old s) (sym same) (looks_itself (known old) legal)

  module _ (cursor : ℕ) (ids : Option (List Id)) where
    turn_sees : (old : S) (call : SessionCall) (new : S) (answer : Result Bool CallFault) → WaitsTurn goes known cursor ids old call new answer → Seeing old new
    turn_sees old call new answer turn = waited old _ 1 turn.looked new (subst (λ (d : SessionCall). Makes goes known old d new) turn.call_is turn.makes)

    turns_see : (old : S) (passed : List SessionCall) (here : S) → Legal old → FoldsTo (FindsNone goes known cursor ids) old passed here → Seeing old here
    turns_see old [] here legal same = seen_itself old here legal (sym same)
    turns_see old (call ∷ passed) here legal (mid, turn, runs) =
        let first = turn_sees old call mid (Ok false) turn in
        looks_then (known old) (known mid) (known here) first (turns_see mid passed here first.legal runs)

    ended_sees : (most : ℕ) (old : S) (passed : List SessionCall) (here : S) (calls : List SessionCall) (new : S) (answer : Result Bool CallFault) → Seeing old here
        → EndsTurns goes known most cursor ids passed here calls new answer → Seeing old new
    ended_sees most old passed here calls new answer before (inl (enough, all, same, in_vain)) = subst (λ (s : S). Seeing old s) (sym same) before
    ended_sees most old passed here calls new answer before (inr (fewer, (call, all, turn), found)) =
        looks_then (known old) (known here) (known new) before (turn_sees here call new answer turn)

    turns_run : (old : S) (passed : List SessionCall) (here : S) → FoldsTo (FindsNone goes known cursor ids) old passed here → FoldsTo (Makes goes known) old passed here
    turns_run old [] here same = same
    turns_run old (call ∷ passed) here (mid, turn, runs) = (mid, turn.makes, turns_run mid passed here runs)

    ended_run : (most : ℕ) (old : S) (passed : List SessionCall) (here : S) (calls : List SessionCall) (new : S) (answer : Result Bool CallFault) → FoldsTo (Makes goes known) old passed here
        → EndsTurns goes known most cursor ids passed here calls new answer → FoldsTo (Makes goes known) old calls new
    ended_run most old passed here calls new answer runs (inl (enough, all, same, in_vain)) =
        subst (λ (s : S). FoldsTo (Makes goes known) old calls s) (sym same) (subst (λ (ds : List SessionCall). FoldsTo (Makes goes known) old ds here) (sym all) runs)
    ended_run most old passed here calls new answer runs (inr (fewer, (call, all, turn), found)) =
        subst (λ (ds : List SessionCall). FoldsTo (Makes goes known) old ds new) (sym all) (FoldsTo-push (Makes goes known) old passed here call new runs turn.makes)

  -- ---- one call, and a wait

  pub only_runs : (old : S) (call : SessionCall) (calls : List SessionCall) (new : S) → MakesOnly goes known old call calls new → FoldsTo (Makes goes known) old calls new
  only_runs old call calls new (is, makes) = subst (λ (ds : List SessionCall). FoldsTo (Makes goes known) old ds new) (sym is) (new, makes, refl)

  pub none_runs : (old : S) (calls : List SessionCall) (new : S) → MakesNone old calls new → FoldsTo (Makes goes known) old calls new
  none_runs old calls new (none, same) = subst (λ (ds : List SessionCall). FoldsTo (Makes goes known) old ds new) (sym none) (sym same)

  module _ (turns past cursor : ℕ) where
    pub wait_sees : (ids : Option (List Id)) (old : S) (calls : List SessionCall) (new : S) (answer : Result Bool CallFault) → Legal old
        → WaitsFor goes known turns past cursor ids old calls new answer → Seeing old new
    wait_sees None old calls new answer legal waits = waited old past turns answer new waits.1
    wait_sees (Some ids) old calls new answer legal waits =
        ended_sees cursor (Some ids) (max turns 1) old waits.passed waits.here calls new answer (turns_see cursor (Some ids) old waits.passed waits.here legal waits.runs) waits.ends

    pub wait_runs : (ids : Option (List Id)) (old : S) (calls : List SessionCall) (new : S) (answer : Result Bool CallFault)
        → WaitsFor goes known turns past cursor ids old calls new answer → FoldsTo (Makes goes known) old calls new
    wait_runs None old calls new answer waits = only_runs old (Waited past turns answer) calls new waits
    wait_runs (Some ids) old calls new answer waits =
        ended_run cursor (Some ids) (max turns 1) old waits.passed waits.here calls new answer (turns_run cursor (Some ids) old waits.passed waits.here waits.runs) waits.ends

  -- ---- what is asked

  module _ (turns : ℕ) where
    module _ (changes : ChangesAsked) where
      pub where_none_sees : (here : S) (waits : List SessionCall) (new : S) (answer : Result ℕ CallFault) → Legal here → WaitsWhereNone goes known turns changes here waits new answer → Seeing here new
      where_none_sees here waits new answer legal (inl (some, none, is)) = seen_itself here new legal none.1
      where_none_sees here waits new answer legal (inr (none, (waited, wait, is))) = wait_sees turns _ _ changes.ids here waits new waited legal wait

      where_none_runs : (here : S) (waits : List SessionCall) (new : S) (answer : Result ℕ CallFault) → WaitsWhereNone goes known turns changes here waits new answer → FoldsTo (Makes goes known) here waits new
      where_none_runs here waits new answer (inl (some, none, is)) = none_runs here waits new none
      where_none_runs here waits new answer (inr (none, (waited, wait, is))) = wait_runs turns _ _ changes.ids here waits new waited wait

      poll_sees : (old : S) (calls : List SessionCall) (new : S) (answer : Result ℕ CallFault) → Polls goes known turns changes old calls new answer → Seeing old new
      poll_sees old calls new answer (inl (why, only, is)) = looked old (Err why) new only.1
      poll_sees old calls new answer (inr (here, waits, all, makes, rest)) =
          let first = looked old (Ok tt) here makes in
          looks_then (known old) (known here) (known new) first (where_none_sees here waits new answer first.legal rest)

      poll_runs : (old : S) (calls : List SessionCall) (new : S) (answer : Result ℕ CallFault) → Polls goes known turns changes old calls new answer → FoldsTo (Makes goes known) old calls new
      poll_runs old calls new answer (inl (why, only, is)) = only_runs old (Refreshed (Err why)) calls new only
      poll_runs old calls new answer (inr (here, waits, all, makes, rest)) =
          subst (λ (ds : List SessionCall). FoldsTo (Makes goes known) old ds new) (sym all) (here, makes, where_none_runs here waits new answer rest)

      changes_see : (feed : Feed) (old : S) (calls : List SessionCall) (new : S) (answer : Result ℕ CallFault) → LooksForChanges goes known turns changes feed old calls new answer → Seeing old new
      changes_see feed.Normal old calls new answer (looked_so, only, is) = looked old looked_so new only.1
      changes_see feed.LongPoll old calls new answer polls = poll_sees old calls new answer polls
      changes_see feed.Continuous old calls new answer (looked_so, only, is) = looked old looked_so new only.1

      changes_run : (feed : Feed) (old : S) (calls : List SessionCall) (new : S) (answer : Result ℕ CallFault) → LooksForChanges goes known turns changes feed old calls new answer
          → FoldsTo (Makes goes known) old calls new
      changes_run feed.Normal old calls new answer (looked_so, only, is) = only_runs old (Refreshed looked_so) calls new only
      changes_run feed.LongPoll old calls new answer polls = poll_runs old calls new answer polls
      changes_run feed.Continuous old calls new answer (looked_so, only, is) = only_runs old (Refreshed looked_so) calls new only

    pub carried_runs : (asking : Asking) (old : S) (calls : List SessionCall) (new : S) (answer : Result ℕ CallFault) → CarriesOut goes known turns asking old calls new answer
        → FoldsTo (Makes goes known) old calls new
    carried_runs asked.Welcome old calls new answer carried = absurd carried
    carried_runs (asked.Command form command) old calls new answer carried = only_runs old (Wrote command answer) calls new carried
    carried_runs (asked.Query query) old calls new answer (looked_so, only, is) = only_runs old (Refreshed looked_so) calls new only
    carried_runs (asked.Changes changes) old calls new answer carried = changes_run changes changes.feed old calls new answer carried

    pub read_sees : (asking : Asking) (old : S) (calls : List SessionCall) (new : S) (answer : Result ℕ CallFault) → IsReading asking → CarriesOut goes known turns asking old calls new answer
        → Looks (known old) (known new)
    read_sees asked.Welcome old calls new answer reading carried = absurd carried
    read_sees (asked.Command form command) old calls new answer reading carried = absurd reading
    read_sees (asked.Query query) old calls new answer reading (looked_so, only, is) = looked old looked_so new only.1
    read_sees (asked.Changes changes) old calls new answer reading carried = changes_see changes changes.feed old calls new answer carried

    -- a query that has no answer leaves no entry
    pub refused_sees : (asking : Asking) (old : S) (calls : List SessionCall) (new : S) (why : CallFault) → IsQuery asking → CarriesOut goes known turns asking old calls new (Err why)
        → Looks (with_calls (known old) (known new).pushes (known new).lost) (known new)
    refused_sees asked.Welcome old calls new why query carried = absurd carried
    refused_sees (asked.Command form command) old calls new why query carried = absurd query
    refused_sees (asked.Query query) old calls new why is_query (looked_so, only, is) = looks_only (known old) (known new) (looked old looked_so new only.1)
    refused_sees (asked.Changes changes) old calls new why query carried = looks_only (known old) (known new) (changes_see changes changes.feed old calls new (Err why) carried)
