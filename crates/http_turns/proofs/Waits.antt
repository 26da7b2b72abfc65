-- A wait for some documents, turn by turn.
use Rattle.std.proofs.Common.{◌≡◌, ℕ, ◌+◌, ◌<◌, List, [], ◌∷◌, ◌++◌, length, Option, Bool, true, false, Ok, max, inl, inr, refl, ap, sym, ◌∙◌, subst, arith, length-append}
use Rattle.std.specs.Prelude.{Result}
use Rattle.std.specs.List.{FoldsTo}
use Rattle.std.proofs.lemmas.Fn.{FoldsTo-push}
use Rattle.model.specs.Command.{Id}
use Rattle.model.specs.History.{now}
use Rattle.http_turns.specs.ChangesWanted.{has_changes}
use Rattle.session_api.specs.SessionCall.{SessionCall, Waited}
use Rattle.http_turns.specs.CallsOfRequest.{FindsNone, WaitsTurn, WaitsTurns, found_by}
use Rattle.session_api.specs.Learns.{Makes}
use Rattle.session_api.specs.Known.{Known, history_of, update_seq_of}
use Rattle.session_api.specs.declared.fault.CallFault.{CallFault}

module _ {S : Type 0} (goes : S → SessionCall → S → Type 0) (known : S → Known) where
  -- a turn, by its look past what was seen
  pub turn_by : (cursor : ℕ) (ids : Option (List Id)) (old : S) (seen : ℕ) (looked : Result Bool CallFault) (new : S) (answer : Result Bool CallFault) → seen ≡ update_seq_of (known old)
      → Makes goes known old (Waited seen 1 looked) new → answer ≡ found_by cursor ids (known old) (known new) looked → (call : SessionCall) × WaitsTurn goes known cursor ids old call new answer
  turn_by cursor ids old seen looked new answer is makes answer_is =
      (Waited seen 1 looked, record { looked = looked; call_is = ap (λ (n : ℕ). Waited n 1 looked) is; makes = makes; answer_is = answer_is })

  -- what a turn finds
  pub found_at : (cursor : ℕ) (ids : Option (List Id)) (old : S) (seen : ℕ) (past : Bool) (new : S) (most : ℕ) (found : Bool) → seen ≡ update_seq_of (known old) → most ≡ max cursor seen
      → found ≡ has_changes (now (history_of (known new))) most ids → past ≡ true → (let r : Result Bool CallFault = Ok found in r ≡ found_by cursor ids (known old) (known new) (Ok past))
  found_at cursor ids old seen past new most found is most_is found_is came =
      subst (λ (p : Bool). let r : Result Bool CallFault = Ok found in r ≡ found_by cursor ids (known old) (known new) (Ok p)) (sym came)
      (ap Ok (found_is ∙ ap (λ (n : ℕ). has_changes (now (history_of (known new))) n ids) (most_is ∙ ap (max cursor) is)))

  pub found_none : (cursor : ℕ) (ids : Option (List Id)) (old new : S) (past : Bool) → past ≡ false → (let r : Result Bool CallFault = Ok false in r ≡ found_by cursor ids (known old) (known new) (Ok past))
  found_none cursor ids old new past none = subst (λ (p : Bool). let r : Result Bool CallFault = Ok false in r ≡ found_by cursor ids (known old) (known new) (Ok p)) (sym none) refl

module _ {S : Type 0} (goes : S → SessionCall → S → Type 0) (known : S → Known) (cursor : ℕ) (ids : Option (List Id)) where
  -- so many turns with which none of the documents came
  abbrev pub Passed : ℕ → S → S → Type 0
  Passed n old here = (passed : List SessionCall) × FoldsTo (FindsNone goes known cursor ids) old passed here × (length passed ≡ n)

  pub one_more_turn : (n : ℕ) (old here new : S) → Passed n old here → (call : SessionCall) × WaitsTurn goes known cursor ids here call new (Ok false) → Passed (n + 1) old new
  one_more_turn n old here new (passed, runs, count) (call, turn) =
      (passed ++ call ∷ [], FoldsTo-push (FindsNone goes known cursor ids) old passed here call new runs turn, omega (arith, count, length-append passed (call ∷ [])))

  pub enough_turns : (most : ℕ) (old here : S) → Passed most old here → (calls : List SessionCall) × WaitsTurns goes known most cursor ids old calls here (Ok false)
  enough_turns most old here (passed, runs, count) = (passed, record { passed = passed; here = here; runs = runs; ends = inl (count, refl, refl, refl) })

  pub last_turn : (n most : ℕ) (old here new : S) (answer : Result Bool CallFault) → n < most → Passed n old here → (call : SessionCall) × WaitsTurn goes known cursor ids here call new answer → (answer ≡ Ok false → ⊥)
      → (calls : List SessionCall) × WaitsTurns goes known most cursor ids old calls new answer
  last_turn n most old here new answer less (passed, runs, count) (call, turn) found =
      (passed ++ call ∷ [], record { passed = passed; here = here; runs = runs; ends = inr (omega (arith, less, count), (call, refl, turn), found) })
