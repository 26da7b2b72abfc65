-- Each session keeps its place for an outcome.
use Rattle.std.proofs.Common.{◌≡◌, ℕ, zero, suc, true≢false, List, [], ◌∷◌, length, Option, Some, None, is_some, slice_set, refl, ap, sym, ◌∙◌}
use Rattle.std.proofs.lemmas.List.{length-set}
use Rattle.model.specs.Command.{Entry, Job}
use Rattle.updater_state.specs.Outcomes.{Fate, told, outcome_of, GivesUp, none_left, next}
use Rattle.updater_state.specs.State.{State, after_taking}

pub length-told : (outcomes : List (Option Fate)) (session : ℕ) (fate : Fate) → length (told outcomes session fate) ≡ length outcomes
length-told outcomes session fate = length-set outcomes session (Some fate)

pub length-given_up : (max : ℕ) (published : List (List Entry)) (jobs : List Job) (old new : List (Option Fate)) → GivesUp max published jobs old new → length new ≡ length old
length-given_up max published _ old _ (none_left _) = refl
length-given_up max published _ old new (next job jobs fate _ _ is rest) = length-given_up max published jobs (told old job.seat.session fate) new rest ∙ length-told old job.seat.session fate

emptied : (outcomes : List (Option Fate)) (session : ℕ) → outcome_of outcomes session ≡ None → slice_set outcomes session None ≡ outcomes
emptied [] session none = refl
emptied (None ∷ outcomes) zero none = refl
emptied (Some fate ∷ outcomes) zero none = absurd (true≢false (ap is_some none))
emptied (outcome ∷ outcomes) (suc session) none = ap (λ l. outcome ∷ l) (emptied outcomes session none)

-- where a session has no outcome, taking it changes nothing
pub takes_none : (s : State) (session : ℕ) → outcome_of s.outcomes session ≡ None → s ≡ after_taking s session
takes_none s session none = ap (λ l. record s { outcomes = l }) (sym (emptied s.outcomes session none))
