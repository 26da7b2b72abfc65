-- What a session may be answered, by what it learned.
use Rattle.std.specs.Prelude.{◌≡◌, ◌⊎◌, Result, Ok, Err, Option, None, IfErr, IsErrAnd, MatchResult, IsSome}
use Rattle.updater_state.specs.Outcomes.{Fate, StoodAt, NoPlaceLeft, NoMemory, LeftOut}
use Rattle.sessions.specs.Calls.{Told}
use Rattle.sessions.specs.declared.fault.Fault.{Fault}
use Rattle.sessions.specs.declared.fault.Fault.TheVariants as fault
use Rattle.updater_state.specs.declared.trying.Swapped.{Swapped}
use Rattle.updater_state.specs.declared.trying.Swapped.TheVariants as swapped

-- by what became of its job: an entry gives a receipt, or the session is lost
abbrev pub Answers : Fate → Result Told Fault → Type 0
Answers (StoodAt s) answer = IfErr answer (λ e. e ≡ fault.Lost)
Answers (NoPlaceLeft found) answer = IsErrAnd answer (λ e. (e ≡ fault.Full) ⊎ (e ≡ fault.Lost))
Answers NoMemory answer = answer ≡ Err fault.Memory
Answers LeftOut answer = answer ≡ Err fault.Lost

-- by how a try of its compaction ended, which is tried again where that was behind
abbrev pub AnswersTry : {J : Type 0} → Swapped J → Result (Option Told) Fault → Type 0
AnswersTry (swapped.Stood s) answer = MatchResult answer IsSome (λ e. e ≡ fault.Lost)
AnswersTry (swapped.Full found) answer = IsErrAnd answer (λ e. (e ≡ fault.Full) ⊎ (e ≡ fault.Lost))
AnswersTry swapped.Behind answer = answer ≡ Ok None
AnswersTry swapped.Overrun answer = answer ≡ Err fault.Overrun
AnswersTry swapped.Memory answer = answer ≡ Err fault.Memory
AnswersTry swapped.Lost answer = answer ≡ Err fault.Lost
