-- How the requests of a connection were decided and served.
use Rattle.std.specs.Prelude.{◌≡◌, List, map, All, ⊤}
use Rattle.std.specs.List.{FoldsTo}
use Rattle.streams.specs.Streams.{Streams}
use Rattle.http_connection.specs.Turn.{Turn, all_turns}
use Rattle.http_connection.specs.Served.{Served}
use Rattle.http_connection.specs.declared.outcome.Ended.{Ended}
use Rattle.origin_policy.specs.declared.policy.Policy.{Policy}
use Rattle.http_guard.specs.Passage.{KeepsWhole, Passage, SplitsDecided, turn_of, turns_taken}

-- any turn of what has no state
abbrev pub AnyTurn : Unit {0} → Turn → Unit {0} → Type 0
AnyTurn old turn new = ⊤

-- a service took these turns as it takes those of a connection on which nothing else is
pub record ServedAlone {T : Type 0} (answers : T → Turn → T → Type 0) (taken : List Turn) (old new : T) : Type 0 where
  pub before : Streams
  pub after : Streams
  pub ended : Ended
  pub served : Served answers before after old new ended
  pub turns_are : all_turns served.turns served.cut ≡ taken

-- A connection was served whose requests were decided by a policy. It is one as without a policy, but that its turns are those of what
-- became of the items: the service took the turns of what passed, and no other.
pub record Guarded {T : Type 0} (policy : Policy) (answers : T → Turn → T → Type 0) (before after : Streams) (old new : T) (ended : Ended) : Type 0 where
  pub passages : List Passage
  pub served : Served AnyTurn before after tt tt ended
  pub turns_are : all_turns served.turns served.cut ≡ map turn_of passages
  pub decided : SplitsDecided policy served.read passages served.rest
  pub runs : FoldsTo answers old (turns_taken passages) new
  pub keep_whole : All KeepsWhole passages
  pub alone : ServedAlone answers (turns_taken passages) old new
