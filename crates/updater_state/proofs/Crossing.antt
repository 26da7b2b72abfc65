-- What may cross threads: what the updater holds.
use denote.RattleType.{RattleType}
use denote.Param.Send.{IsSend, sendable}
use Rattle.commands.proofs.Crossing as commands
use Rattle.version_log.proofs.Crossing as publications
use Rattle.version_log.specs.declared.front.Naming as Naming
use Rattle.snapshots.proofs.Crossing as versions
use Rattle.std.proofs.Crossing as std
use Rattle.job_queue.proofs.Crossing as turns
use Rattle.job_queue.specs.declared.queue.Queued as Queued
use Rattle.updater_state.specs.contracts.answer.Answer as Answer
use Rattle.updater_state.specs.contracts.answer.Filled as Filled
use Rattle.updater_state.specs.contracts.caller.Caller as Caller
use Rattle.updater_state.specs.contracts.draft.Draft as Draft
use Rattle.updater_state.specs.contracts.locked.Core as Core
use Rattle.updater_state.specs.contracts.outcome.Outcome as Outcome
use Rattle.updater_state.specs.declared.naming.Opening as Opening
use Rattle.updater_state.specs.contracts.told.Told as Told

ruleset parts = (commands.crosses, publications.crosses, turns.crosses, std.crosses, sendable)

draft-send : IsSend Draft.the_row
draft-send = search (versions.crosses, parts) depth 60

module _ (J : RattleType) (q : Queued.Ghosts J.Denot) (o : Opening.Ghosts J.Denot) (n : Naming.Ghosts J.Denot) where
  answer-send : IsSend (Answer.the_row J n)
  answer-send = search parts depth 60

  filled-send : IsSend (Filled.the_row J o n q)
  filled-send = search parts depth 60

  outcome-send : IsSend (Outcome.the_row J o n q)
  outcome-send = search (answer-send, filled-send, parts) depth 60

  pub told-send : IsSend (Told.the_row J o n q)
  told-send = search (outcome-send, parts) depth 60

  pub caller-send : IsSend (Caller.the_row J o n q)
  caller-send = search parts depth 60

  pub core-send : (R : RattleType) → IsSend R → IsSend (Core.the_row R J n o q)
  core-send R r = search (outcome-send, draft-send, parts) depth 60
