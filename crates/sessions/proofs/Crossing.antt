-- What may cross threads: a session, as its gate may, and the runtime of what the updater holds.
use denote.RattleType.{RattleType}
use denote.Param.Send.{IsSend, IsSync, sendable}
use Rattle.crossbeam_utils.proofs.cache_padded.CachePadded.TheSendSync as CachePadded
use Rattle.version_log.proofs.Crossing as publications
use Rattle.version_log.specs.declared.front.Naming as Naming
use Rattle.sessions.specs.contracts.mailboxes.Mailbox as Mailbox
use Rattle.sessions.specs.contracts.mailboxes.Mailboxes as Mailboxes
use Rattle.sessions.specs.contracts.session.Session as Session
use Rattle.sessions.specs.contracts.shared.Shared as Shared
use Rattle.snapshots.proofs.Crossing as versions
use Rattle.std.specs.contracts.option.Option as Option
use Rattle.std.specs.contracts.sync.Mutex as Mutex
use Rattle.std.proofs.Crossing as std
use Rattle.job_queue.proofs.Crossing as turns
use Rattle.job_queue.specs.declared.queue.Queued as Queued
use Rattle.updater_state.specs.contracts.told.Told as Told
use Rattle.updater_state.proofs.Crossing.{caller-send, core-send, told-send}
use Rattle.updater_state.specs.contracts.locked.Core as Core
use Rattle.updater_state.specs.declared.naming.Opening as Opening

ruleset parts = (CachePadded.the_field_send, CachePadded.the_field_sync, publications.crosses, turns.crosses, versions.crosses)

-- A slot that may hold a value, as the value may. Of any type, since a search compares types by what they are made of.
module _ (T : RattleType) where
  may-send : IsSend T → IsSend (Mutex.the_row (Option.the_row T))
  may-send t = search (std.crosses, sendable) depth 60

  may-sync : IsSend T → IsSync (Mutex.the_row (Option.the_row T))
  may-sync t = search (std.crosses, sendable) depth 60

module _ (J : RattleType) (q : Queued.Ghosts J.Denot) (o : Opening.Ghosts J.Denot) (n : Naming.Ghosts J.Denot) where
  slot-send : IsSend (Mutex.the_row (Option.the_row (Told.the_row J o n q)))
  slot-send = may-send (Told.the_row J o n q) (told-send J q o n)

  slot-sync : IsSync (Mutex.the_row (Option.the_row (Told.the_row J o n q)))
  slot-sync = may-sync (Told.the_row J o n q) (told-send J q o n)

  box-send : IsSend (Mailbox.the_row J o n q)
  box-send = search (slot-send, std.crosses, sendable) depth 60

  box-sync : IsSync (Mailbox.the_row J o n q)
  box-sync = search (slot-sync, std.crosses, sendable) depth 60

  boxes-send : IsSend (Mailboxes.the_field J o n q).row
  boxes-send = search (box-send, parts) depth 60

  boxes-sync : IsSync (Mailboxes.the_field J o n q).row
  boxes-sync = search (box-sync, parts) depth 60

  module _ (C G : RattleType) where
    shared-send : IsSend C → IsSend G → IsSend (Shared.the_row C J G o n q)
    shared-send c g = search (boxes-send, parts) depth 60

    shared-sync : IsSend C → IsSync G → IsSync (Shared.the_row C J G o n q)
    shared-sync c g = search (boxes-sync, parts) depth 60

    over-send : IsSend C → IsSend G → IsSync G → IsSend (Session.the_row C J G o n q)
    over-send c g h = search (shared-send, shared-sync, caller-send, parts) depth 60

  -- A search finds it soon where J and what follows it are given.
  pub session-send : (R G : RattleType) → IsSend R → IsSend G → IsSync G → IsSend (Session.the_row (Core.the_row R J n o q) J G o n q)
  session-send R G r g h = over-send (Core.the_row R J n o q) G (core-send J q o n R r) g h
