-- The commands of an end, and what their replies say.
use Rattle.std.specs.Prelude.{ℕ, Bool, false, is_ok, Option, Some, None, Ok, Err}
use Rattle.std.specs.List.{list_all}
use Rattle.model.specs.Command.{Id, Command, PutLocal, Reply, Wrote, WroteLocal, Purged, Done}
use Rattle.session_peer.specs.Checkpoints.{checkpoint_body}

-- whether each merge was taken
abbrev pub are_taken : Reply → Bool
are_taken (Wrote replies) = list_all is_ok replies
are_taken (WroteLocal reply) = false
are_taken (Purged purge_seq removed) = false
are_taken Done = false

-- the number of the local document's revision that was written
abbrev pub counter_in : Reply → Option ℕ
counter_in (Wrote replies) = None
counter_in (WroteLocal (Ok counter)) = Some counter
counter_in (WroteLocal (Err refusal)) = None
counter_in (Purged purge_seq removed) = None
counter_in Done = None

-- the write of a checkpoint
abbrev pub put_checkpoint : Id → Option ℕ → ℕ → Command
put_checkpoint id named last_seq = PutLocal id named (Some (checkpoint_body last_seq))
