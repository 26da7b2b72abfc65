-- So far events have happened, each of which dropped one of the requests that were ahead.
use Rattle.std.proofs.Common.{◌≡◌, ◌+◌, List, length}
use Rattle.std.specs.List.{FoldsTo}
use Rattle.replicator_http.specs.Ahead.{Event, Happens}
use Rattle.replicator_http.proofs.peer.HttpPeer.drop_ahead.Given as goal

abbrev pub invariant-loop-dropped : goal.invariant-loop-dropped
invariant-loop-dropped g l = record {
  happens : (events : List Event) × FoldsTo Happens l.fn.self events l.self;
  count : length l.self.ahead + l._dropped ≡ l.fn.len;
  failures : l.self.failed_calls ≡ l.fn.self.failed_calls;
}
