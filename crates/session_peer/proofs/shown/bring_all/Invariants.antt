use Rattle.std.proofs.Common.{◌≡◌}
use Rattle.std.specs.Vec.Iter.{into_iter_items}
use Rattle.session_peer.specs.Shown.{ShowPaths, all_brought}
use Rattle.session_peer.proofs.shown.bring_all.Given as goal

abbrev pub invariant-loop-one : goal.invariant-loop-one
invariant-loop-one l = record {
  given : l.given.items ≡ all_brought l.yielded;
  paths : ShowPaths (into_iter_items l.one-iterator);
}
