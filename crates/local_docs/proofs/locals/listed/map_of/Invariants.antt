-- So far the documents that were put.
use Rattle.std.proofs.Common.{◌≡◌}
use Rattle.local_docs.proofs.locals.listed.map_of.Given as goal

abbrev pub invariant-loop-id : goal.invariant-loop-id
invariant-loop-id l = l.map.entries ≡ l.yielded
