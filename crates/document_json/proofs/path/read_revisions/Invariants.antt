use Rattle.std.proofs.Common.{◌≡◌, drop}
use Rattle.serde_json.specs.View.{items_view}
use Rattle.document_json.specs.Path.{revs_down}
use Rattle.document_json.proofs.Paths.{after}
use Rattle.document_json.proofs.path.read_revisions.Given as goal

-- the revisions so far, before those of the hashes that are left
abbrev pub invariant-loop-hash : goal.invariant-loop-hash
invariant-loop-hash l =
    revs_down l.fn.newest (items_view l.hashes) ≡ after l.revisions.items (revs_down l.generation (items_view (drop l.hash-index l.hashes)))
