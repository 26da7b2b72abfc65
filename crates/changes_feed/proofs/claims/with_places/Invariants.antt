-- So far those of the leaves that were passed.
use Rattle.std.proofs.Common.{◌≡◌, ℕ, map, take}
use Rattle.model.specs.Revision.{Rev}
use Rattle.changes_feed.proofs.claims.with_places.Given as goal

abbrev pub invariant-loop-leaf : goal.invariant-loop-leaf
invariant-loop-leaf l = (g : Rev → ℕ) → l.firsts ≡ map (λ n. g n.rev) l.nodes → l.placed.items ≡ map (λ r. (r, g r)) (take l.leaf-index l.leaves)
