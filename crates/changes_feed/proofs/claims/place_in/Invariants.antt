-- None has passed so far.
use Rattle.std.proofs.Common.{◌≡◌, ◌+◌, drop}
use Rattle.model.specs.Revision.{same_rev}
use Rattle.changes_feed.specs.Latest.{first_place}
use Rattle.changes_feed.proofs.claims.place_in.Given as goal

abbrev pub invariant-loop-place : goal.invariant-loop-place
invariant-loop-place l = first_place (λ a. same_rev a l.fn.rev) l.revs ≡ l.place + first_place (λ a. same_rev a l.fn.rev) (drop l.place l.revs)
