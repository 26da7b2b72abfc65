use Rattle.std.proofs.Common.{◌≡◌, length, slice_get}
use Rattle.shared_list.proofs.spine.Spine.get.Given as goal

abbrev pub invariant-loop-link : goal.invariant-loop-link
invariant-loop-link g l = slice_get l.at.0 l.place ≡ slice_get l.self.0 l.initial.place

abbrev pub decreases-loop-link : goal.decreases-loop-link
decreases-loop-link g l = length l.at.1
