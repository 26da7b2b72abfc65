use Rattle.std.proofs.Common.{◌≡◌, take}
use Rattle.commands.proofs.same.are_same.Given as goal

-- so far both have the same items
abbrev pub invariant-loop-place : goal.invariant-loop-place
invariant-loop-place g l = take l.place l.mine ≡ take l.place l.theirs
