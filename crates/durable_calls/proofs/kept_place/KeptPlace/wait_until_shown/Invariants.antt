use mathlib.Core.List.{IsPrefix}
use Rattle.durable_calls.proofs.kept_place.KeptPlace.wait_until_shown.Given as goal

-- what is known was learned since
abbrev pub invariant-loop : goal.invariant-loop
invariant-loop g l = IsPrefix (g.G.Progress.journaled l.fn.known) (g.G.Progress.journaled l.known)
