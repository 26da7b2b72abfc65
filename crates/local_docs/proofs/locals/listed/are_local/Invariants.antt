-- So far each is.
use Rattle.std.proofs.Common.{All, take}
use Rattle.model.specs.Database.{IsLocal}
use Rattle.local_docs.proofs.locals.listed.are_local.Given as goal

abbrev pub invariant-loop-id : goal.invariant-loop-id
invariant-loop-id l = All (λ d. IsLocal d.0 d.1) (take l.id-index l.documents)
