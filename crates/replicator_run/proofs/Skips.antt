-- How an end goes that skips documents.
use Rattle.std.proofs.Common.{inl, inr}
use Rattle.replicator.specs.Call.{Call}
use Rattle.replicator_run.specs.Skipped.{IsUnasked, Skips, with_page}

-- it goes as from the state before, where each call of the end goes so
pub under : {E : Type 0} (goes : E → Call → E → Type 0) (old mid after : E) (call : Call) → IsUnasked goes old mid → Skips goes mid call after → Skips goes old call after
under goes old mid after call each (inl (went, is)) = inl (each call after went, is)
under goes old mid after call each (inr (inl (full, went, passed))) = inr (inl (full, each (with_page full call) after went, passed))
under goes old mid after call each (inr (inr (unasked, is))) = inr (inr ((λ k later went. each k later (unasked k later went)), is))
