-- Why a write is refused, as an answer reports it.
use Rattle.std.specs.Prelude.{ℕ, List, codes}
use Rattle.model.specs.declared.refusal.Refusal.{Refusal}
use Rattle.model.specs.declared.refusal.Refusal.TheVariants as refusal

abbrev pub write_error : Refusal → List ℕ
write_error refusal.Conflict = codes "conflict"
write_error refusal.BadHistory = codes "bad_history"
write_error refusal.Missing = codes "not_found"
write_error refusal.Deleted = codes "not_found"
write_error refusal.GenerationLimit = codes "generation"

abbrev pub write_reason : Refusal → List ℕ
write_reason refusal.Conflict = codes "Document update conflict."
write_reason refusal.BadHistory = codes "A known revision has another parent."
write_reason refusal.Missing = codes "missing"
write_reason refusal.Deleted = codes "deleted"
write_reason refusal.GenerationLimit = codes "The generation limit is reached."
