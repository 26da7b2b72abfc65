-- No two revisions have one text, and none has the name of a refusal.
use Rattle.std.proofs.Common.{◌≡◌, ◌∷◌, Option, Some, None, length, length-append, decimal, arith, sym, ap, ◌∙◌, refl}
use Rattle.hex.specs.Hex.{encode_lower, lower_digits}
use Rattle.hex.proofs.HexLemmas.{length-encode_with}
use Rattle.model.specs.declared.refusal.Refusal.{Refusal}
use Rattle.model.specs.declared.refusal.Refusal.TheVariants.{Conflict, BadHistory, Missing, Deleted, GenerationLimit}
use Rattle.model.specs.Revision.{Rev, IsRev, rev_text}
use Rattle.document_json.proofs.RevisionTexts.{rev_named-is}
use Rattle.history_json.specs.Replies.{refusal_name}

or_else : Rev → Option Rev → Rev
or_else other None = other
or_else other (Some rev) = rev

pub rev_text-once : (a b : Rev) → IsRev a → IsRev b → rev_text a ≡ rev_text b → a ≡ b
unfolding or_else
rev_text-once a b is_a is_b same = ap (or_else a) (sym (rev_named-is a (rev_text b) is_a same) ∙ rev_named-is b (rev_text b) is_b refl)

pub no_name : (rev : Rev) (refusal : Refusal) → IsRev rev → rev_text rev ≡ refusal_name refusal → ⊥
no_name rev refusal is same =
    let size = is.size in
    let digits = length-encode_with lower_digits rev.hash in
    let whole = length-append (decimal rev.generation) (45 ∷ encode_lower rev.hash) in
    let short = two refusal in
    let equal = ap length same in
    omega (arith, size, digits, whole, short, equal)
  where
    two : (r : Refusal) → length (refusal_name r) ≡ 2
    two Conflict = refl
    two BadHistory = refl
    two Missing = refl
    two Deleted = refl
    two GenerationLimit = refl
