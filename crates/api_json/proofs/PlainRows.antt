-- What answers list has no float.
use Rattle.std.proofs.Common.{◌≡◌, List, [], ◌∷◌, false, refl}
use Rattle.serde_json.specs.Written.{has_float, members_have_float}
use Rattle.model.specs.Query.{Difference}
use Rattle.model.specs.Revision.{Rev, rev_text}
use Rattle.api_json.specs.Differences.{ancestors_last, difference_data}
use Rattle.document_json.proofs.Floats.{neither, no_float-texts}
use Rattle.document_json.specs.Written.{revs_data}

no_float-ancestors_last : (revs : List Rev) → members_have_float (ancestors_last revs) ≡ false
no_float-ancestors_last [] = refl
no_float-ancestors_last (rev ∷ revs) = neither _ _ (no_float-texts rev_text (rev ∷ revs)) refl

pub no_float-revs : (revs : List Rev) → has_float (revs_data revs) ≡ false
no_float-revs revs = no_float-texts rev_text revs

pub no_float-difference : (d : Difference) → has_float (difference_data d) ≡ false
no_float-difference d = neither _ _ (no_float-texts rev_text d.missing) (no_float-ancestors_last d.possible_ancestors)
