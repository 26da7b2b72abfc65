-- A document with no float in its body has none.
use Rattle.std.proofs.Common.{◌≡◌, ℕ, List, [], ◌∷◌, map, Bool, true, false, true≢false, ◌||◌, refl}
use Rattle.serde_json.specs.Data.{string}
use Rattle.serde_json.specs.View.{items_of}
use Rattle.serde_json.specs.Written.{has_float, items_have_float}
use Rattle.model.specs.declared.status.Status.{Status}
use Rattle.hex.specs.Hex.{encode_lower}
use Rattle.model.specs.Revision.{Rev, rev_text}
use Rattle.document_json.specs.Written.{revs_data, info_data, infos_data, revisions_data}

pub neither : (a b : Bool) → a ≡ false → b ≡ false → (a || b) ≡ false
neither false b p q = q
neither true b p q = absurd (true≢false p)

-- ---- lists

pub no_float-texts : (f : Rev → List ℕ) (revs : List Rev) → items_have_float (items_of (map (λ r. string (f r)) revs)) ≡ false
no_float-texts f [] = refl
no_float-texts f (rev ∷ revs) = no_float-texts f revs

no_float-items : (infos : List (Rev × Status)) → items_have_float (items_of (map info_data infos)) ≡ false
no_float-items [] = refl
no_float-items (info ∷ infos) = no_float-items infos

-- ---- the values of a document

pub no_float-revs : (revs : List Rev) → has_float (revs_data revs) ≡ false
no_float-revs revs = no_float-texts rev_text revs

pub no_float-revisions : (revs : List Rev) → has_float (revisions_data revs) ≡ false
no_float-revisions revs = neither _ _ (no_float-texts (λ r. encode_lower r.hash) revs) refl

pub no_float-infos : (infos : List (Rev × Status)) → has_float (infos_data infos) ≡ false
no_float-infos infos = no_float-items infos
