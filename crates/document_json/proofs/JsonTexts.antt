-- The value of a text.
use Rattle.std.proofs.Common.{◌≡◌, ℕ, ◌<◌, ◌≤◌, List, Option, Some, None, Ok, Bool, true, false, refl, ap, ◌∙◌, arith}
use Rattle.std.specs.Prelude.{nat_le, if◌then◌else◌}
use Rattle.std.specs.Str.{is_utf8}
use Rattle.std.proofs.lemmas.Bool.{le-leb, leb-true}
use Rattle.std.proofs.lemmas.Str.{IsUtf8-from_is_utf8, is_utf8-from_IsUtf8}
use Rattle.serde_json.specs.Data.{Data, depth}
use Rattle.serde_json.specs.Read.{read}
use Rattle.model.specs.Profile.{IsTextOf, is_whole, max_nesting}
use Rattle.document_json.specs.Steps.{Checked, and_then, or_refused, check, refused}
use Rattle.document_json.specs.Text.{in_profile, json_of, value_of}
use Rattle.document_json.specs.declared.fault.Reason.TheVariants as reason

json_of-text : (d : Data) (bytes : List ℕ) → IsTextOf d bytes → json_of bytes ≡ in_profile d
unfolding json_of
json_of-text d bytes h =
    let value : value_of bytes ≡ Some d = ap (λ b. if b then read bytes else None) (is_utf8-from_IsUtf8 bytes h.0) ∙ h.1 in
    ap (λ v. and_then (or_refused v reason.Json) in_profile) value

numbers : Data → Bool → Checked Data
numbers d whole = and_then (check whole reason.Number) (λ _. and_then (check (nat_le (depth d) max_nesting) reason.Depth) (λ _. Ok d))

depths : Data → Bool → Checked Data
depths d nests = and_then (check nests reason.Depth) (λ _. Ok d)

pub json_of-value : (d : Data) (bytes : List ℕ) → IsTextOf d bytes → is_whole d ≡ true → depth d ≤ max_nesting → json_of bytes ≡ Ok d
unfolding numbers depths
json_of-value d bytes h whole nests = json_of-text d bytes h ∙ ap (numbers d) whole ∙ ap (depths d) (le-leb (depth d) max_nesting nests)

pub json_of-number : (d : Data) (bytes : List ℕ) → IsTextOf d bytes → is_whole d ≡ false → json_of bytes ≡ refused reason.Number
unfolding numbers
json_of-number d bytes h whole = json_of-text d bytes h ∙ ap (numbers d) whole

pub json_of-depth : (d : Data) (bytes : List ℕ) → IsTextOf d bytes → is_whole d ≡ true → max_nesting < depth d → json_of bytes ≡ refused reason.Depth
unfolding numbers depths
json_of-depth d bytes h whole nests = json_of-text d bytes h ∙ ap (numbers d) whole ∙ too_deep (depth d) max_nesting nests
  where
    refuse : (b : Bool) (n most : ℕ) → nat_le n most ≡ b → most < n → depths d b ≡ refused reason.Depth
    refuse false n most is lt = refl
    refuse true n most is lt = let le = leb-true n most is in absurd (omega arith)

    too_deep : (n most : ℕ) → most < n → depths d (nat_le n most) ≡ refused reason.Depth
    too_deep n most lt = refuse (nat_le n most) n most refl lt

pub json_of-malformed : (bytes : List ℕ) → ((d : Data) → ¬ IsTextOf d bytes) → json_of bytes ≡ refused reason.Json
unfolding json_of
json_of-malformed bytes never = none (is_utf8 bytes) (read bytes) refl refl
  where
    none : (b : Bool) (r : Option Data) → is_utf8 bytes ≡ b → read bytes ≡ r
        → and_then (or_refused (if b then r else None) reason.Json) in_profile ≡ refused reason.Json
    none false r p q = refl
    none true None p q = refl
    none true (Some d) p q = absurd (never d (IsUtf8-from_is_utf8 bytes p, q))
