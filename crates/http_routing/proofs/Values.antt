-- What segments stand for.
use Rattle.std.proofs.Common.{◌≡◌, ℕ, true, false, cond, List, [], ◌∷◌, Some, None, refl, ap, ◌∙◌}
use Rattle.std.specs.Prelude.{◌≢◌, All, IsUtf8}
use Rattle.std.proofs.lemmas.List.Elements.{All-head, All-tail}
use Rattle.std.proofs.lemmas.Str.{is_utf8-from_IsUtf8, IsUtf8-from_is_utf8}
use Rattle.std.specs.Str.{is_utf8}
use Rattle.percent_encoding.specs.Percent.{percent_sign, percent_decode}
use Rattle.percent_encoding.proofs.PercentLemmas.{percent_decode-nil, percent_decode_not_percent}
use Rattle.http_routing.specs.Target.{segment_text}

abbrev IsPlain : ℕ → Type 0
IsPlain byte = byte ≢ percent_sign

pub segment_text-utf8 : (segment : List ℕ) → IsUtf8 (percent_decode segment) → segment_text segment ≡ Some (percent_decode segment)
segment_text-utf8 segment text = rw (is_utf8-from_IsUtf8 _ text) refl

pub segment_text-other : (segment : List ℕ) → ¬ (IsUtf8 (percent_decode segment)) → segment_text segment ≡ None
segment_text-other segment other =
    elim (is_utf8 (percent_decode segment)) as (λ b. is_utf8 (percent_decode segment) ≡ b → cond b (Some (percent_decode segment)) None ≡ None) [
      | true ↦ λ text. absurd (other (IsUtf8-from_is_utf8 _ text))
      | false ↦ λ broken. refl
    ] refl

-- a segment without escapes stands for itself
pub percent_decode-plain : (segment : List ℕ) → All (λ byte. byte ≢ percent_sign) segment → percent_decode segment ≡ segment
percent_decode-plain [] plain = percent_decode-nil
percent_decode-plain (byte ∷ segment) plain =
    percent_decode_not_percent byte segment (All-head IsPlain byte segment plain)
    ∙ ap (λ (rest : List ℕ). byte ∷ rest) (percent_decode-plain segment (All-tail IsPlain byte segment plain))
