-- The bytes that a path segment keeps.
use Rattle.std.proofs.Common.{◌≡◌, ℕ, ◌≤◌, ◌<◌, ◌||◌, true, false, not, refl, ap, ◌∙◌, arith, inl, inr}
use Rattle.std.proofs.lemmas.Bool.{agree_below, agree_below_at, cases_lt}
use Rattle.std.proofs.lemmas.Bool.Decides.{nat_tests}
use Rattle.std.specs.Char.{is_ascii}
use Rattle.percent_encoding.specs.AsciiSet.{contains, should_percent_encode}
use Rattle.http_client.specs.Target.{is_unreserved}
use Rattle.http_client.specs.declared.target.TheConstants.{SEGMENT}

below : agree_below (contains SEGMENT) (λ byte. not (is_unreserved byte)) 128 ≡ true
below = refl

ascii : (byte : ℕ) → byte < 128 → is_ascii byte ≡ true
ascii byte inside = grind (arith, nat_tests)

not_ascii : (byte : ℕ) → 128 ≤ byte → is_ascii byte ≡ false
not_ascii byte outside = grind (arith, nat_tests)

pub segment_bytes : (byte : ℕ) → should_percent_encode SEGMENT byte ≡ not (is_unreserved byte)
unfolding should_percent_encode
segment_bytes byte = elim (cases_lt byte 128) [
  | inl inside ↦
      ap (λ test. not test || contains SEGMENT byte) (ascii byte inside)
      ∙ agree_below_at (contains SEGMENT) (λ b. not (is_unreserved b)) 128 byte below inside
  | inr outside ↦
      ap (λ test. not test || contains SEGMENT byte) (not_ascii byte outside) ∙ ap not (not_sym byte outside)
]
  where
    not_sym : (b : ℕ) → 128 ≤ b → false ≡ is_unreserved b
    not_sym b outside = grind (arith, nat_tests)
