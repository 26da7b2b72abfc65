-- What is no text writes no number.
use Rattle.std.proofs.Common.{◌≡◌, ℕ, true, List, length, get_or, arith, inl, inr}
use Rattle.std.proofs.lemmas.Bool.{cases_lt}
use Rattle.std.proofs.lemmas.Bool.Decides.{nat_tests}
use Rattle.std.proofs.lemmas.Grind.{common_steps}
use Rattle.std.proofs.lemmas.List.Sums.{AllPass-from_list_all}
use Rattle.std.proofs.lemmas.Str.{IsUtf8-from_ascii}
use Rattle.std.specs.Char.{is_ascii_digit}
use Rattle.std.specs.List.{AllPass, list_all}
use Rattle.std.specs.Str.{IsAscii, IsUtf8}
use Rattle.decimals.specs.Number.{is_number}
use Rattle.request_log.specs.Head.{number_said}

digits-small : (value : List ℕ) → AllPass is_ascii_digit value → IsAscii value
digits-small value all i = elim (cases_lt i (length value)) [
  | inl inside ↦ let digit : is_ascii_digit (get_or value i 0) ≡ true = all i 0 inside in grind (arith, nat_tests)
  | inr outside ↦ grind (arith, common_steps)
]

is_number-text : (value : List ℕ) → is_number value ≡ true → IsUtf8 value
is_number-text value e =
    let digits : list_all is_ascii_digit value ≡ true = grind (arith, nat_tests) in
    IsUtf8-from_ascii value (digits-small value (AllPass-from_list_all is_ascii_digit value digits))

pub no_text : (value : List ℕ) → (IsUtf8 value → ⊥) → 0 ≡ number_said value
no_text value not_text = grind (arith, nat_tests, is_number-text)
