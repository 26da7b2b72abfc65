-- What a text of few digits is parsed as.
use Rattle.std.proofs.Common.{◌≡◌, ℕ, ◌^◌, ◌<◌, ◌≤◌, true, List, length, Result, refl, arith, rules}
use Rattle.std.proofs.lemmas.Bool.Decides.{nat_tests}
use Rattle.std.proofs.lemmas.Str.Parse.{IsNumeralModel, numerals_by_value, digits_value_short, parse_gives}
use Rattle.std.specs.Char.{is_ascii_digit}
use Rattle.std.specs.List.{list_all}
use Rattle.std.specs.Result.{result_ok}
use Rattle.std.specs.Str.Parse.{digits_value, ParsesUnsigned}
use Rattle.decimals.specs.Number.{is_number, number}

decimal : IsNumeralModel (λ digits. list_all is_ascii_digit digits ≡ true) (digits_value 10)
decimal = numerals_by_value _ (search rules)

-- a text of so few digits is parsed as the number that it writes
pub number-parse : {E : Type 0} (text : List ℕ) (r : Result ℕ E) → is_number text ≡ true → ParsesUnsigned 64 10 text r
    → result_ok r ≡ number text
number-parse text r is parses =
    let digits : list_all is_ascii_digit text ≡ true = grind (arith, nat_tests) in
    let short : length text ≤ 18 = grind (arith, nat_tests) in
    let some : 0 < length text = grind (arith, nat_tests) in
    let small : digits_value 10 text < 10 ^ 18 = digits_value_short decimal text 18 digits short in
    let read = parse_gives decimal 64 text r parses digits some (omega arith) in
    rw (read, is) refl
