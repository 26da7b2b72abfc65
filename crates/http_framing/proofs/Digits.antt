-- A body's length in digits.
use Rattle.std.proofs.Common.{◌≡◌, ℕ, ◌+◌, ◌*◌, ◌-◌, ◌<◌, ◌≤◌, List, length, take, true, false, Ok, Err, arith, get_or}
use Rattle.std.proofs.lemmas.Bool.Decides.{nat_tests}
use Rattle.std.proofs.lemmas.Int.Digits.{digits_value_more}
use Rattle.std.proofs.lemmas.List.Sums.{AllPass-from_list_all}
use Rattle.std.proofs.lemmas.List.Elements.{All-get_or}
use Rattle.std.specs.List.{list_all}
use Rattle.std.specs.Char.{digit_value, is_ascii_digit}
use Rattle.std.specs.Str.Parse.{digits_value}
use Rattle.decimals.specs.Number.{is_digits}
use Rattle.http_framing.specs.Body.{length_said, body_limit}
use Rattle.http_framing.specs.declared.FramingFault.TheVariants.{ContentLength, LargeBody}

pub length_said-no_digits : (value : List ℕ) → is_digits value ≡ false → Err ContentLength ≡ length_said value
unfolding length_said
length_said-no_digits value none = grind (arith, nat_tests)

pub length_said-large : (value : List ℕ) → is_digits value ≡ true → body_limit < digits_value 10 value → Err LargeBody ≡ length_said value
unfolding length_said
length_said-large value digits large = grind (arith, nat_tests)

pub length_said-digits : (value : List ℕ) → is_digits value ≡ true → digits_value 10 value ≤ body_limit → Ok (digits_value 10 value) ≡ length_said value
unfolding length_said
length_said-digits value digits small = grind (arith, nat_tests)

-- the byte at a place of a value of digits
pub digit_at : (value : List ℕ) (i : ℕ) → is_digits value ≡ true → i < length value
    → (48 ≤ get_or value i 0) × (digit_value (get_or value i 0) ≡ get_or value i 0 - 48)
digit_at value i digits inside =
    let every : list_all is_ascii_digit value ≡ true = grind (arith, nat_tests) in
    let all = AllPass-from_list_all is_ascii_digit value every in
    let digit : is_ascii_digit (get_or value i 0) ≡ true = All-get_or (λ b. is_ascii_digit b ≡ true) value i 0 inside all in
    let range : (48 ≤ get_or value i 0) × (get_or value i 0 ≤ 57) = grind (arith, nat_tests) in
    (range.0, grind (arith, nat_tests))

-- one more digit
pub value_more : (value : List ℕ) (i n : ℕ) → is_digits value ≡ true → i < length value → n ≡ digits_value 10 (take i value)
    → n * 10 + (get_or value i 0 - 48) ≡ digits_value 10 (take (i + 1) value)
value_more value i n digits inside so_far =
    omega (arith, (digit_at value i digits inside).1, digits_value_more 10 value i inside)
