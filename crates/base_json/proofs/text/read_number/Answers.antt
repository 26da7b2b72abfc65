use Rattle.std.proofs.Common.{◌≡◌, ◌<◌, ◌≤◌, ◌^◌, ℕ, ◌++◌, Ok, true, decimal, sym, subst, ◌∙◌, arith, rules}
use Rattle.std.specs.Prelude.{IsUtf8}
use Rattle.std.specs.Char.{is_ascii_digit}
use Rattle.std.specs.List.{list_all}
use Rattle.std.specs.Str.Parse.{digits_value}
use Rattle.std.proofs.lemmas.Fmt.{IsAscii-decimal, digits_decimal, parse-decimal}
use Rattle.std.proofs.lemmas.Str.{IsUtf8-from_ascii}
use Rattle.std.proofs.lemmas.Str.Parse.{IsNumeralModel, numerals_by_value}
use Rattle.base_json.proofs.text.read_number.Goals as goal

own : IsNumeralModel (λ digits. list_all is_ascii_digit digits ≡ true) (digits_value 10)
own = numerals_by_value _ (search rules)

fits : (n : ℕ) → n ≤ 9223372036854775807 → n < 2 ^ 64
fits n le = omega (arith, le)

digits : (n : ℕ) → n ≤ 9223372036854775807 → list_all is_ascii_digit (decimal n) ≡ true
digits n le = digits_decimal own n (fits n le)

utf8 : (n : ℕ) → n ≤ 9223372036854775807 → IsUtf8 (decimal n)
utf8 n le = IsUtf8-from_ascii (decimal n) (IsAscii-decimal n (fits n le))

pub returns-in_default : goal.returns-in_default
returns-in_default c = record {
  found = λ n rest le ends is.
      let left : c.in_ok-after.field-0.now ≡ decimal n ++ rest = (let h = c.in_ok-after.ensures.found (decimal n ++ rest) is in cc) in
      let parts = c.split_digits.ensures (decimal n) rest (digits n le) ends left in
      c.in_default.ensures.cases.0 (subst IsUtf8 (sym parts.0) (utf8 n le));
}

pub returns-in_default-parse : goal.returns-in_default-parse
returns-in_default-parse c = record {
  found = λ n rest le ends is.
      let left : c.in_ok-after.field-0.now ≡ decimal n ++ rest = (let h = c.in_ok-after.ensures.found (decimal n ++ rest) is in cc) in
      let parts = c.split_digits.ensures (decimal n) rest (digits n le) ends left in
      c.in_default-parse.not-Ok n (parse-decimal 64 n c.in-Ok.digits.now c.parse.result (fits n le) (fits n le) (c.in-Ok.ensures.cases.0 ∙ parts.0) c.parse.ensures.value.0);
}

pub returns : goal.returns
returns c = record {
  found = λ n rest le ends is.
      let left : c.in_ok-after.field-0.now ≡ decimal n ++ rest = (let h = c.in_ok-after.ensures.found (decimal n ++ rest) is in cc) in
      let parts = c.split_digits.ensures (decimal n) rest (digits n le) ends left in
      let parsed : c.parse.result ≡ Ok n = parse-decimal 64 n c.in-Ok.digits.now c.parse.result (fits n le) (fits n le) (c.in-Ok.ensures.cases.0 ∙ parts.0) c.parse.ensures.value.0 in (
        (let h = c.in-Ok-parse.is in cc),
        parts.1,
      );
}
