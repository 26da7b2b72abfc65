-- The name of an epoch's file.
use Rattle.std.proofs.Common.{◌≡◌, ℕ, zero, suc, ◌-◌, ◌^◌, ◌<◌, ◌≤◌, List, [], ◌++◌, length, true, false, decimal, refl, rules, ap, ◌∙◌, arith, length-append}
use Rattle.std.specs.Prelude.{codes, string_bytes, Result, Ok, Err, IfOk, String, nat_le, nat_lt, replicate, Some, None}
use Rattle.std.specs.Global.{Global}
use Rattle.std.specs.Char.{is_ascii_digit}
use Rattle.std.specs.List.{list_all}
use Rattle.std.specs.Fmt.{char_count, format_spec, number_padding, padded_integral}
use Rattle.std.specs.Str.Parse.{digits_value, digits_value_after}
use Rattle.std.proofs.lemmas.Bool.{and_from, cond-true}
use Rattle.std.proofs.lemmas.List.{append-nil}
use Rattle.std.proofs.lemmas.Fmt.{digits_decimal, digits_value-decimal, length-decimal-le}
use Rattle.std.proofs.lemmas.Str.Parse.{IsNumeralModel, numerals_by_fold}
use Rattle.decimals.specs.Number.{is_digits, is_number, number}
use Rattle.journal.specs.Marks.{AreNumbers}
use Rattle.journal.specs.Names.{last_epoch, Names}

own : IsNumeralModel (λ ds. list_all is_ascii_digit ds ≡ true) (digits_value 10)
own = numerals_by_fold (λ ds. list_all is_ascii_digit ds ≡ true) (search rules) (digits_value_after 10) (search rules)

zeros_digits : (k : ℕ) (ds : List ℕ) → list_all is_ascii_digit ds ≡ true → list_all is_ascii_digit (replicate k 48 ++ ds) ≡ true
zeros_digits zero ds all = all
zeros_digits (suc k) ds all = zeros_digits k ds all

zeros_value : (k : ℕ) (ds : List ℕ) → digits_value 10 (replicate k 48 ++ ds) ≡ digits_value 10 ds
zeros_value zero ds = refl
zeros_value (suc k) ds = zeros_value k ds

zeros_length : (k : ℕ) → length {A = ℕ} (replicate k 48) ≡ k
zeros_length zero = refl
zeros_length (suc k) = ap suc (zeros_length k)

-- how many zeros a hole of this width writes
zeros : (width len : ℕ) → number_padding (format_spec 32 0 4 width (2 ^ 64 - 1)) false [] len ≡ width - len
unfolding char_count
zeros width len = omega arith

-- what it writes
pub padded : (width : ℕ) (digits : List ℕ) → padded_integral (format_spec 32 0 4 width (2 ^ 64 - 1)) false [] digits ≡ replicate (width - length digits) 48 ++ digits
unfolding padded_integral
padded width digits =
    ap (λ t. replicate (number_padding (format_spec 32 0 4 width (2 ^ 64 - 1)) false [] (length digits)) 48 ++ t) (append-nil digits)
    ∙ ap (λ k. replicate k 48 ++ digits) (zeros width (length digits))

-- zeros and the digits of a number, so many together, write it
module _ (width n : ℕ) (positive : 0 < width) (some : nat_lt 0 width ≡ true) (few : nat_le width 18 ≡ true) (low : n < 10 ^ width) (fits : n < 2 ^ 64) where
  abbrev pub filled : List ℕ
  filled = replicate (width - length (decimal n)) 48 ++ decimal n

  pub filled_len : length filled ≡ width
  filled_len =
      let short : length (decimal n) ≤ width = length-decimal-le width n positive low fits in
      omega (arith, length-append (replicate (width - length (decimal n)) 48) (decimal n), zeros_length (width - length (decimal n)), short)

  pub filled_number : number filled ≡ Some n
  filled_number =
      let all = zeros_digits (width - length (decimal n)) (decimal n) (digits_decimal own n fits) in
      let test : is_number filled ≡ true =
      and_from (nat_le (length filled) 18) (is_digits filled) (ap (λ m. nat_le m 18) filled_len ∙ few)
      (and_from (nat_lt 0 (length filled)) (list_all is_ascii_digit filled) (ap (λ m. nat_lt 0 m) filled_len ∙ some) all) in
      cond-true (is_number filled) (Some (digits_value 10 filled)) None test ∙ ap Some (zeros_value (width - length (decimal n)) (decimal n) ∙ digits_value-decimal own n fits)

-- ten of them name a file
named : (n : ℕ) (name : List ℕ) → n ≤ last_epoch → name ≡ (replicate (10 - length (decimal n)) 48 ++ decimal n) ++ codes ".dump" → Names name n
named n name low is =
    let below : n < 10 ^ 10 = omega arith in
    let fits : n < 2 ^ 64 = omega arith in
    record {
      digits = filled 10 n (omega arith) refl refl below fits;
      ten = filled_len 10 n (omega arith) refl refl below fits;
      number_is = filled_number 10 n (omega arith) refl refl below fits;
      name_is = is;
    }

pub written : {E : Type 0} (n : ℕ) (result : Result (String Global) E) → n ≤ last_epoch
    → IfOk result (λ s. string_bytes s ≡ padded_integral (format_spec 32 0 4 10 (2 ^ 64 - 1)) false [] (decimal n) ++ codes ".dump")
    → IfOk result (λ name. Names (string_bytes name) n)
written n (Ok name) low is = named n (string_bytes name) low (is ∙ ap (λ t. t ++ codes ".dump") (padded 10 (decimal n)))
written n (Err refused) low is = tt

-- ten digits of a number, a space, and 18 of another
pub numbered : {E : Type 0} (epoch synced : ℕ) (result : Result (String Global) E) → epoch ≤ last_epoch → synced < 10 ^ 18
    → IfOk result (λ s. string_bytes s ≡ padded_integral (format_spec 32 0 4 10 (2 ^ 64 - 1)) false [] (decimal epoch)
    ++ (codes " " ++ padded_integral (format_spec 32 0 4 18 (2 ^ 64 - 1)) false [] (decimal synced)))
    → IfOk result (λ text. AreNumbers (string_bytes text) epoch synced)
numbered epoch synced (Err refused) low small is = tt
numbered epoch synced (Ok text) low small is =
    let below : epoch < 10 ^ 10 = omega arith in
    let fits : epoch < 2 ^ 64 = omega arith in
    let fits_too : synced < 2 ^ 64 = omega arith in
    record {
      epoch_digits = filled 10 epoch (omega arith) refl refl below fits;
      synced_digits = filled 18 synced (omega arith) refl refl small fits_too;
      ten = filled_len 10 epoch (omega arith) refl refl below fits;
      eighteen = filled_len 18 synced (omega arith) refl refl small fits_too;
      epoch_is = filled_number 10 epoch (omega arith) refl refl below fits;
      synced_is = filled_number 18 synced (omega arith) refl refl small fits_too;
      text_is = is ∙ ap (λ (t : List ℕ). t ++ (codes " " ++ padded_integral (format_spec 32 0 4 18 (2 ^ 64 - 1)) false [] (decimal synced))) (padded 10 (decimal epoch))
          ∙ ap (λ (t : List ℕ). (replicate (10 - length (decimal epoch)) 48 ++ decimal epoch) ++ (codes " " ++ t)) (padded 18 (decimal synced));
    }
