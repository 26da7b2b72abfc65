-- Options for numbers.
use Rattle.std.specs.Prelude.{◌≡◌, ℕ, [], ◌∷◌, Option, None, Some}
use Rattle.std.specs.Str.Parse.{IsNumeral, digits_value, without_leading_plus}
use Rattle.clap.specs.Words.{Rule, Text, new_rule}
use Rattle.clap.specs.declared.builder.value_parser.ValueParser.TheVariants as parser

-- an option of this name for a number in these bounds, which has no default
abbrev pub optional_number : Text → ℕ → ℕ → Rule
optional_number name least most =
    record (new_rule name) { long = Some name; value_names = 1; parser = Some (parser.Unsigned least most) }

-- an option of this name for a number in these bounds, with its default
abbrev pub number_option : Text → ℕ → ℕ → Text → Rule
number_option name least most default = record (optional_number name least most) { defaults = default ∷ [] }

-- the number that a text says
abbrev pub IsNumber : Text → ℕ → Type 0
IsNumber text number = IsNumeral 10 (without_leading_plus text) × (number ≡ digits_value 10 (without_leading_plus text))

-- the number that a text says, or the default where there is no text
abbrev pub IsNumberOf : Option Text → ℕ → ℕ → Type 0
IsNumberOf None default number = number ≡ default
IsNumberOf (Some text) default number = IsNumber text number
