-- Options for texts.
use Rattle.std.specs.Prelude.{true, Some}
use Rattle.clap.specs.Words.{Rule, Text, new_rule}

-- an option of this name, which may be left out
abbrev pub optional_text : Text → Rule
optional_text name = record (new_rule name) { long = Some name; value_names = 1 }

-- an option of this name, which has to be given
abbrev pub text_option : Text → Rule
text_option name = record (optional_text name) { required = true }
