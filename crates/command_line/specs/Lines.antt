-- Command lines of subcommands.
use Rattle.std.specs.Prelude.{ℕ, true, List, Option}
use Rattle.std.specs.Option.{option_map}
use Rattle.clap.specs.Words.{App, subcommand_of}

-- a command that wants one of its subcommands, of which `help` is none, and has a version
abbrev pub of_subcommands : App → App
of_subcommands app = record app { top = record app.top { has_version = true; subcommand_required = true; disable_help_subcommand = true } }

-- the name of the subcommand in the arguments, of which the first is the program's name
abbrev pub subcommand_name : App → List (List ℕ) → Option (List ℕ)
subcommand_name app words = option_map (λ s. s.0) (subcommand_of app words)
