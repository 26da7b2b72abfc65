-- The command line of `replay`, and what its arguments name.
use Rattle.std.specs.Prelude.{◌≡◌, ℕ, List, Some, codes}
use Rattle.clap.specs.Words.{App, Row, new_app, one_of, subcommand_of, with_rule, with_subcommand}
use Rattle.command_line.specs.Flags.{flag, IsFlagOf}
use Rattle.command_line.specs.Lines.{of_subcommands, subcommand_name}
use Rattle.command_line.specs.declared.replay.Run.{Run}
use Rattle.command_line.specs.declared.replay.Run.TheVariants.{Check, Base}

-- `replay base` with its option
abbrev pub base : App
base = with_rule (new_app (codes "base")) (flag (codes "raised"))

-- the command line of `replay`
abbrev pub replay : App
replay =
    with_subcommand (with_subcommand (of_subcommands (new_app (codes "replay")))
    (new_app (codes "check")).top)
    base.top

-- the arguments, of which the first is the program's name, name this run
abbrev pub IsRunOf : List (List ℕ) → Run → Type 0
IsRunOf words Check = subcommand_name replay words ≡ Some (codes "check")
IsRunOf words (Base raised) =
    (given : List Row) × (subcommand_of replay words ≡ Some (codes "base", given)) × IsFlagOf (one_of (codes "raised") given) raised
