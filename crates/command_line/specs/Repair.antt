-- The options of `couchd repair`.
use Rattle.std.specs.Prelude.{◌≡◌, List, Some, codes, string_bytes}
use Rattle.clap.specs.Words.{App, Row, first_of, new_app, with_rule}
use Rattle.command_line.specs.Texts.{text_option}
use Rattle.command_line.specs.declared.repair.Repairing.{Repairing}

-- the subcommand with its option
abbrev pub repair : App
repair = with_rule (new_app (codes "repair")) (text_option (codes "data"))

-- the folder is the one that is given
abbrev pub IsRepairingOf : List Row → Repairing → Type 0
IsRepairingOf given repairing = first_of (codes "data") given ≡ Some (string_bytes repairing.folder)
