-- The command line of `couchd`, and what its arguments name.
use Rattle.std.specs.Prelude.{◌≡◌, ℕ, List, Some, codes}
use Rattle.clap.specs.Words.{App, Row, new_app, with_subcommand, subcommand_of}
use Rattle.command_line.specs.Lines.{of_subcommands, subcommand_name}
use Rattle.command_line.specs.Serve.{serve, IsServingOf}
use Rattle.command_line.specs.Replicate.{replicate, IsReplicatingOf}
use Rattle.command_line.specs.Repair.{repair, IsRepairingOf}
use Rattle.command_line.specs.declared.Run.{Run}
use Rattle.command_line.specs.declared.Run.TheVariants.{Once, Dump, Serve, Replicate, Repair}

-- the command line of `couchd`
abbrev pub couchd : App
couchd =
    with_subcommand (with_subcommand (with_subcommand (with_subcommand (with_subcommand (of_subcommands (new_app (codes "couchd")))
    (new_app (codes "once")).top)
    (new_app (codes "dump")).top)
    serve.top)
    replicate.top)
    repair.top

-- the arguments, of which the first is the program's name, name this run
abbrev pub IsRunOf : List (List ℕ) → Run → Type 0
IsRunOf words Once = subcommand_name couchd words ≡ Some (codes "once")
IsRunOf words Dump = subcommand_name couchd words ≡ Some (codes "dump")
IsRunOf words (Serve serving) =
    (given : List Row) × (subcommand_of couchd words ≡ Some (codes "serve", given)) × IsServingOf given serving
IsRunOf words (Replicate replicating) =
    (given : List Row) × (subcommand_of couchd words ≡ Some (codes "replicate", given)) × IsReplicatingOf given replicating
IsRunOf words (Repair repairing) =
    (given : List Row) × (subcommand_of couchd words ≡ Some (codes "repair", given)) × IsRepairingOf given repairing

-- the arguments name none
abbrev pub NamesNoRun : List (List ℕ) → Type 0
NamesNoRun words = (run : Run) → IsRunOf words run → ⊥
