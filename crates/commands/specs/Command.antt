-- The kinds of commands in the model's terms.
use Rattle.std.specs.Prelude.{option_map}
use Rattle.std.specs.Arc.{arc_value}
use Rattle.model.specs.Command as model
use Rattle.commands.specs.declared.command.CommandKind.{CommandKind}
use Rattle.commands.specs.declared.command.CommandKind.TheVariants.{Edits, Merges, PutLocal, Purge, SetLimit, SetPurgedLimit, Compact}

abbrev pub command_of : CommandKind → model.Command
command_of (Edits edits) = model.Edits edits
command_of (Merges merges) = model.Merges merges.items
command_of (PutLocal id named body) = model.PutLocal id named (option_map arc_value body)
command_of (Purge named) = model.Purge named
command_of (SetLimit limit) = model.SetLimit limit
command_of (SetPurgedLimit limit) = model.SetPurgedLimit limit
command_of Compact = model.Compact
