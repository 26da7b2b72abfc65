use Rattle.std.proofs.Common.{◌≡◌, ◌++◌, take, string_bytes}
use Rattle.std.specs.List.{flat_map}
use Rattle.history_dump.specs.Dump.{entry_line}
use Rattle.history_dump.proofs.dumps.put_entries.Given as goal

-- the entries before the place are written
abbrev pub invariant-loop-before : goal.invariant-loop-before
invariant-loop-before l =
    string_bytes l.text ≡ string_bytes l.fn.text ++ flat_map entry_line (take l.before l.version.entries)
