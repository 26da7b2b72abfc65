use Rattle.std.proofs.Common.{◌≡◌, ◌++◌, drop, string_bytes}
use Rattle.std.specs.List.{flat_map}
use Rattle.history_dump.specs.Dump.{entry_line}
use Rattle.journal.proofs.lines.lines_above.Given as goal

-- what is written, and the lines above, are all that is asked for
abbrev pub invariant-loop-before : goal.invariant-loop-before
invariant-loop-before l =
    string_bytes l.text ++ flat_map entry_line (drop l.before l.version.entries) ≡ flat_map entry_line (drop l.fn.place l.version.entries)
