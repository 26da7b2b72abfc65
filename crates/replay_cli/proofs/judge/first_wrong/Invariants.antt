use Rattle.std.proofs.Common.{◌≡◌, List, ◌++◌, length}
use Rattle.std.specs.Vec.Iter.{into_iter_items, into_iter_len}
use Rattle.model.specs.Command.{Entry}
use Rattle.model.specs.History.{IsLegal, base_of}
use Rattle.replay_cli.specs.Verdicts.{begun_with}
use Rattle.replay_cli.proofs.judge.first_wrong.Given as goal

-- the entries that were judged are a legal history over the base, and the version has it
abbrev pub invariant-loop-entry : goal.invariant-loop-entry
invariant-loop-entry l =
    goal.iterator-loop-entry.can_next l.entry-iterator
    × goal.iterator-loop-entry.is_finite l.entry-iterator
    × (into_iter_len l.entry-iterator ≡ length (into_iter_items l.entry-iterator))
    × ((before : List Entry)
    × (l.fn.entries.items ≡ before ++ into_iter_items l.entry-iterator)
    × (l.version ≡ begun_with l.fn.version.base before)
    × IsLegal (base_of l.fn.version.base) before)
