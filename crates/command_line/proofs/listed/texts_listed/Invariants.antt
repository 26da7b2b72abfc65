-- So far what the parts that were split off stand for.
use Rattle.std.proofs.Common.{length, map, string_bytes}
use denote.Text.{Utf8}
use denote.Shadow.{shadow}
use Rattle.command_line.specs.Listed.{item_of}
use Rattle.command_line.proofs.Lists.{IsListedTo}
use Rattle.command_line.proofs.listed.texts_listed.Given as goal

abbrev pub invariant-loop-part : goal.invariant-loop-part
invariant-loop-part l = shadow (Utf8 l.rest) × IsListedTo (item_of l.of) l.list (map string_bytes l.texts.items) l.rest

abbrev pub decreases-loop-part : goal.decreases-loop-part
decreases-loop-part l = length l.rest
