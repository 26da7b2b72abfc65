use Rattle.std.proofs.Common.{◌≡◌, List, All, map, length}
use Rattle.std.specs.Vec.Iter.{into_iter_items, into_iter_len}
use Rattle.model.specs.Command.{NamesRevs}
use Rattle.api_json.specs.NamedRevisions.{member_pair}
use Rattle.api_json.specs.Purge.{named_leaves}
use Rattle.history_json.proofs.Rests.{Rest}
use Rattle.history_json.proofs.purge.read_documents.Given as goal

-- what was found so far is the beginning of whatever the members stand for
abbrev pub invariant-loop-member : goal.invariant-loop-member
invariant-loop-member l =
    goal.iterator-loop-member.can_next l.member-iterator
    × goal.iterator-loop-member.is_finite l.member-iterator
    × (into_iter_len l.member-iterator ≡ length (into_iter_items l.member-iterator))
    × All NamesRevs l.documents.items
    × ((documents : List _) → All NamesRevs documents → map member_pair l.fn.members.items ≡ map named_leaves documents
    → Rest named_leaves NamesRevs (map member_pair (into_iter_items l.member-iterator)) l.documents.items documents)
