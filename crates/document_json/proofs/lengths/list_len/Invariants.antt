use Rattle.std.proofs.Common.{◌≡◌, ◌+◌, length, map, take}
use Rattle.std.specs.Prelude.{IfOk}
use Rattle.serde_json.specs.Data.{Data}
use Rattle.serde_json.specs.Written.{compact_text}
use Rattle.document_json.proofs.TextLengths.{closed_len}
use Rattle.document_json.proofs.lengths.list_len.Given as goal

-- the bracket, and the items so far with a comma or bracket behind each
abbrev pub invariant-loop-item : goal.invariant-loop-item
invariant-loop-item g l =
    (of : _ → Data) → ((item : _) (answered : _) → goal.F-post g l.item_len item answered → IfOk answered (λ len. len ≡ length (compact_text (of item.now))))
    → l.len ≡ 1 + closed_len (map of (take l.item-index l.items))
