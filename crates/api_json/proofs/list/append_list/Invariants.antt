use Rattle.std.proofs.Common.{◌≡◌, map, take, string_bytes}
use Rattle.std.specs.Prelude.{IfOk}
use Rattle.serde_json.specs.Data.{Data}
use Rattle.serde_json.specs.Written.{compact_text}
use Rattle.api_json.specs.List.{IsListAfter}
use Rattle.api_json.proofs.list.append_list.Given as goal

-- what was written so far
abbrev pub invariant-loop-item : goal.invariant-loop-item
invariant-loop-item g l =
    (of : _ → Data) → ((item : _) (told : _) → goal.F-post g l.item_text item told → IfOk told (λ t. string_bytes t ≡ compact_text (of item.now)))
    → IsListAfter (string_bytes l.fn.text) l.list (map of (take l.item-index l.items))
