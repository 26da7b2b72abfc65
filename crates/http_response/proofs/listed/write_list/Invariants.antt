use Rattle.std.proofs.Common.{◌≡◌, false, map, take, string_bytes}
use Rattle.std.specs.Prelude.{IfOk}
use Rattle.serde_json.specs.Data.{Data}
use Rattle.serde_json.specs.Written.{compact_text}
use Rattle.api_json.specs.List.{stands_after}
use Rattle.http_response.specs.Pieces.{Keeps}
use Rattle.http_response.proofs.PiecedTexts.{list_so_far}
use Rattle.http_response.proofs.listed.write_list.Given as goal

-- the first piece and the items so far were taken or are kept, and no write failed
abbrev pub invariant-loop-item : goal.invariant-loop-item
invariant-loop-item g l =
    ((of : _ → Data) → ((item : _) (told : _) → goal.F-post g l.item_text item told → IfOk told (λ t. string_bytes t ≡ compact_text (of item.now)))
    → Keeps (g.W.Sink.taken l.fn.writer) (g.W.Sink.taken l.writer) (string_bytes l.piece) (list_so_far (string_bytes l.fn.first) (map of (take l.item-index l.items)))
    × (l.later ≡ stands_after false (map of (take l.item-index l.items))))
    × (g.W.Sink.failed_writes l.writer ≡ g.W.Sink.failed_writes l.fn.writer)
