-- So far the items are the first of those that the list has, and the text goes on with the others.
use Rattle.std.proofs.Common.{◌≡◌, List, ℕ, All, ◌++◌, length, map}
use Rattle.serde_json.specs.Data.{array}
use Rattle.serde_json.specs.View.{items_of}
use Rattle.serde_json.specs.Written.{compact_text}
use Rattle.base_json.specs.Pieces.{IsPiece}
use Rattle.base_json.proofs.ListsLeft.{Left}
use Rattle.base_json.proofs.lists.read_list.Given as goal

abbrev pub invariant-loop-rest : goal.invariant-loop-rest
invariant-loop-rest g l =
    (items : List _) (rest : List ℕ) → All (λ it. g.T.ListItem.is_within it × IsPiece (g.T.ListItem.data_of it)) items
    → l.text ≡ compact_text (array (items_of (map g.T.ListItem.data_of items))) ++ rest
    → Left g.T.ListItem.data_of g.T.ListItem.is_within l.later l.left (map g.T.ListItem.shown l.items.items) items rest

abbrev pub decreases-loop-rest : goal.decreases-loop-rest
decreases-loop-rest g l = length l.left
