-- The scan of what is left ends as that of the text does.
use Rattle.std.proofs.Common.{◌≡◌, ◌≤◌, drop}
use Rattle.base_json.specs.Pieces.{behind}
use Rattle.base_json.specs.declared.scan.Place.TheVariants as place
use Rattle.base_json.proofs.scan.split_value.Given as goal

abbrev pub invariant-loop-at : goal.invariant-loop-at
invariant-loop-at l = (behind place.Outside 0 l.text ≡ behind l.place l.depth (drop l.at l.text)) × (l.depth ≤ l.at)
