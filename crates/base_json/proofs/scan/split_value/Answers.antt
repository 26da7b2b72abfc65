use Rattle.std.proofs.Common.{◌≡◌, ◌<◌, ◌≤◌, ◌+◌, ℕ, List, Some, None, Bool, true, false, length, drop, get_or, sym, ap, ◌∙◌, arith, add-one, length-drop}
use Rattle.std.specs.Prelude.{if◌then◌else◌}
use Rattle.std.proofs.Math.Seq.{drop-cons}
use Rattle.std.proofs.lemmas.List.{nil_from_length}
use Rattle.base_json.specs.Pieces.{behind, is_end, depth_behind, place_behind}
use Rattle.base_json.specs.declared.scan.Place.{Place}
use Rattle.base_json.proofs.scan.split_value.Goals as goal

-- one byte more
stepped : (place next : Place) (depth deep at : ℕ) (text : List ℕ) (ended : Bool) → at < length text
    → deep ≡ depth_behind place depth (get_or text at 0) → next ≡ place_behind place (get_or text at 0) → ended ≡ is_end next deep
    → behind place depth (drop at text) ≡ (if ended then Some (drop (at + 1) text) else behind next deep (drop (at + 1) text))
unfolding behind
stepped place next depth deep at text ended lt d n e = rw (add-one, e, n, d) (ap (behind place depth) (drop-cons text at 0 lt))

at_end : (place : Place) (depth at : ℕ) (text : List ℕ) → length text ≤ at → behind place depth (drop at text) ≡ None
unfolding behind
at_end place depth at text le = ap (behind place depth) (nil_from_length (drop at text) (length-drop at text ∙ omega (arith, le)))

pub returns-then-is_end-clause-behind : goal.returns-then-is_end-clause-behind
returns-then-is_end-clause-behind c =
    ap Some c.split_at.ensures.back
    ∙ sym (c.loop-at.invariant.0 ∙ stepped c.loop-at.place c.next_place-place.result c.loop-at.depth c.next_depth-depth.result c.loop-at.at c.args.text.now true
    c.loop-at-test.true c.next_depth-depth.ensures.depth c.next_place-place.ensures (sym c.if-is_end.true ∙ c.is_end.ensures))

pub loop-at-preserved : goal.loop-at-preserved
loop-at-preserved c = (
  c.loop-at.invariant.0 ∙ stepped c.loop-at.place c.next_place-place.result c.loop-at.depth c.next_depth-depth.result c.loop-at.at c.args.text.now false
      c.loop-at-test.true c.next_depth-depth.ensures.depth c.next_place-place.ensures (sym c.if-is_end.false ∙ c.is_end.ensures),
  (let before = c.loop-at.invariant.1 in let more = c.next_depth-depth.ensures.within in omega arith),
)

pub returns-clause-behind : goal.returns-clause-behind
returns-clause-behind c = sym (c.loop-at.invariant.0 ∙ at_end c.loop-at.place c.loop-at.depth c.loop-at.at c.args.text.now c.loop-at-test.false)
