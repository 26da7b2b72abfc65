use Rattle.std.proofs.Common.{◌≡◌, List, [], ◌∷◌, ◌++◌, String, Global, map, sym, ap, ◌∙◌}
use Rattle.serde_json.specs.Data.{Data}
use Rattle.serde_json.specs.View.{view, members_of, members_view}
use Rattle.serde_json.proofs.Views.{Entry}
use Rattle.json_profile.specs.declared.object.Member.{Member}
use Rattle.json_profile.proofs.Parts.{later_members}
use Rattle.json_profile.proofs.object.Object.into_members.Goals as goal

abbrev Pair : Type 0
Pair = String Global × Data

abbrev of_member : Member → Pair
of_member m = (m.name, m.value)

abbrev of_entry : Entry → Pair
of_entry e = (e.0, view e.1)

-- one goes from what is left to what is done
gone_over : (ms : List Member) (m : Member) (e : Entry) (left : List Entry) → of_member m ≡ of_entry e → map of_member (ms ++ m ∷ []) ++ map of_entry left ≡ map of_member ms ++ map of_entry (e ∷ left)
gone_over [] m e left is = ap (λ p. p ∷ map of_entry left) is
gone_over (x ∷ ms) m e left is = ap (λ ps. of_member x ∷ ps) (gone_over ms m e left is)

pub loop-name-preserved : goal.loop-name-preserved
loop-name-preserved c =
    let l = c.loop-name in
    let left = c.next.new.self in
    let steps : l.name-iterator ≡ (c.in-Some.name, c.in-Some.value) ∷ left = c.in-Some.ensures.steps in
    let pair = ap (λ d. (c.in-Some.name, d)) c.of_value-value.ensures in
    let pushed = ap (λ ms. map of_member ms ++ map of_entry left) c.in_ok-push.ensures.items in
    let over = gone_over l.list.items _ (c.in-Some.name, c.in-Some.value) left pair in
    let back = ap (λ es. map of_member l.list.items ++ map of_entry es) (sym steps) in
    (later_members _ _ (members_view left) (rw steps at l.invariant.0), ap members_of (pushed ∙ over ∙ back) ∙ l.invariant.1)
