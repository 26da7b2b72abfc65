use Rattle.std.proofs.Common.{◌≡◌, string_bytes, length, true≢false, sym, ap, ◌∙◌}
use Rattle.std.proofs.lemmas.Bool.{eq-eqb}
use Rattle.json_profile.proofs.Joined.{cut}
use Rattle.json_profile.proofs.body.Body.front.Goals as goal

pub part-requires-clause-start : goal.part-requires-clause-start
part-requires-clause-start c =
    let is : c.as_str-text.result.now ≡ string_bytes c.self.inside.text = c.as_str-text.ensures.value in
    let some : length (string_bytes c.self.inside.text) ≡ 0 → ⊥ = λ z. true≢false (sym (eq-eqb _ 0 (ap length is ∙ z)) ∙ sym c.is_empty.ensures ∙ c.if-is_empty.false) in
    let cuts = cut (string_bytes c.self.inside.text) c.self.inside.split _ _ c.self.invariant c.self.view_is some in
    rw is cuts.first

pub part-requires-clause-end : goal.part-requires-clause-end
part-requires-clause-end c =
    let is : c.as_str-text.result.now ≡ string_bytes c.self.inside.text = c.as_str-text.ensures.value in
    let some : length (string_bytes c.self.inside.text) ≡ 0 → ⊥ = λ z. true≢false (sym (eq-eqb _ 0 (ap length is ∙ z)) ∙ sym c.is_empty.ensures ∙ c.if-is_empty.false) in
    let cuts = cut (string_bytes c.self.inside.text) c.self.inside.split _ _ c.self.invariant c.self.view_is some in
    rw is cuts.middle

pub returns : goal.returns
returns c =
    let is : c.as_str-text.result.now ≡ string_bytes c.self.inside.text = c.as_str-text.ensures.value in
    let some : length (string_bytes c.self.inside.text) ≡ 0 → ⊥ = λ z. true≢false (sym (eq-eqb _ 0 (ap length is ∙ z)) ∙ sym c.is_empty.ensures ∙ c.if-is_empty.false) in
    let cuts = cut (string_bytes c.self.inside.text) c.self.inside.split _ _ c.self.invariant c.self.view_is some in
    c.part.ensures ∙ rw is cuts.front
