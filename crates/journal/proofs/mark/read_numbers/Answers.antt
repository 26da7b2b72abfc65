use Rattle.std.proofs.Common.{◌≡◌, ℕ, length, sym, subst, ◌∙◌, codes, Some, None, rules}
use Rattle.std.proofs.lemmas.Option.{same_Some}
use Rattle.journal.specs.Marks.{AreNumbers}
use Rattle.journal.proofs.Marked.{Parts, numbers_from, parts_of}
use Rattle.journal.proofs.mark.read_numbers.Goals as goal
use Rattle.journal.proofs.mark.read_numbers.Goals.{then-ne-via-then-ne, then-ne-via-else-ne+then-synced-ne-SYNCED_DIGITS}

pub returns-then-ne : goal.returns-then-ne
returns-then-ne c = λ epoch synced. (
  λ is. cc,
  λ are.
      let parts = parts_of c.args.text.now _ _ _ _ c.in_ok-epoch.ensures.cases c.in_ok-space.ensures.cases epoch synced are in
      elim c.then-ne.branch [
        | then-ne-via-then-ne w ↦ absurd (search (rules, parts.space_is))
        | then-ne-via-else-ne+then-synced-ne-SYNCED_DIGITS w ↦ absurd (search (rules, parts.synced_len))
      ],
)

pub returns-in_default : goal.returns-in_default
returns-in_default c = λ epoch synced. (
  λ is. cc,
  λ are.
      let parts = parts_of c.args.text.now _ _ _ _ c.in_ok-epoch.ensures.cases c.in_ok-space.ensures.cases epoch synced are in
      let none : None ≡ Some epoch = c.in_default.ensures ∙ parts.epoch_is in
      cc,
)

pub returns-in_default-number_of : goal.returns-in_default-number_of
returns-in_default-number_of c = λ epoch synced. (
  λ is. cc,
  λ are.
      let parts = parts_of c.args.text.now _ _ _ _ c.in_ok-epoch.ensures.cases c.in_ok-space.ensures.cases epoch synced are in
      let none : None ≡ Some synced = c.in_default-number_of.ensures ∙ parts.synced_is in
      cc,
)

pub returns : goal.returns
returns c = λ epoch synced. (
  λ is.
      let space : c.in_ok-space.space.now ≡ codes " " = search rules in
      let len : length c.in_ok-space.synced.now ≡ 18 = search rules in
      let pair = same_Some (c.in-Some.epoch, c.in-Some-number_of.synced) (epoch, synced) is in
      let parts : Parts c.args.text.now _ _ _ _ c.in_ok-epoch.ensures.cases c.in_ok-space.ensures.cases c.in-Some.epoch c.in-Some-number_of.synced = record { epoch_is = sym c.in-Some.ensures; synced_is = sym c.in-Some-number_of.ensures; space_is = space; synced_len = len } in
      subst (λ (p : ℕ × ℕ). AreNumbers c.args.text.now p.0 p.1) pair
      (numbers_from c.args.text.now _ _ _ _ c.in_ok-epoch.ensures.cases c.in_ok-space.ensures.cases c.in-Some.epoch c.in-Some-number_of.synced parts),
  λ are.
      let parts = parts_of c.args.text.now _ _ _ _ c.in_ok-epoch.ensures.cases c.in_ok-space.ensures.cases epoch synced are in
      let one = same_Some c.in-Some.epoch epoch (c.in-Some.ensures ∙ parts.epoch_is) in
      let two = same_Some c.in-Some-number_of.synced synced (c.in-Some-number_of.ensures ∙ parts.synced_is) in
      λ i. Some (one i, two i),
)
