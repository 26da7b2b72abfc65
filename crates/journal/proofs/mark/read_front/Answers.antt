use Rattle.std.proofs.Common.{◌≡◌, length, refl, sym, subst, ◌∙◌, Some, None, rules}
use Rattle.std.proofs.lemmas.Option.{same_Some}
use Rattle.journal.specs.declared.mark.Mark.{Mark}
use Rattle.journal.specs.Marks.{IsFront}
use Rattle.journal.proofs.Marked.{Front, front_from, front_parts}
use Rattle.journal.proofs.mark.read_front.Goals as goal

pub returns-in_default : goal.returns-in_default
returns-in_default c = λ mark. (
  λ is. cc,
  λ front.
      let parts = front_parts c.args.front.now _ _ _ _ c.in_ok-numbers.ensures.cases c.in_ok-word.ensures.cases mark front in
      let none : None ≡ Some (mark.epoch, mark.synced) = (c.in_default.ensures mark.epoch mark.synced).1 parts.numbers_are in
      cc,
)

pub returns-in_default-is_kept : goal.returns-in_default-is_kept
returns-in_default-is_kept c = λ mark. (
  λ is. cc,
  λ front.
      let parts = front_parts c.args.front.now _ _ _ _ c.in_ok-numbers.ensures.cases c.in_ok-word.ensures.cases mark front in
      let none : None ≡ Some mark.shows_kept = (c.in_default-is_kept.ensures mark.shows_kept).1 parts.word_is in
      cc,
)

pub returns-in_default-try_from : goal.returns-in_default-try_from
returns-in_default-try_from c = λ mark. (
  λ is. cc,
  λ front.
      let parts = front_parts c.args.front.now _ _ _ _ c.in_ok-numbers.ensures.cases c.in_ok-word.ensures.cases mark front in
      absurd (search (rules, parts.boot_long)),
)

pub returns : goal.returns
returns c =
    let found : Mark = record { epoch = c.in-Some.epoch; synced = c.in-Some.synced; shows_kept = c.in-Some-is_kept.shows_kept; boot = record { text = c.in-Ok.text } } in
    let chunk : c.in_ok-word.boot.now ≡ c.in-Ok.text = search rules in
    let long : length c.in_ok-word.boot.now ≡ 36 = search rules in
    λ mark. (
      λ is.
          let parts : Front c.args.front.now _ _ _ _ c.in_ok-numbers.ensures.cases c.in_ok-word.ensures.cases found = record {
            numbers_are = (c.in-Some.ensures c.in-Some.epoch c.in-Some.synced).0 refl;
            word_is = (c.in-Some-is_kept.ensures c.in-Some-is_kept.shows_kept).0 refl;
            boot_is = chunk;
            boot_long = long;
          } in
          subst (λ (m : Mark). IsFront c.args.front.now m) (same_Some found mark is)
          (front_from c.args.front.now _ _ _ _ c.in_ok-numbers.ensures.cases c.in_ok-word.ensures.cases found parts),
      λ front.
          let parts = front_parts c.args.front.now _ _ _ _ c.in_ok-numbers.ensures.cases c.in_ok-word.ensures.cases mark front in
          let pair = same_Some (c.in-Some.epoch, c.in-Some.synced) (mark.epoch, mark.synced) ((c.in-Some.ensures mark.epoch mark.synced).1 parts.numbers_are) in
          let kept = same_Some c.in-Some-is_kept.shows_kept mark.shows_kept ((c.in-Some-is_kept.ensures mark.shows_kept).1 parts.word_is) in
          let boot : c.in-Ok.text ≡ mark.boot.text = sym chunk ∙ parts.boot_is in
          λ i. Some (record { epoch = (pair i).0; synced = (pair i).1; shows_kept = kept i; boot = record { text = boot i } }),
    )
