use Rattle.std.proofs.Common.{◌≡◌, rules}
use Rattle.journal.specs.Marks.{seal_of}
use Rattle.journal.proofs.Marked.{mark_from, sealed_of}
use Rattle.journal.proofs.mark.read_mark.Goals as goal

pub returns-then-ne : goal.returns-then-ne
returns-then-ne c = λ mark. (
  λ is. cc,
  λ is.
      let parts = sealed_of c.args.text.now _ _ c.in_ok-front.ensures.cases mark is in
      absurd (search (rules, parts.seal_is)),
)

pub returns : goal.returns
returns c =
    let seal : c.in_ok-front.seal.now ≡ seal_of c.in_ok-front.front.now = search rules in
    λ mark. (
      λ is. mark_from c.args.text.now _ _ c.in_ok-front.ensures.cases mark (record { front_is = (c.read_front.ensures mark).0 is; seal_is = seal }),
      λ is. (c.read_front.ensures mark).1 (sealed_of c.args.text.now _ _ c.in_ok-front.ensures.cases mark is).front_is,
    )
