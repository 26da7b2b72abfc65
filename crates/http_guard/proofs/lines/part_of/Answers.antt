use Rattle.std.proofs.Common.{◌∙◌, ◌++◌, ◌-◌, length, sym, append-nil, arith, take_all, length-drop, drop, []}
use Rattle.http_guard.proofs.Parts.{part-behind, part-within}
use Rattle.http_guard.proofs.lines.part_of.Goals as goal

pub returns-then-at-first-clause-front : goal.returns-then-at-first-clause-front
returns-then-at-first-clause-front c = (c.args.second.now ++ c.args.third.now, part-within c.args.first.now (c.args.second.now ++ c.args.third.now) c.args.at c.if-at-first.true)

pub returns-then-behind-second-clause-front : goal.returns-then-behind-second-clause-front
returns-then-behind-second-clause-front c = (
  c.args.third.now,
  part-behind c.args.first.now (c.args.second.now ++ c.args.third.now) c.args.at c.if-at-first.false
      ∙ part-within c.args.second.now c.args.third.now (c.args.at - length c.args.first.now) c.if-behind-second.true,
)

pub returns-clause-front : goal.returns-clause-front
returns-clause-front c =
    let behind = c.args.at - length c.args.first.now in
    let place = behind - length c.args.second.now in (
      [],
      part-behind c.args.first.now (c.args.second.now ++ c.args.third.now) c.args.at c.if-at-first.false
          ∙ part-behind c.args.second.now c.args.third.now behind c.if-behind-second.false
          ∙ sym (take_all (length c.args.third.now - place) (drop place c.args.third.now) (omega (arith, length-drop place c.args.third.now))) ∙ sym (append-nil _),
    )
