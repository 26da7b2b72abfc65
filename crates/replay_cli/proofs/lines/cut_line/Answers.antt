use Rattle.std.proofs.Common.{◌∷◌, ◌+◌, suc, length, take, drop, sym, ap, ◌∙◌, arith, ◌≡◌}
use Rattle.std.proofs.lemmas.List.{take_all, drop_all}
use Rattle.replay_cli.specs.Lines.{lines}
use Rattle.replay_cli.proofs.Cuts.{cut-at, cut-none}
use Rattle.replay_cli.proofs.lines.cut_line.Goals as goal

pub returns-in-Some-clause-lines : goal.returns-in-Some-clause-lines
returns-in-Some-clause-lines c =
    let text = c.args.text.now in
    let k = c.in-Some.before in
    let next : suc k ≡ k + 1 = omega arith in
    cut-at text k c.in-Some.ensures.0.high c.in-Some.ensures.1 c.in-Some.ensures.0.before
    ∙ ap (λ n. take n text ∷ lines (drop n text)) next
    ∙ sym (ap (λ front. front ∷ lines c.split_at.result.1.now) c.split_at.ensures.front ∙ ap (λ back. take (k + 1) text ∷ lines back) c.split_at.ensures.back)

pub returns-in-None-clause-lines : goal.returns-in-None-clause-lines
returns-in-None-clause-lines c =
    let text = c.args.text.now in
    cut-none text c.in-None.ensures
    ∙ sym (ap (λ front. front ∷ lines c.split_at-in-None.result.1.now) (c.split_at-in-None.ensures.front ∙ take_all (length text) text (omega arith)) ∙ ap (λ back. text ∷ lines back) (c.split_at-in-None.ensures.back ∙ drop_all (length text) text (omega arith)))
