use Rattle.std.proofs.Common.{sym, ap, ◌∙◌}
use Rattle.model.specs.History.{Chronicle}
use Rattle.history_dump.specs.Dump.{first_line}
use Rattle.replay_cli.proofs.Followed.{not_legal, not_refused, not_last, one_line}
use Rattle.replay_cli.proofs.successor.line_after.Goals as goal

pub returns-in-Err-clause-too_large : goal.returns-in-Err-clause-too_large
returns-in-Err-clause-too_large c = λ l.
    absurd (not_legal c.args.dump.now c.in-Err.verdict (rw c.in-Err.is at c.in_ok-last.ensures.refused) (rw c.in-Err.is at c.in_ok-last.ensures.only) l.history l.before)

pub returns-in-Err-clause-judged : goal.returns-in-Err-clause-judged
returns-in-Err-clause-judged c = λ v is refused.
    let same = (rw c.in-Err.is at c.in_ok-last.ensures.only) v is in
    cc

pub returns-in_default-clause-found : goal.returns-in_default-clause-found
returns-in_default-clause-found c = record {
  history = c.in-Ok.last;
  before = rw c.in-Ok.is at c.in_ok-last.ensures.last;
  too_large = rw c.in_default.is at c.in_ok-next.ensures.none;
}

pub returns-in_default-clause-judged : goal.returns-in_default-clause-judged
returns-in_default-clause-judged c = λ v is refused.
    absurd (not_refused c.args.dump.now c.in-Ok.last (rw c.in-Ok.is at c.in_ok-last.ensures.last) (rw c.in-Ok.is at c.in_ok-last.ensures.only_last) v is refused)

pub returns-clause-found : goal.returns-clause-found
returns-clause-found c = record {
  history = c.in-Ok.last;
  before = rw c.in-Ok.is at c.in_ok-last.ensures.last;
  room = rw c.in-Some.is at c.in_ok-next.ensures.room;
  line_is = c.in_ok-line.ensures ∙ ap (λ (h : Chronicle). first_line h.base) (rw c.in-Some.is at c.in_ok-next.ensures.begun);
}

pub returns-clause-too_large : goal.returns-clause-too_large
returns-clause-too_large c = λ l.
    let room = rw c.in-Some.is at c.in_ok-next.ensures.room in
    absurd (not_last c.args.dump.now c.in-Ok.last (rw c.in-Ok.is at c.in_ok-last.ensures.last) (rw c.in-Ok.is at c.in_ok-last.ensures.only_last) c.args.is_raised room l)

pub returns-clause-judged : goal.returns-clause-judged
returns-clause-judged c = λ v is refused.
    absurd (not_refused c.args.dump.now c.in-Ok.last (rw c.in-Ok.is at c.in_ok-last.ensures.last) (rw c.in-Ok.is at c.in_ok-last.ensures.only_last) v is refused)

pub returns-clause-line : goal.returns-clause-line
returns-clause-line c = λ line s.
    let begun = rw c.in-Some.is at c.in_ok-next.ensures.begun in
    c.in_ok-line.ensures ∙ ap (λ (h : Chronicle). first_line h.base) begun
    ∙ sym (one_line c.args.dump.now c.in-Ok.last (rw c.in-Ok.is at c.in_ok-last.ensures.last) (rw c.in-Ok.is at c.in_ok-last.ensures.only_last) c.args.is_raised line s)
