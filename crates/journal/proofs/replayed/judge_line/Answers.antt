use Rattle.std.proofs.Common.{◌≡◌, ◌+◌, true, false, refl, rules}
use Rattle.journal.proofs.Replays.{next_line, no_next, wrong_line, wrong_next}
use Rattle.journal.proofs.replayed.judge_line.Goals as goal

pub returns-in_default-clause-none : goal.returns-in_default-clause-none
returns-in_default-clause-none c =
    no_next c.args.line.now c.args.replayed.now.place c.in_ok-entry.field-0 c.in_ok-entry.ensures c.args.replayed.now.database c.in_default.is

pub returns-then-not-branch-clause-refused : goal.returns-then-not-branch-clause-refused
returns-then-not-branch-clause-refused c =
    let no : c.in_ok-go_on.field-0 ≡ false = search rules in
    wrong_line c.args.line.now c.args.replayed.now.place c.in_ok-entry.field-0 c.in_ok-entry.ensures (c.args.replayed.now.place + 1) c.args.replayed.now.database c.in-Some.entry c.in-Some.is refl
    (c.in_ok-go_on.ensures.wrong cc)

pub returns-then-not-branch-clause-none : goal.returns-then-not-branch-clause-none
returns-then-not-branch-clause-none c =
    let no : c.in_ok-go_on.field-0 ≡ false = search rules in
    wrong_next c.args.line.now c.args.replayed.now.place c.in_ok-entry.field-0 c.in_ok-entry.ensures c.args.replayed.now.database c.in-Some.entry c.in-Some.is
    (c.in_ok-go_on.ensures.wrong cc)

pub returns-clause-next : goal.returns-clause-next
returns-clause-next c =
    let yes : c.in_ok-go_on.field-0 ≡ true = search rules in
    let going = c.in_ok-go_on.ensures.next cc in
    next_line c.args.line.now c.args.replayed.now.place c.in_ok-entry.field-0 c.in_ok-entry.ensures c.args.replayed.now.database c.go_on.new.database (c.args.replayed.now.place + 1) c.in-Some.entry c.in-Some.is going.0 going.1 refl
