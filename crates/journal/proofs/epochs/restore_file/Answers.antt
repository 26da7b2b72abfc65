use Rattle.journal.proofs.epochs.restore_file.Goals as goal

pub returns-clause-judged : goal.returns-clause-judged
returns-clause-judged c = λ verdict at is.
    let ended = c.restore.ensures.judged verdict at is in
    (ended.text, ended.holds)
