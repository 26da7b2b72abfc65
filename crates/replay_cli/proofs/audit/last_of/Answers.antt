use Rattle.std.proofs.Common.{◌∙◌, sym}
use Rattle.replay_cli.proofs.Verdicts.{of_legal, wrong-only, unreadable-only}
use Rattle.replay_cli.proofs.audit.last_of.Goals as goal

pub returns-in-Err-clause-only : goal.returns-in-Err-clause-only
returns-in-Err-clause-only c =
    unreadable-only c.args.dump.now c.in-Err.number (rw c.in-Err.is at c.in_ok-read.ensures.unreadable)

pub returns-in-Ok-2-clause-last : goal.returns-in-Ok-2-clause-last
returns-in-Ok-2-clause-last c =
    let dump = rw c.in-Ok.is at c.in_ok-read.ensures.dump in
    of_legal c.args.dump.now _ c.in-Ok-2.last (rw c.in-Ok-2.is at c.in_ok-last.ensures.last) dump (rw c.in-Ok-2.is at c.in_ok-last.ensures.legal)

pub returns-in-Ok-2-clause-only_last : goal.returns-in-Ok-2-clause-only_last
returns-in-Ok-2-clause-only_last c =
    let only = rw c.in-Ok.is at c.in_ok-read.ensures.only in
    λ other is. only other is ∙ sym (rw c.in-Ok-2.is at c.in_ok-last.ensures.last)

pub returns-in-Err-2-clause-only : goal.returns-in-Err-2-clause-only
returns-in-Err-2-clause-only c =
    let dump = rw c.in-Ok.is at c.in_ok-read.ensures.dump in
    let only = rw c.in-Ok.is at c.in_ok-read.ensures.only in
    wrong-only c.args.dump.now _ dump only c.in-Err-2.place (rw c.in-Err-2.is at c.in_ok-last.ensures.wrong)
