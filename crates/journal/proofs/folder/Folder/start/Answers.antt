use Rattle.std.proofs.Common.{rules}
use Rattle.journal.proofs.Begins.{started_by}
use Rattle.journal.proofs.folder.Folder.start.Goals as goal

pub returns-clause-started : goal.returns-clause-started
returns-clause-started g c =
    let left = c.in_ok-file.ensures.restored in
    started_by c.go_on_after.result left.0 c.args.self.now.boot c.in_ok-found.found c.mark_for.result _ c.in-Some.newest _ c.mark_for.ensures left.1 c.go_on_after.ensures.after

pub returns-in_err-file-clause-judged : goal.returns-in_err-file-clause-judged
returns-in_err-file-clause-judged g c = λ epoch verdict is. (c.in_err-file.ensures.judged epoch verdict (search rules)).1
