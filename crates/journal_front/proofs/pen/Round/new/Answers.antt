use Rattle.std.proofs.Common.{None, refl}
use Rattle.journal_front.proofs.Keeping.{behind_begins, round_behind}
use Rattle.journal_front.proofs.pen.Round.new.Goals as goal

pub invariant_of-result : goal.invariant_of-result
invariant_of-result g c =
    let known = g.K.Viewer.known c.args.session in
    (c.requires.named, c.requires.accounted, c.requires.unready, round_behind g.N.Keeping.has_failed known c.args.journal None refl c.requires.behind (behind_begins c.args.journal known c.requires.behind))
