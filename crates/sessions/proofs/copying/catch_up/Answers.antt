use Rattle.std.proofs.Common.{◌∙◌, ap, sym, length, length-drop}
use Rattle.model.specs.Database.{Database}
use Rattle.model.specs.History.{now, extends}
use Rattle.model.specs.Compaction.{Marks, touched}
use Rattle.model.proofs.TouchedLaws.{touched-rest}
use Rattle.sessions.proofs.copying.catch_up.Goals as goal

pub catch_up-requires-clause-follows : goal.catch_up-requires-clause-follows
catch_up-requires-clause-follows g c = extends c.args.version.now c.args.copy.now.seen c.requires.follows

pub returns-clause-rest : goal.returns-clause-rest
returns-clause-rest g c =
    let d : Database = now c.args.version.now in
    let m = c.args.copy.now.marks in
    let n = c.slice-n.result in
    c.in_ok-left.ensures.left
    ∙ sym (length-drop n (touched d m))
    ∙ ap length (sym (touched-rest d m n c.place-recalled.ensures.history.database.log.numbered))
    ∙ ap (λ (k : Marks). length (touched d k)) (sym c.in_ok-left.ensures.passed)
