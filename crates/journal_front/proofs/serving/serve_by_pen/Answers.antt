use denote.Exit as exit
use denote.Param.{param}
use mathlib.Core.List.{IsPrefix}
use mir.Syntax.{named}
use denote.Param.Send.{arg_send, arg_sync, param_send, param_sync}
use Rattle.journal_front.specs.Server.{awaits}
use Rattle.journal_front.proofs.Crossing.{durable-send, journaled-send, pen-sync}
use Rattle.version_log.proofs.Prefixes.{prefix_trans}
use Rattle.journal_front.proofs.Progress.{journaled_more}
use Rattle.journal_front.proofs.Served.{served_durably}
use Rattle.journal_front.proofs.serving.serve_by_pen.Goals as goal

pub serve_beside-served-requires-send-S : goal.serve_beside-served-requires-send-S
serve_beside-served-requires-send-S g c κs within =
    param_send _ _ (arg_send _ exit.no _ (durable-send (record { mir = named 18; lft = κs.1.1.1.1.1.1.1.1.1.1.1.1.1.1.1.1.1.1.0 }) _ _ _ _
    (record { is_appended = g.N.Keeping.is_appended; is_kept = g.N.Keeping.is_kept; is_limit = g.N.Keeping.is_limit; has_failed = g.N.Keeping.has_failed; journaled = λ p. p }) c.type_bounds.send-S (journaled-send (param 3 g.row.N) g.N.Keeping g.N.Naming)
    (pen-sync _ _ (param 3 g.row.N) _ _ _ (record { mir = named 19; lft = κs.1.1.1.1.1.1.1.1.1.1.1.1.1.1.1.1.1.1.1.0 }) g.K.Viewer g.K.Opened.Revisions g.F.Appended g.N.Keeping g.N.Naming g.L.Notices g.E.Epochs c.type_bounds.send-K c.type_bounds.send-F c.type_bounds.send-L c.type_bounds.sync-L c.type_bounds.send-E c.type_bounds.send-K-Opened)
    c.type_bounds.sync-A))

pub serve_beside-served-requires-sync-P : goal.serve_beside-served-requires-sync-P
serve_beside-served-requires-sync-P g c κs within =
    param_sync _ _ (arg_sync _ exit.no _ (pen-sync _ _ (param 3 g.row.N) _ _ _ (record { mir = named 20; lft = κs.1.1.1.1.1.1.1.1.1.1.1.1.1.1.1.1.1.1.1.1.0 }) g.K.Viewer g.K.Opened.Revisions g.F.Appended g.N.Keeping g.N.Naming g.L.Notices g.E.Epochs
    c.type_bounds.send-K c.type_bounds.send-F c.type_bounds.send-L c.type_bounds.sync-L c.type_bounds.send-E c.type_bounds.send-K-Opened))

pub returns-clause-served : goal.returns-clause-served
returns-clause-served g c =
    let seen = (g.K.Viewer.known c.into_left.result.session).seen in
    let under : IsPrefix c.known-journaled.result seen = rw c.known-journaled.ensures.known c.into_left.ensures.accounted.begins in
    let begins : IsPrefix c.known-last.result seen = prefix_trans c.known-last.result c.known-journaled.result seen (c.precedes.ensures c.if-not-precedes.false) under in
    served_durably g.S.Viewer.goes g.S.Viewer.known g.N.Keeping.is_appended g.N.Keeping.is_kept g.N.Keeping.is_limit g.N.Keeping.has_failed (awaits c.args.service.now.policy) c.awaits.result
    c.args.setting.now c.args.service.now.terms.connections seen c.at_first-known.result
    c.args.sessions.items c.in-Some.sessions.items c.in-Ok.durable.items c.serve_beside-served.result.items
    c.awaits.ensures c.at_first-known.ensures.none c.in-Ok.ensures c.serve_beside-served.ensures.same_number c.serve_beside-served.ensures.each c.in-Some.ensures.items
    (journaled_more c.known-last.result seen c.serve_beside-served.result.items begins c.in-Some.ensures.journaled)
