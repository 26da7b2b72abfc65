use Rattle.std.proofs.Common.{subst, rules, inl, inr}
use Rattle.httparse.specs.Grammar.{HasNoResponse, MayBecomeResponse}
use Rattle.http_client.proofs.Parts.{head-part}
use Rattle.http_client.proofs.front.read_front.Goals as goal

pub returns-in-Ok-Partial : goal.returns-in-Ok-Partial
returns-in-Ok-Partial c =
    let none : HasNoResponse c.head_window-window.result.now = search rules in
    let may : MayBecomeResponse c.head_window-window.result.now = search rules in
    head-part c.args.bytes.now c.if-bytes-lt-HEAD_LIMIT.true (subst HasNoResponse c.head_window-window.ensures none)
    (subst MayBecomeResponse c.head_window-window.ensures may)

pub returns-in-Ok-Partial-2 : goal.returns-in-Ok-Partial-2
returns-in-Ok-Partial-2 c =
    let none : HasNoResponse c.head_window-window.result.now = search rules in
    inr (inl (inr (c.if-bytes-lt-HEAD_LIMIT.false, subst HasNoResponse c.head_window-window.ensures none)))
