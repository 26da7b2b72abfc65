use Rattle.std.proofs.Common.{sym, ◌∙◌, arith}
use Rattle.http_framing.proofs.Heads.{found_head, found-fault, found-part, found-fits, found-whole}
use Rattle.http_framing.proofs.front.front_of_head.Goals as goal

pub overflow_add-end : goal.overflow_add-end
overflow_add-end c =
    let found = found_head c.args.bytes.now c.args.window.now c.args.headers.now c.args.head c.requires.window c.requires.room c.requires.within c.requires.complete in
    omega (arith, found-fits found c.in-Ok.len (sym c.body_length.ensures ∙ c.in-Ok.is))

pub returns-in-Err : goal.returns-in-Err
returns-in-Err c =
    let found = found_head c.args.bytes.now c.args.window.now c.args.headers.now c.args.head c.requires.window c.requires.room c.requires.within c.requires.complete in
    found-fault found c.in-Err.fault (sym c.body_length.ensures ∙ c.in-Err.is)

pub returns-then-bytes-end : goal.returns-then-bytes-end
returns-then-bytes-end c =
    let found = found_head c.args.bytes.now c.args.window.now c.args.headers.now c.args.head c.requires.window c.requires.room c.requires.within c.requires.complete in
    found-part found c.in-Ok.len (sym c.body_length.ensures ∙ c.in-Ok.is) c.if-bytes-end.true

pub returns : goal.returns
returns c =
    let found = found_head c.args.bytes.now c.args.window.now c.args.headers.now c.args.head c.requires.window c.requires.room c.requires.within c.requires.complete in
    found-whole found c.in-Ok.len c.closes.result (sym c.body_length.ensures ∙ c.in-Ok.is) c.if-bytes-end.false c.closes.ensures
