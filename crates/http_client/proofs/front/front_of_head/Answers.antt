use Rattle.std.proofs.Common.{sym, ◌∙◌, arith, inr}
use Rattle.http_client.proofs.Parts.{found_head, found-fits, found-no_length, found-part, found-whole}
use Rattle.http_client.proofs.front.front_of_head.Goals as goal

pub returns-in_default : goal.returns-in_default
returns-in_default c =
    let found = found_head c.args.bytes.now c.args.window.now c.args.headers.now c.args.head c.requires.window c.requires.room c.requires.within c.requires.complete in
    inr (inr (found-no_length found (sym c.told_length.ensures ∙ c.in_default.is)))

pub overflow_add-end : goal.overflow_add-end
overflow_add-end c =
    let found = found_head c.args.bytes.now c.args.window.now c.args.headers.now c.args.head c.requires.window c.requires.room c.requires.within c.requires.complete in
    omega (arith, found-fits found c.in-Some.len (sym c.told_length.ensures ∙ c.in-Some.is))

pub returns-then-bytes-end : goal.returns-then-bytes-end
returns-then-bytes-end c =
    let found = found_head c.args.bytes.now c.args.window.now c.args.headers.now c.args.head c.requires.window c.requires.room c.requires.within c.requires.complete in
    found-part found c.in-Some.len (sym c.told_length.ensures ∙ c.in-Some.is) c.if-bytes-end.true

pub returns : goal.returns
returns c =
    let found = found_head c.args.bytes.now c.args.window.now c.args.headers.now c.args.head c.requires.window c.requires.room c.requires.within c.requires.complete in
    found-whole found c.in-Some.len (sym c.told_length.ensures ∙ c.in-Some.is) c.if-bytes-end.false
