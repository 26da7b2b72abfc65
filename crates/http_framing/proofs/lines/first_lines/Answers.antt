use Rattle.std.proofs.Common.{◌≡◌, ◌<◌, List, ℕ, take, drop, subst, arith, length-drop}
use Rattle.std.proofs.lemmas.List.{take_all}
use Rattle.http_framing.specs.Lines.{line_ends, line_limit, IsEnded}
use Rattle.http_framing.proofs.FirstLines.{first_of_many, first_of_few}
use Rattle.http_framing.proofs.lines.first_lines.Goals as goal

pub returns-in-Some : goal.returns-in-Some
returns-in-Some c =
    let start = c.blank_len-start.ensures in
    let len = c.in-Some.len in
    let behind = take_all _ (drop c.blank_len-start.result c.args.bytes.now) (omega (arith, length-drop c.blank_len-start.result c.args.bytes.now)) in
    first_of_many c.args.bytes.now c.blank_len-start.result start.within start.newlines start.begins len
    (subst (λ (x : List ℕ). line_ends (take len x) ≡ line_limit) behind c.in-Some.ensures.1)
    (subst (λ (x : List ℕ). IsEnded (take len x)) behind c.in-Some.ensures.2)

pub returns-in-None : goal.returns-in-None
returns-in-None c =
    let start = c.blank_len-start.ensures in
    let behind = take_all _ (drop c.blank_len-start.result c.args.bytes.now) (omega (arith, length-drop c.blank_len-start.result c.args.bytes.now)) in
    first_of_few c.args.bytes.now c.blank_len-start.result start.within start.newlines start.begins
    (subst (λ (x : List ℕ). line_ends x < line_limit) behind c.in-None.ensures)
