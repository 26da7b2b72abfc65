use Rattle.std.proofs.Common.{rules, List, ℕ, subst}
use Rattle.httparse.specs.Grammar.{HasNoRequest, MayBecomeRequest, NeverHasRequest, EndsInTarget}
use Rattle.http_framing.proofs.FirstLines.{exceeding_lines, no_head, no_whole_head, part_of_no_head}
use Rattle.http_framing.proofs.front.fault_of_no_head.Goals as goal

pub unreachable-requires : goal.unreachable-requires
unreachable-requires c =
    let first = rw c.requires.window at c.first_lines-lines.ensures in
    let never = subst NeverHasRequest c.requires.window c.requires.never in
    let head = rw c.in-Ok-Complete.field-0-is at c.in-Ok-Complete.ensures.complete in
    no_whole_head c.args.bytes.now first never head.0 _ head.1.reads

pub returns-in-Err : goal.returns-in-Err
returns-in-Err c =
    let first = rw c.requires.window at c.first_lines-lines.ensures in
    let P : List ℕ → Type 0 = λ x. ¬ (EndsInTarget x) in
    no_head c.args.bytes.now first (subst NeverHasRequest c.requires.window c.requires.never) (subst P c.requires.window c.requires.past) (search rules)

pub returns-in-Ok-Partial : goal.returns-in-Ok-Partial
returns-in-Ok-Partial c =
    let first = rw c.requires.window at c.first_lines-lines.ensures in
    let P : List ℕ → Type 0 = λ x. ¬ (EndsInTarget x) in
    let none : HasNoRequest c.first_lines-lines.result.bytes.now = search rules in
    let may : MayBecomeRequest c.first_lines-lines.result.bytes.now = search rules in
    part_of_no_head c.args.bytes.now first (subst NeverHasRequest c.requires.window c.requires.never) (subst P c.requires.window c.requires.past) none may

pub returns-in-Ok-Partial-2 : goal.returns-in-Ok-Partial-2
returns-in-Ok-Partial-2 c =
    let first = rw c.requires.window at c.first_lines-lines.ensures in
    exceeding_lines c.args.bytes.now first (search rules)
