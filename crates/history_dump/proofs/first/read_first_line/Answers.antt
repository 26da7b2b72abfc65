use Rattle.std.proofs.Common.{sym, ◌∙◌}
use Rattle.history_dump.proofs.Begun.{begun, none_begun, not_begun}
use Rattle.history_dump.proofs.first.read_first_line.Goals as goal

pub returns-in_default : goal.returns-in_default
returns-in_default c = none_begun c.args.line.now (λ v begins. rw c.in_default.is at (c.in_ok-version.ensures.found v begins))

pub returns-then-is_text : goal.returns-then-is_text
returns-then-is_text c =
    begun c.args.line.now c.in-Some.version (rw c.in-Some.is at c.in_ok-version.ensures.within) (c.is_text.ensures.0 c.if-is_text.true ∙ c.as_str.ensures.value ∙ c.in_ok-text.ensures)
    (λ v begins. rw c.in-Some.is at (c.in_ok-version.ensures.found v begins))

pub returns : goal.returns
returns c =
    not_begun c.args.line.now c.in-Some.version
    (λ is. let yes = c.is_text.ensures.1 (is ∙ sym (c.as_str.ensures.value ∙ c.in_ok-text.ensures)) in let no = c.if-is_text.false in absurd (cc))
    (λ v begins. rw c.in-Some.is at (c.in_ok-version.ensures.found v begins))
