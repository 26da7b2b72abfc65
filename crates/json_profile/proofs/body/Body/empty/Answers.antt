use Rattle.std.proofs.Common.{sym, ap, ◌∙◌, subst}
use Rattle.json_profile.specs.Texts.{members_read, IsSplit}
use Rattle.json_profile.proofs.Kept.{split_nothing, read_nothing}
use Rattle.json_profile.proofs.body.Body.empty.Goals as goal

pub invariant_of-result : goal.invariant_of-result
invariant_of-result c = subst (λ s. IsSplit 1 s (members_read s)) (sym c.new.ensures.bytes) split_nothing

pub returns : goal.returns
returns c = ap members_read c.new.ensures.bytes ∙ read_nothing
