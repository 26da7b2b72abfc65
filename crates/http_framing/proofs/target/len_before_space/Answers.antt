use Rattle.std.proofs.Common.{◌≡◌, true, sym, ◌∙◌}
use Rattle.std.proofs.lemmas.List.Elements.{All-more}
use Rattle.http_framing.specs.Target.{is_other}
use Rattle.http_framing.proofs.target.len_before_space.Goals as goal

pub loop-len-preserved : goal.loop-len-preserved
loop-len-preserved c =
    All-more (λ b. is_other b ≡ true) c.args.bytes.now c.loop-len.len 0 c.loop-len-test.true c.loop-len.invariant
    (sym c.is_other.ensures ∙ c.if-not-is_other.false)
