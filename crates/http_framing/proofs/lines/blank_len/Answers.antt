use Rattle.std.proofs.Common.{◌≡◌, true, sym, ◌∙◌}
use Rattle.std.proofs.lemmas.List.Elements.{All-more}
use Rattle.httparse.specs.Pieces.{is_newline}
use Rattle.http_framing.proofs.lines.blank_len.Goals as goal

pub loop-len-preserved : goal.loop-len-preserved
loop-len-preserved c =
    All-more (λ b. is_newline b ≡ true) c.args.bytes.now c.loop-len.len 0 c.loop-len-test.true c.loop-len.invariant
    (sym c.is_newline.ensures ∙ c.if-not-is_newline.false)
