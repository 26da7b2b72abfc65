use Rattle.std.proofs.Common.{◌≡◌, ◌∙◌, ◌+◌, ◌-◌, ◌≤◌, ℕ, List, ◌++◌, length, drop, refl, ap, sym, subst, arith, length-append, length-drop}
use Rattle.std.specs.Io.KnownBytes.{Appends}
use Rattle.std.proofs.KnownBytes.{Appends-trans}
use Rattle.http_guard.specs.declared.extended.Phase.TheVariants as phase
use Rattle.http_guard.proofs.Parts.{Appends-kept, grown}
use Rattle.http_guard.proofs.extended.Extended.write_lines.Goals as goal

pub returns-in_default-clause-cut : goal.returns-in_default-clause-cut
returns-in_default-clause-cut g c =
    let from = c.args.from in
    let at = c.loop-at.at in
    let place : at ≡ from + (at - from) = omega (arith, c.loop-at.invariant.0) in (
      at - from,
      omega (arith, c.loop-at.invariant.0, c.loop-at-test.true, c.requires, length-drop from g.K.Start.lines),
      Appends-kept _ _ _ _ c.loop-at.invariant.1 c.in_default.ensures.bytes,
      λ is. c.loop-at.invariant.2 is ∙ ap phase.Lines place,
    )

pub overflow_add-at : goal.overflow_add-at
overflow_add-at g c =
    let front = c.allowing_part.ensures.front in
    let part = c.allowing_part.result.now in
    let is : drop c.loop-at.at g.K.Start.lines ≡ part ++ front.0 = ap (drop c.loop-at.at) (sym c.loop-at.self.lines) ∙ front.1 in
    let within : c.loop-at.at + c.in-Ok.taken ≤ c.args.len =
    omega (arith, c.in-Ok.ensures.within, c.loop-at-test.true, c.requires, ap length is, length-append part front.0, length-drop c.loop-at.at g.K.Start.lines) in
    omega (arith, within, c.ranges.len.fits)

pub loop-at-preserved : goal.loop-at-preserved
loop-at-preserved g c =
    let front = c.allowing_part.ensures.front in
    let part = c.allowing_part.result.now in
    let is : drop c.loop-at.at g.K.Start.lines ≡ part ++ front.0 = ap (drop c.loop-at.at) (sym c.loop-at.self.lines) ∙ front.1 in (
      omega (arith, c.loop-at.invariant.0),
      subst (λ (xs : List ℕ). Appends (g.W.Sink.taken c.args.self.now.writer) (g.W.Sink.taken c.write.new.self) xs)
          (grown g.K.Start.lines part front.0 c.args.from c.loop-at.at c.in-Ok.taken c.loop-at.invariant.0 is c.in-Ok.ensures.within)
          (Appends-trans _ _ _ _ _ c.loop-at.invariant.1 c.in-Ok.ensures.bytes),
      λ same. refl,
      c.in-Ok.ensures.failures.0 ∙ c.loop-at.invariant.3,
    )
