use Rattle.std.proofs.Common.{◌∷◌, [], length, Some, sym, ap, ◌∙◌, arith}
use Rattle.std.proofs.lemmas.List.{length-append}
use Rattle.history_dump.proofs.Snocs.{snocs}
use Rattle.history_dump.proofs.first.without_feed.Goals as goal

pub returns-in_default : goal.returns-in_default
returns-in_default c = λ text is.
    let long = ap length is ∙ length-append text (10 ∷ []) in
    let none = c.in_default.ensures.cases in
    absurd (omega (arith, long, none))

pub returns : goal.returns
returns c = λ text is. ap Some (snocs c.in-Some.text.now text c.in-Some._feed.now 10 (sym c.in-Some.ensures.cases.0 ∙ is)).0
