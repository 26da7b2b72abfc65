use Rattle.std.proofs.Common.{◌≡◌, ◌∙◌, ap, refl, sym}
use Rattle.std.proofs.lemmas.Option.{same_Some}
use Rattle.revision_runs.specs.declared.run.Run.{Run}
use Rattle.revision_runs.proofs.unlinks.joined.Goals as goal

pub top_of-top-requires : goal.top_of-top-requires
top_of-top-requires c = c.requires.2.ends

pub run_of-above-requires : goal.run_of-above-requires
run_of-above-requires c = (c.top_of-top.ensures.run, c.top_of-top.ensures.is)

pub settled_with-requires : goal.settled_with-requires
settled_with-requires c =
    let e = c.top_of-top.ensures in
    let above = same_Some c.run_of-above.result e.run (sym c.run_of-above.ensures ∙ e.is) in
    let wide : Run = record { fork = c.run_of-above.result.fork; bottom = c.args.left.bottom; low = c.args.left.low } in
    (c.requires.0, c.requires.1, c.requires.2.each c.top_of-top.result c.run_of-above.result wide c.run_of-above.ensures (ap (λ (r : Run). r.bottom) above ∙ e.bottom) refl refl refl)

pub returns : goal.returns
returns c = λ u f j.
    let e = c.top_of-top.ensures in
    let above = same_Some c.run_of-above.result e.run (sym c.run_of-above.ensures ∙ e.is) in
    let wide : Run = record { fork = c.run_of-above.result.fork; bottom = c.args.left.bottom; low = c.args.left.low } in
    c.settled_with.ensures u f (j.each c.top_of-top.result c.run_of-above.result wide c.run_of-above.ensures (ap (λ (r : Run). r.bottom) above ∙ e.bottom) refl refl refl)
