use Rattle.std.proofs.Common.{◌≡◌, ◌∷◌, [], List, ℕ, Some, refl, sym, ap, ◌∙◌, arith}
use Rattle.model.specs.History.{Chronicle}
use Rattle.history_dump.specs.Dump.{first_line, BeginsAt}
use Rattle.replay_cli.specs.Lines.{lines, lines_or_one}
use Rattle.replay_cli.specs.Verdicts.{begun_with}
use Rattle.replay_cli.proofs.Readable.{dump-read, dump-only, unreadable-behind}
use Rattle.replay_cli.proofs.read.read_dump.Goals as goal

some_same : {X : Type 0} (x y : X) → Some x ≡ Some y → y ≡ x
some_same x y is = cc

pub returns-in_default-clause-unreadable : goal.returns-in_default-clause-unreadable
returns-in_default-clause-unreadable c =
    record {
      before = [];
      line = c.cut_line.result.0.now;
      after = lines c.cut_line.result.1.now;
      lines_are = c.cut_line.ensures.lines;
      readable = tt;
      unreadable = λ named.
          let begun : Chronicle = begun_with named.0 [] in
          c.in_default.not-Some begun ((c.in_ok-begun.ensures begun).1 (record { entries = refl; first = named.1; line_is = named.2 }));
      number_is = omega arith;
    }

pub returns-in-Ok-clause-begun : goal.returns-in-Ok-clause-begun
returns-in-Ok-clause-begun c =
    let begun : Chronicle = c.in-Some.begun in
    let at : BeginsAt c.cut_line.result.0.now begun = (c.in_ok-begun.ensures begun).0 c.in-Some.is in
    λ i. record { base = begun.base; entries = at.entries i }

pub returns-in-Ok-clause-dump : goal.returns-in-Ok-clause-dump
returns-in-Ok-clause-dump c =
    let begun : Chronicle = c.in-Some.begun in
    let rest = c.cut_line.result.1.now in
    let at : BeginsAt c.cut_line.result.0.now begun = (c.in_ok-begun.ensures begun).0 c.in-Some.is in
    let cut : lines_or_one c.args.dump.now ≡ first_line begun.base ∷ lines rest = c.cut_line.ensures.lines ∙ ap (λ (l : List ℕ). l ∷ lines rest) at.line_is in
    dump-read c.args.dump.now rest begun.base at.first cut c.in-Ok.entries.items (rw c.in-Ok.is at c.in_ok-entries.ensures.read) (rw c.in-Ok.is at c.in_ok-entries.ensures.places)

pub returns-in-Ok-clause-only : goal.returns-in-Ok-clause-only
returns-in-Ok-clause-only c =
    let begun : Chronicle = c.in-Some.begun in
    let rest = c.cut_line.result.1.now in
    let at : BeginsAt c.cut_line.result.0.now begun = (c.in_ok-begun.ensures begun).0 c.in-Some.is in
    let cut : lines_or_one c.args.dump.now ≡ first_line begun.base ∷ lines rest = c.cut_line.ensures.lines ∙ ap (λ (l : List ℕ). l ∷ lines rest) at.line_is in
    dump-only c.args.dump.now rest begun.base at.first cut
    (λ other first is.
    let named : Chronicle = begun_with other [] in
    ap (λ (v : Chronicle). v.base) (some_same begun named (sym c.in-Some.is ∙ (c.in_ok-begun.ensures named).1 (record { entries = refl; first = first; line_is = at.line_is ∙ is }))))
    c.in-Ok.entries.items (rw c.in-Ok.is at c.in_ok-entries.ensures.read)

pub returns-in-Err-clause-unreadable : goal.returns-in-Err-clause-unreadable
returns-in-Err-clause-unreadable c =
    let begun : Chronicle = c.in-Some.begun in
    let rest = c.cut_line.result.1.now in
    let at : BeginsAt c.cut_line.result.0.now begun = (c.in_ok-begun.ensures begun).0 c.in-Some.is in
    let cut : lines_or_one c.args.dump.now ≡ first_line begun.base ∷ lines rest = c.cut_line.ensures.lines ∙ ap (λ (l : List ℕ). l ∷ lines rest) at.line_is in
    unreadable-behind c.args.dump.now rest begun.base at.first cut c.in-Err.number (rw c.in-Err.is at c.in_ok-entries.ensures.unreadable)
