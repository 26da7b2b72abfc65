use Rattle.std.proofs.Common.{◌≡◌, ◌<◌, ◌≤◌, ℕ, List, [], ◌∷◌, ◌++◌, length, rules, Some, sym, ap, subst, ◌∙◌, arith}
use Rattle.std.specs.List.{AllZip}
use Rattle.std.proofs.lemmas.List.{append_assoc, length-append}
use Rattle.model.specs.Command.{Entry}
use Rattle.replay_cli.specs.Lines.{lines}
use Rattle.replay_cli.specs.Places.{last_place}
use Rattle.replay_cli.specs.Reading.{IsRead}
use Rattle.replay_cli.proofs.Cuts.{some_lines}
use Rattle.replay_cli.proofs.Readable.{read-push, stops}
use Rattle.replay_cli.proofs.read.read_entries.Goals as goal

some_same : {X : Type 0} (x y : X) → Some x ≡ Some y → y ≡ x
some_same x y is = cc

pub returns-in_default-clause-unreadable : goal.returns-in_default-clause-unreadable
returns-in_default-clause-unreadable c =
    let so_far = c.loop-rest.invariant in
    let some : 0 < length c.loop-rest.rest.now = search rules in
    let cut = sym (some_lines c.loop-rest.rest.now some) ∙ c.cut_line.ensures.lines in
    stops (lines c.args.text.now) so_far.0 c.loop-rest.entries.items c.cut_line.result.0.now (lines c.cut_line.result.1.now) _
    (so_far.1 ∙ ap (λ (ls : List (List ℕ)). so_far.0 ++ ls) cut) so_far.2 so_far.3 (omega (arith, c.len-in_default.ensures))
    (λ e low within line. let found = (c.in_ok-entry.ensures e).1 (omega (arith, low, c.len.ensures), within, line) in absurd (c.in_default.not-Some e found))

pub loop-rest-preserved : goal.loop-rest-preserved
loop-rest-preserved c =
    let so_far = c.loop-rest.invariant in
    let entry = c.in-Some.entry in
    let line = c.cut_line.result.0.now in
    let some : 0 < length c.loop-rest.rest.now = search rules in
    let cut = sym (some_lines c.loop-rest.rest.now some) ∙ c.cut_line.ensures.lines in
    let of = (c.in_ok-entry.ensures entry).0 c.in-Some.is in
    let read : IsRead line entry = record {
      within = of.1;
      line_is = of.2;
      only = λ other within is. some_same entry other (sym c.in-Some.is ∙ (c.in_ok-entry.ensures other).1 (of.0, within, is));
    } in
    let pushed = c.in_ok-push.ensures.items in (
      so_far.0 ++ line ∷ [],
      so_far.1 ∙ ap (λ (ls : List (List ℕ)). so_far.0 ++ ls) cut ∙ sym (append_assoc so_far.0 (line ∷ []) (lines c.cut_line.result.1.now)),
      subst (AllZip IsRead (so_far.0 ++ line ∷ [])) (sym pushed) (read-push so_far.0 c.loop-rest.entries.items line entry so_far.2 read),
      subst (λ (es : List Entry). length es ≤ last_place) (sym pushed) (few c.loop-rest.entries.items entry (omega (arith, of.0, c.len.ensures))),
    )
  where
    few : (es : List Entry) (e : Entry) → length es < last_place → length (es ++ e ∷ []) ≤ last_place
    few es e low = omega (arith, length-append es (e ∷ []))
