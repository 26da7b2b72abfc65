use Rattle.std.proofs.Common.{◌≡◌, ◌∙◌, sym, ap, ◌++◌}
use Rattle.std.specs.Prelude.{codes}
use Rattle.clap.specs.Words.{Text}
use Rattle.command_line.specs.Places.{IsPlace, NamesPlace}
use Rattle.command_line.proofs.PlaceTexts.{no-place-behind, none-more}
use Rattle.command_line.proofs.places.place_in.Goals as goal

pub returns-in_default-strip_suffix-clause-none : goal.returns-in_default-strip_suffix-clause-none
returns-in_default-strip_suffix-clause-none c =
    let cut = c.in-Some.ensures.cases in
    let url : c.args.text.now ≡ codes "http://" ++ c.in-Some.url.now = cut.1.1 ∙ ap (λ (rest : Text). codes "http://" ++ rest) (sym cut.2) in
    none-more (IsPlace c.in-Some.url.now → ⊥) ((place : Text) → NamesPlace c.args.text.now place → ⊥) c.checked-in_default-strip_suffix.result
    (λ refused place. no-place-behind c.args.text.now c.in-Some.url.now place url c.in_default-strip_suffix.ensures.cases refused)
    c.checked-in_default-strip_suffix.ensures.none
