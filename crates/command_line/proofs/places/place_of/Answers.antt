use Rattle.std.proofs.Common.{◌≡◌, ◌∙◌, sym, subst, string_bytes}
use Rattle.clap.specs.Words.{Text, found_of}
use Rattle.command_line.specs.Places.{NamesPlace}
use Rattle.command_line.proofs.Given.{not_given, was_given, one_text}
use Rattle.command_line.proofs.PlaceTexts.{one-place}
use Rattle.command_line.proofs.places.place_of.Goals as goal

pub returns-in_default-clause-none : goal.returns-in_default-clause-none
returns-in_default-clause-none c = λ reason is place of.
    let none = not_given (λ s. s.now) (found_of c.args.options.now) c.args.name.now c.get_str.result c.get_str.ensures c.in_default.is in
    let some = of.1 in
    cc

pub returns-in_default-place_in-clause-none : goal.returns-in_default-place_in-clause-none
returns-in_default-place_in-clause-none c = λ reason is place of.
    let given = was_given (λ s. s.now) (found_of c.args.options.now) c.args.name.now c.get_str.result c.get_str.ensures c.in-Some.text c.in-Some.is in
    c.in_default-place_in.ensures.none place (subst (λ (text : Text). NamesPlace text place) (one_text _ _ _ of.1 given) of.2)

pub returns-clause-place : goal.returns-clause-place
returns-clause-place c =
    let given = was_given (λ s. s.now) (found_of c.args.options.now) c.args.name.now c.get_str.result c.get_str.ensures c.in-Some.text c.in-Some.is in
    let same : string_bytes c.in_ok-from_str.field-0 ≡ c.in-Some-place_in.place.now = c.in_ok-from_str.ensures.ok in
    (c.in-Some.text.now, given, subst (λ (place : Text). NamesPlace c.in-Some.text.now place) (sym same) c.in-Some-place_in.ensures.place)

pub returns-clause-only : goal.returns-clause-only
returns-clause-only c = λ other of.
    let given = was_given (λ s. s.now) (found_of c.args.options.now) c.args.name.now c.get_str.result c.get_str.ensures c.in-Some.text c.in-Some.is in
    let same : string_bytes c.in_ok-from_str.field-0 ≡ c.in-Some-place_in.place.now = c.in_ok-from_str.ensures.ok in
    one-place c.in-Some.text.now other c.in-Some-place_in.place.now (subst (λ (text : Text). NamesPlace text other) (one_text _ _ _ of.1 given) of.2) c.in-Some-place_in.ensures.place ∙ sym same
