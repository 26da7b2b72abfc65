-- One text more, a part that is none, and the last part.
use Rattle.std.proofs.Common.{◌∙◌, List, Some, map, option_map, ap, sym, subst, string_bytes, rules}
use Rattle.clap.specs.Words.{Text}
use Rattle.command_line.specs.Listed.{item_of}
use Rattle.command_line.proofs.Lists.{IsListedTo, listed-ended, listed-last, listed-more, listed-start, listed-stopped, map-push}
use Rattle.command_line.proofs.listed.texts_listed.Goals as goal

pub loop-part-init : goal.loop-part-init
loop-part-init c = (search rules, subst (λ (l : List Text). IsListedTo (item_of c.args.of) c.args.list.now l c.args.list.now) (ap (map string_bytes) (sym c.new-texts.ensures.items)) (listed-start (item_of c.args.of) c.args.list.now))

pub returns-in_default-2 : goal.returns-in_default-2
returns-in_default-2 c =
    sym (listed-stopped (item_of c.args.of) c.args.list.now c.loop-part.rest.now c.in-Some.part.now c.in-Some.after.now (map string_bytes c.loop-part.texts.items) c.loop-part.invariant.1 c.in-Some.ensures.some
    (sym c.in_ok-text.ensures ∙ ap (option_map string_bytes) c.in_default-2.is))

pub loop-part-preserved : goal.loop-part-preserved
loop-part-preserved c =
    let pushed = ap (map string_bytes) c.in_ok-push.ensures.items ∙ map-push string_bytes c.loop-part.texts.items c.in-Some-2.text in
    let more = listed-more (item_of c.args.of) c.args.list.now c.loop-part.rest.now c.in-Some.part.now c.in-Some.after.now (map string_bytes c.loop-part.texts.items) (string_bytes c.in-Some-2.text) c.loop-part.invariant.1
    c.in-Some.ensures.some (sym c.in_ok-text.ensures ∙ ap (option_map string_bytes) c.in-Some-2.is) in
    (search rules, subst (λ (l : List Text). IsListedTo (item_of c.args.of) c.args.list.now l c.in-Some.after.now) (sym pushed) more)

pub returns-in_default-3 : goal.returns-in_default-3
returns-in_default-3 c =
    sym (listed-ended (item_of c.args.of) c.args.list.now c.loop-part.rest.now (map string_bytes c.loop-part.texts.items) c.loop-part.invariant.1 c.in_default.ensures.none
    (sym c.in_ok-text-2.ensures ∙ ap (option_map string_bytes) c.in_default-3.is))

pub returns : goal.returns
returns c =
    let pushed = ap (map string_bytes) c.in_ok-push-2.ensures.items ∙ map-push string_bytes c.loop-part.texts.items c.in-Some-3.text in
    ap Some pushed
    ∙ sym (listed-last (item_of c.args.of) c.args.list.now c.loop-part.rest.now (map string_bytes c.loop-part.texts.items) (string_bytes c.in-Some-3.text) c.loop-part.invariant.1 c.in_default.ensures.none
    (sym c.in_ok-text-2.ensures ∙ ap (option_map string_bytes) c.in-Some-3.is))
