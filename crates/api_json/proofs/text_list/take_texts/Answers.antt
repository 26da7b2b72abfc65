use Rattle.std.proofs.Common.{◌≡◌, ◌∙◌, None, Some, ap, false, rules, sym, true}
use Rattle.std.specs.Prelude.{if◌then◌else◌}
use Rattle.serde_json.specs.Find.{as_array}
use Rattle.serde_json.specs.View.{items_of}
use Rattle.api_json.specs.TextLists.{are_texts}
use Rattle.api_json.proofs.NamedRevisions.{listed-texts}
use Rattle.api_json.proofs.text_list.take_texts.Goals as goal

pub returns-then-not-are_texts : goal.returns-then-not-are_texts
returns-then-not-are_texts c =
    let values = c.in-Some.values.items in
    let array : Some (items_of values) ≡ as_array c.args.value = rw c.in-Some.is at c.in_ok-values.ensures in
    let test : are_texts values ≡ false = search rules in
    sym (listed-texts c.args.value values array ∙ ap (λ b. if b then Some values else None) test)

pub returns : goal.returns
returns c =
    let values = c.in-Some.values.items in
    let array : Some (items_of values) ≡ as_array c.args.value = rw c.in-Some.is at c.in_ok-values.ensures in
    let test : are_texts values ≡ true = search rules in
    sym (listed-texts c.args.value values array ∙ ap (λ b. if b then Some values else None) test)
