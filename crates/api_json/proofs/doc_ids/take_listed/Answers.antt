use Rattle.std.proofs.Common.{◌≡◌, ◌∙◌, List, Option, ap, codes, option_map, sym, subst}
use Rattle.std.specs.Prelude.{IfOk, option_and_then}
use Rattle.serde_json.specs.Data.{Data}
use Rattle.serde_json.specs.Find.{get_member}
use Rattle.document_json.proofs.Listings.{get-object}
use Rattle.api_json.specs.DocIds.{texts_listed}
use Rattle.api_json.specs.TextLists.{texts_in}
use Rattle.api_json.proofs.doc_ids.take_listed.Goals as goal

pub returns : goal.returns
returns c =
    let listed : texts_listed c.args.value ≡ texts_in c.in-Some-take.listed =
    ap (option_and_then texts_in)
    (get-object (codes "doc_ids") c.args.value ∙ ap (option_and_then (get_member (codes "doc_ids"))) (sym c.in-Some.ensures) ∙ sym c.in-Some-take.ensures.taken) in
    subst (λ (found : Option (List Data)). IfOk c.take_texts.result (λ texts. option_map (λ t. t.items) texts ≡ found)) (sym listed) c.take_texts.ensures
