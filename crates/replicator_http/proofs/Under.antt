-- What a list and an object say.
use Rattle.std.proofs.Common.{◌≡◌, ℕ, List, [], ◌∷◌, length, true, Option, Some, Ok, T, refl, ap, sym, ◌∙◌, subst, arith}
use Rattle.std.proofs.lemmas.Bool.Decides.{nat_tests}
use Rattle.std.specs.Prelude.{◌==◌, option_and_then, option_map}
use Rattle.std.specs.FinMap.Entries.{is_sorted}
use Rattle.serde_json.specs.Data.{Data, Items, Members}
use Rattle.serde_json.specs.Find.{as_array, as_object, get_member}
use Rattle.serde_json.specs.View.{items_of, items_view}
use Rattle.serde_json.specs.declared.value.Value.{Value}
use Rattle.model.specs.Command.{Id, names}
use Rattle.model.specs.Map.{Map, entries, from_list, same_list}
use Rattle.model.specs.Profile.{members_ordered}
use Rattle.model.specs.Query.{Difference}
use Rattle.document_json.specs.Each.{each}
use Rattle.document_json.specs.Identity.{id_named}
use Rattle.document_json.specs.Lists.{values_of}
use Rattle.document_json.specs.Steps.{Checked, and_then, or_refused}
use Rattle.document_json.specs.declared.fault.Reason.TheVariants as reason
use Rattle.document_json.proofs.Listings.{values_of-items_of}
use Rattle.api_json.specs.NamedRevisions.{pairs_in}
use Rattle.api_json.proofs.NamedRevisions.{each-keys, id-text, pairs-rise, parts, rising-list, rising_ids, same_ok, sorted-ids}
use Rattle.replicator_http.specs.Bulk.{is_empty}
use Rattle.replicator_http.specs.Differences.{difference_in, named_difference}
use Rattle.replicator_http.specs.Members.{list_under}
use Rattle.replicator_http.specs.Opened.{all_opened_in, opened_in}

pub listed-under : (name : List ℕ) (d list : Data) (ms : Members) (values : List Data) → Some ms ≡ as_object d → Some list ≡ get_member name ms
    → Some (items_of values) ≡ as_array list → list_under name d ≡ Ok values
listed-under name d list ms values a b e =
    let of_items : Option Items → Checked (List Data) = λ found. or_refused (option_map values_of found) reason.Shape in
    let of_list : Option Data → Checked (List Data) = λ found. of_items (option_and_then as_array found) in
    let of_object : Option Members → Checked (List Data) = λ found. of_list (option_and_then (get_member name) found) in
    let ok : List Data → Checked (List Data) = λ vs. Ok vs in
    ap of_object (sym a) ∙ ap of_list (sym b) ∙ ap of_items (sym e) ∙ ap ok (values_of-items_of values)

pub all-listed : (d : Data) (values : List Data) → Some (items_of values) ≡ as_array d → all_opened_in d ≡ each opened_in values
all-listed d values e =
    ap (λ found. and_then (or_refused (option_map values_of found) reason.Shape) (each opened_in)) (sym e)
    ∙ ap (each opened_in) (values_of-items_of values)

pub empty-view : (values : List Value) → (length values == 0) ≡ is_empty (items_view values)
empty-view [] = refl
empty-view (value ∷ values) = grind (arith, nat_tests)

-- ---- the ids of an object's members rise

difference-key : (pair : List ℕ × Data) (d : Id × Difference) → named_difference pair ≡ Ok d → d.0 ≡ pair.0
difference-key pair d h =
    let first = parts (id_named pair.0) (λ id. and_then (difference_in pair.1) (λ x. Ok (id, x))) d h in
    let second = parts (difference_in pair.1) (λ x. Ok (first.0, x)) d first.1.1 in
    ap (λ n. n.0) (sym (same_ok (first.0, second.0) d second.1.1)) ∙ id-text pair.0 first.0 first.1.0

pub differences-rise : (ms : Members) (documents : List (Id × Difference)) → members_ordered ms ≡ true
    → each named_difference (pairs_in ms) ≡ Ok documents → T (is_sorted names.cmp documents)
differences-rise ms documents ordered h =
    let keys = each-keys named_difference (λ p. p.0) (λ d. d.0) difference-key (pairs_in ms) documents h in
    subst T (sorted-ids (pairs_in ms) ∙ ap (λ ids. rising_ids ids) (sym keys) ∙ sym (sorted-ids documents)) (pairs-rise ms ordered)

pub differences-map : (documents : List (Id × Difference)) (told : Map names Difference) → T (is_sorted names.cmp documents)
    → entries told ≡ documents → from_list documents ≡ told
differences-map documents told rises is = same_list (from_list documents) told (rising-list documents rises ∙ sym is)
