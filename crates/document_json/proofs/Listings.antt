-- The documents that a bulk lists.
use Rattle.std.proofs.Common.{◌≡◌, ℕ, ◌<◌, ◌≤◌, List, [], ◌∷◌, length, Some, None, Bool, true, false, refl, sym, ap, ◌∙◌, arith}
use Rattle.std.specs.Prelude.{codes, nat_le, option_map, option_and_then, if◌then◌else◌}
use Rattle.std.proofs.lemmas.Bool.{le-leb, leb-true}
use Rattle.serde_json.specs.Data.{Data, null, boolean, number, string, array, object, Members}
use Rattle.serde_json.specs.Find.{as_array, as_object, get, get_member}
use Rattle.serde_json.specs.View.{items_of}
use Rattle.model.specs.Command.{max_edits}
use Rattle.document_json.specs.Bulk.{few, listed_in}
use Rattle.document_json.specs.Lists.{values_of}

pub get-object : (name : List ℕ) (d : Data) → get name d ≡ option_and_then (get_member name) (as_object d)
get-object name null = refl
get-object name (boolean b) = refl
get-object name (number n) = refl
get-object name (string s) = refl
get-object name (array ds) = refl
get-object name (object ms) = refl

pub values_of-items_of : (values : List Data) → values_of (items_of values) ≡ values
values_of-items_of [] = refl
values_of-items_of (value ∷ values) = ap (λ vs. value ∷ vs) (values_of-items_of values)

pub listed-few : (d : Data) (ms : Members) (docs : Data) (values : List Data) → Some ms ≡ as_object d → Some docs ≡ get_member (codes "docs") ms → Some (items_of values) ≡ as_array docs → listed_in d ≡ few values
listed-few d ms docs values a b e =
    ap (λ found. option_and_then few (option_map values_of (option_and_then as_array found)))
    (get-object (codes "docs") d ∙ ap (option_and_then (get_member (codes "docs"))) (sym a) ∙ sym b)
    ∙ ap (λ found. option_and_then few (option_map values_of found)) (sym e)
    ∙ ap few (values_of-items_of values)

pub few-all : (values : List Data) → length values ≤ max_edits → few values ≡ Some values
few-all values h = ap (λ test. if test then Some values else None) (le-leb (length values) max_edits h)

too_many : (values : List Data) (test : Bool) (most : ℕ) → nat_le (length values) most ≡ test → most < length values → (if test then Some values else None) ≡ None
too_many values false most is lt = refl
too_many values true most is lt = let le = leb-true (length values) most is in absurd (omega arith)

pub few-none : (values : List Data) → max_edits < length values → few values ≡ None
few-none values lt = too_many values _ max_edits refl lt
