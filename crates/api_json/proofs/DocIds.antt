-- The texts among some values, with one value more.
use Rattle.std.proofs.Common.{◌≡◌, ℕ, ◌+◌, ◌<◌, List, [], ◌∷◌, ◌++◌, length, take, get_or, Some, None, refl, ap, sym, ◌∙◌}
use Rattle.std.proofs.lemmas.List.{take_more}
use Rattle.std.proofs.lemmas.List.Elements.{filter_map-append}
use Rattle.std.specs.List.{filter_map}
use Rattle.serde_json.specs.Data.{Data}
use Rattle.serde_json.specs.Find.{as_str}

pub texts-more : (values : List Data) (i : ℕ) (d : Data) → i < length values
    → filter_map as_str (take (i + 1) values) ≡ filter_map as_str (take i values) ++ filter_map as_str (get_or values i d ∷ [])
texts-more values i d lt = ap (filter_map as_str) (take_more values i d lt) ∙ filter_map-append as_str (take i values) (get_or values i d ∷ [])

pub one_text : (d : Data) (text : List ℕ) → Some text ≡ as_str d → filter_map as_str (d ∷ []) ≡ text ∷ []
one_text d text is = rw (sym is) refl

pub no_text : (d : Data) → None ≡ as_str d → filter_map as_str (d ∷ []) ≡ []
no_text d is = rw (sym is) refl
