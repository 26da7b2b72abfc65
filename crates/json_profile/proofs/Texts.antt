-- Names and texts are UTF-8: those of a value that is held, and those of its parts.
use Rattle.std.proofs.Common.{◌≡◌, ℕ, List, [], ◌∷◌, true, ◌&&◌, String, Global, map, string_bytes, refl, sym, subst}
use Rattle.std.proofs.lemmas.Bool.{and_parts, and_from}
use Rattle.std.proofs.lemmas.Str.{IsUtf8-string_bytes, is_utf8-from_IsUtf8}
use Rattle.std.specs.Str.{is_utf8}
use Rattle.serde_json.specs.Data.{Data, Members, member}
use Rattle.serde_json.specs.View.{view, view_step, items_of, members_of}
use Rattle.serde_json.specs.declared.value.Value.{Value, map-Value}
use Rattle.serde_json.specs.declared.value.Value.TheOpen.{Value-F}
use Rattle.serde_json.specs.declared.value.Value.TheFolds.{fold-roll-Value, ind-Value}
use Rattle.model.specs.Profile.{has_utf8, items_have_utf8, members_have_utf8}

-- ---- of a member and those after it

pub utf8_name : (k : List ℕ) (d : Data) (ms : Members) → members_have_utf8 (member k d ms) ≡ true → is_utf8 k ≡ true
utf8_name k d ms h = (and_parts (is_utf8 k) (has_utf8 d) (and_parts (is_utf8 k && has_utf8 d) (members_have_utf8 ms) h).0).0

pub utf8_of : (k : List ℕ) (d : Data) (ms : Members) → members_have_utf8 (member k d ms) ≡ true → has_utf8 d ≡ true
utf8_of k d ms h = (and_parts (is_utf8 k) (has_utf8 d) (and_parts (is_utf8 k && has_utf8 d) (members_have_utf8 ms) h).0).1

pub utf8_after : (k : List ℕ) (d : Data) (ms : Members) → members_have_utf8 (member k d ms) ≡ true → members_have_utf8 ms ≡ true
utf8_after k d ms h = (and_parts (is_utf8 k && has_utf8 d) (members_have_utf8 ms) h).1

pub utf8_from : (k : List ℕ) (d : Data) (ms : Members) → is_utf8 k ≡ true → has_utf8 d ≡ true → members_have_utf8 ms ≡ true → members_have_utf8 (member k d ms) ≡ true
utf8_from k d ms p q r = and_from (is_utf8 k && has_utf8 d) (members_have_utf8 ms) (and_from (is_utf8 k) (has_utf8 d) p q) r

-- ---- a `String` is UTF-8, so every value is

text_utf8 : (s : String Global) → is_utf8 (string_bytes s) ≡ true
text_utf8 s = is_utf8-from_IsUtf8 (string_bytes s) (IsUtf8-string_bytes s)

abbrev HasUtf8 : Value → Type 0
HasUtf8 v = has_utf8 (view v) ≡ true

abbrev Proved : Type 0
Proved = (v : Value) × HasUtf8 v

abbrev value_in : String Global × Proved → String Global × Value
value_in m = (m.0, m.1.0)

items_utf8 : (es : List Proved) → items_have_utf8 (items_of (map view (map (λ (e : Proved). e.0) es))) ≡ true
items_utf8 [] = refl
items_utf8 (e ∷ es) = and_from (has_utf8 (view e.0)) _ e.1 (items_utf8 es)

members_utf8 : (es : List (String Global × Proved)) → members_have_utf8 (members_of (map (λ (m : String Global × Value). (m.0, view m.1)) (map value_in es))) ≡ true
members_utf8 [] = refl
members_utf8 (e ∷ es) = utf8_from (string_bytes e.0) (view e.1.0) _ (text_utf8 e.0) e.1.1 (members_utf8 es)

-- one level, with the proof of each value inside beside it
level_utf8 : (y : Value-F Proved) → has_utf8 (view_step (map-Value Value Data view (map-Value Proved Value (λ (e : Proved). e.0) y))) ≡ true
level_utf8 Value-F.Null = refl
level_utf8 (Value-F.Bool b) = refl
level_utf8 (Value-F.Number n) = refl
level_utf8 (Value-F.String s) = text_utf8 s
level_utf8 (Value-F.Array v) = items_utf8 v.items
level_utf8 (Value-F.Object m) = members_utf8 m.entries

pub has_utf8_view : (v : Value) → HasUtf8 v
has_utf8_view = ind-Value HasUtf8 (λ x y is.
    subst (λ d. has_utf8 d ≡ true) (sym (fold-roll-Value Data view_step x))
    (subst (λ z. has_utf8 (view_step (map-Value Value Data view z)) ≡ true) is (level_utf8 y)))
