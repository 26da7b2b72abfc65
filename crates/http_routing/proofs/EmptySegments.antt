-- A path with an empty segment has no route, but for the root.
use Rattle.std.proofs.Common.{◌≡◌, ℕ, ◌==◌, ◌&&◌, ◌||◌, Bool, true, false, not, nat_lt, List, [], ◌∷◌, ◌++◌, length, take, drop, None, option_map, refl, ap, sym, ◌∙◌, subst}
use Rattle.std.proofs.lemmas.List.{take-append-drop}
use Rattle.std.specs.Cmp.Lexicographic.{bytes_decides}
use Rattle.std.specs.List.{find, list_all, list_any}
use Rattle.std.specs.Str.{bytes_eq}
use Rattle.http_routing.specs.declared.routes.Route.{Route}
use Rattle.http_routing.specs.Routes.{Pattern, Plain, WithId, slash, is_segment, fits, routes, route_of, has_empty_segment, ended_paths}
use Rattle.http_routing.proofs.Walk.{both}

neither : (a b : Bool) → (a || b) ≡ false → (a ≡ false) × (b ≡ false)
neither false false e = (refl, refl)
neither false true e = absurd (cc)
neither true b e = absurd (cc)

not_true : (a : Bool) → not a ≡ true → a ≡ false
not_true true e = absurd (cc)
not_true false e = refl

-- bytes with no slash have no empty segment
has_empty_segment-none : (path : List ℕ) → list_any (λ byte. byte == slash) path ≡ false → has_empty_segment path ≡ false
has_empty_segment-none [] none = refl
has_empty_segment-none (byte ∷ []) none = (neither (byte == slash) false none).0
has_empty_segment-none (byte ∷ next ∷ path) none =
    let parts = neither (byte == slash) (list_any (λ b. b == slash) (next ∷ path)) none in
    rw parts.0 (has_empty_segment-none (next ∷ path) parts.1)

has_empty_segment-cons : (byte next : ℕ) (path : List ℕ) → (next == slash) ≡ false → has_empty_segment (next ∷ path) ≡ false
    → has_empty_segment (byte ∷ next ∷ path) ≡ false
has_empty_segment-cons byte next path other none = rw (other, none) (either (byte == slash))
  where
    either : (slashed : Bool) → (slashed && false || false) ≡ false
    either true = refl
    either false = refl

no_slash : (path : List ℕ) → is_segment path ≡ true → list_any (λ byte. byte == slash) path ≡ false
no_slash path segment = not_true _ (both (nat_lt 0 (length path)) (not (list_any (λ byte. byte == slash) path)) segment).1

-- a front and a segment have no empty segment where the front and some byte have none
has_empty_segment-append : (front path : List ℕ) → is_segment path ≡ true → has_empty_segment (front ++ 0 ∷ []) ≡ false
    → has_empty_segment (front ++ path) ≡ false
has_empty_segment-append [] path segment clean = has_empty_segment-none path (no_slash path segment)
has_empty_segment-append (byte ∷ []) [] segment clean = absurd (cc)
has_empty_segment-append (byte ∷ []) (next ∷ path) segment clean =
    let parts = neither (next == slash) (list_any (λ b. b == slash) path) (no_slash (next ∷ path) segment) in
    has_empty_segment-cons byte next path parts.0 (has_empty_segment-none (next ∷ path) (no_slash (next ∷ path) segment))
has_empty_segment-append (byte ∷ next ∷ front) path segment clean =
    let parts = neither (byte == slash && next == slash) (has_empty_segment ((next ∷ front) ++ 0 ∷ [])) clean in
    rw parts.0 (has_empty_segment-append (next ∷ front) path segment parts.1)

-- the paths of a pattern have no empty segment, or are among those that may
abbrev is_clean : Pattern → Bool
is_clean (Plain text) = list_any (bytes_eq text) ended_paths || not (has_empty_segment text)
is_clean (WithId front) = not (has_empty_segment (front ++ 0 ∷ []))

-- one of the two is true, and the first is false
second : (a b : Bool) → (a || b) ≡ true → a ≡ false → b ≡ true
second true b either none = absurd (cc)
second false b either none = either

does_not_fit : (pattern : Pattern) (path : List ℕ) → is_clean pattern ≡ true → has_empty_segment path ≡ true
    → list_any (bytes_eq path) ended_paths ≡ false → fits pattern path ≡ true → ⊥
does_not_fit (Plain text) path clean empty other fit =
    let same = (bytes_decides text path).0 fit in
    let clean_path = subst (λ (t : List ℕ). (list_any (bytes_eq t) ended_paths || not (has_empty_segment t)) ≡ true) same clean in
    let filled = not_true (has_empty_segment path) (second _ _ clean_path other) in
    absurd (cc)
does_not_fit (WithId front) path clean empty other fit =
    let parts = both (bytes_eq front (take (length front) path)) (is_segment (drop (length front) path)) fit in
    let whole : path ≡ front ++ drop (length front) path =
    sym (take-append-drop (length front) path) ∙ ap (λ (x : List ℕ). x ++ drop (length front) path) (sym ((bytes_decides front _).0 parts.0)) in
    let filled = ap has_empty_segment whole ∙ has_empty_segment-append front (drop (length front) path) parts.1 (not_true _ clean) in
    absurd (cc)

false_unless : (b : Bool) → (b ≡ true → ⊥) → b ≡ false
false_unless true never = absurd (never refl)
false_unless false never = refl

no_route : (rows : List (Pattern × Route)) (path : List ℕ) → list_all (λ row. is_clean row.0) rows ≡ true → has_empty_segment path ≡ true
    → list_any (bytes_eq path) ended_paths ≡ false → find (λ row. fits row.0 path) rows ≡ None
no_route [] path clean empty other = refl
no_route (row ∷ rows) path clean empty other =
    let parts = both (is_clean row.0) (list_all (λ r. is_clean r.0) rows) clean in
    rw (false_unless (fits row.0 path) (does_not_fit row.0 path parts.0 empty other)) (no_route rows path parts.1 empty other)

pub route_of-empty : (path : List ℕ) → has_empty_segment path ≡ true → list_any (bytes_eq path) ended_paths ≡ false → route_of path ≡ None
route_of-empty path empty other = ap (option_map (λ row. row.1)) (no_route routes path refl empty other)
