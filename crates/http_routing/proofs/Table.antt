-- The router's rows say the same as the table of routes.
use Rattle.std.proofs.Common.{◌≡◌, ℕ, ◌<◌, ◌==◌, ◌&&◌, ◌||◌, Bool, true, false, cond, nat_lt, List, [], ◌∷◌, ◌++◌, length, take, drop, map, Option, Some, get_or, refl, ap, sym, ◌∙◌, arith}
use Rattle.std.proofs.lemmas.Bool.Decides.{nat_tests}
use Rattle.std.proofs.lemmas.List.Elements.{All-from_get_or}
use Rattle.std.specs.Prelude.{option_map}
use Rattle.std.specs.List.{find, list_all, list_any}
use Rattle.std.specs.Str.{bytes_eq}
use Rattle.matchit.specs.Rows.{RowsOf, param_token}
use Rattle.matchit.specs.Router.{RouteOf}
use Rattle.matchit.specs.Seek.{has_slash, first}
use Rattle.http_routing.specs.declared.routes.Route.{Route}
use Rattle.http_routing.specs.Routes.{Pattern, Plain, WithId, slash, is_segment, fits, routes, route_of}
use Rattle.http_routing.specs.Rows.{row_of, table}
use Rattle.http_routing.proofs.Walk.{IsByte, other_number, both, token_fits, ArePlain-from_test, first_fit, seek-first_fit}

has_slash-any : (path : List ℕ) → has_slash path ≡ list_any (λ byte. byte == slash) path
has_slash-any [] = refl
has_slash-any (byte ∷ path) = either (byte == slash) (has_slash path) _ (has_slash-any path)
  where
    either : (same more any : Bool) → more ≡ any → cond same true more ≡ (same || any)
    either true more any e = refl
    either false more any e = e

abbrev are_bytes : List ℕ → Bool
are_bytes text = list_all (λ byte. nat_lt byte 256) text

token_fits-plain : (text path : List ℕ) → are_bytes text ≡ true → token_fits text path ≡ bytes_eq text path
token_fits-plain [] [] bytes = refl
token_fits-plain [] (byte ∷ path) bytes = refl
token_fits-plain (token ∷ text) [] bytes = refl
token_fits-plain (token ∷ text) (byte ∷ path) bytes =
    let parts = both (nat_lt token 256) (are_bytes text) bytes in
    let other = other_number token 256 (grind (arith, nat_tests)) in
    rw (other, token_fits-plain text path parts.1) refl

and_assoc : (a b c : Bool) → (a && (b && c)) ≡ (a && b && c)
and_assoc true b c = refl
and_assoc false b c = refl

token_fits-id : (front path : List ℕ) → are_bytes front ≡ true
    → token_fits (front ++ param_token ∷ []) path ≡ (bytes_eq front (take (length front) path) && is_segment (drop (length front) path))
token_fits-id [] [] bytes = refl
token_fits-id [] (byte ∷ path) bytes =
    let some : nat_lt 0 (length (byte ∷ path)) ≡ true = grind (arith, nat_tests) in
    rw (some, has_slash-any (byte ∷ path)) refl
token_fits-id (token ∷ front) [] bytes = refl
token_fits-id (token ∷ front) (byte ∷ path) bytes =
    let parts = both (nat_lt token 256) (are_bytes front) bytes in
    let other = other_number token 256 (grind (arith, nat_tests)) in
    rw (other, token_fits-id front path parts.1) (and_assoc (token == byte) _ _)

-- the pattern is made of bytes
abbrev has_bytes : Pattern → Bool
has_bytes (Plain text) = are_bytes text
has_bytes (WithId front) = are_bytes front

token_fits-row : (row : Pattern × Route) (path : List ℕ) → has_bytes row.0 ≡ true → token_fits (row_of row).0 path ≡ fits row.0 path
token_fits-row (Plain text, value) path bytes = token_fits-plain text path bytes
token_fits-row (WithId front, value) path bytes = token_fits-id front path bytes

value_of-row : (row : Pattern × Route) → (row_of row).1.value ≡ row.1
value_of-row (Plain text, value) = refl
value_of-row (WithId front, value) = refl

-- the route that the path fits first, by the rows and by the table
first_fit-rows : (rows : List (Pattern × Route)) (path : List ℕ) → list_all (λ row. has_bytes row.0) rows ≡ true
    → option_map (λ found. found.value) (first_fit (map row_of rows) path) ≡ option_map (λ row. row.1) (find (λ row. fits row.0 path) rows)
first_fit-rows [] path bytes = refl
first_fit-rows (row ∷ rows) path bytes =
    let parts = both (has_bytes row.0) (list_all (λ r. has_bytes r.0) rows) bytes in
    rw (token_fits-row row path parts.0) (either (fits row.0 path) (first_fit (map row_of rows) path) _ (first_fit-rows rows path parts.1))
  where
    either : (fit : Bool) (found : Option (RouteOf Route)) (listed : Option (Pattern × Route))
        → option_map (λ r. r.value) found ≡ option_map (λ r. r.1) listed
        → option_map (λ r. r.value) (cond fit (Some (row_of row).1) found) ≡ option_map (λ r. r.1) (cond fit (Some row) listed)
    either true found listed e = ap Some (value_of-row row)
    either false found listed e = e

-- what the router finds is the route of the path
pub route_of-found : (rows : RowsOf (RouteOf Route)) (path : List ℕ) (found : Option (RouteOf Route)) → rows ≡ table
    → ((i : ℕ) → get_or path i 0 < 256) → first rows path ≡ found → option_map (λ row. row.value) found ≡ route_of path
route_of-found rows path found kept small finds =
    let bytes = All-from_get_or IsByte path 0 (λ i inside. small i) in
    let listed = sym finds ∙ ap (λ (r : RowsOf (RouteOf Route)). first r path) kept ∙ seek-first_fit path table (ArePlain-from_test table refl) bytes in
    ap (option_map (λ (row : RouteOf Route). row.value)) listed ∙ first_fit-rows routes path refl
