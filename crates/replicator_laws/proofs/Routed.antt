-- The routes of the paths.
use Rattle.std.proofs.Common.{◌≡◌, ◌≢◌, ℕ, true, false, List, ◌∷◌, ◌++◌, refl, sym, ap, ◌∙◌, arith, ⊎_elim}
use Rattle.std.specs.Prelude.{codes, Some, nat_eq}
use Rattle.std.proofs.lemmas.Bool.{cases_Bool, ne_eqb}
use Rattle.percent_encoding.specs.AsciiSet.{should_percent_encode}
use Rattle.percent_encoding.specs.Percent.{percent_encode, percent_encode_byte}
use Rattle.percent_encoding.proofs.PercentLemmas.{percent_encode_escaped, percent_encode_kept}
use Rattle.http_routing.specs.Routes.{is_segment, route_of}
use Rattle.http_routing.specs.declared.routes.Route.TheVariants as route
use Rattle.http_client.specs.declared.target.TheConstants.{SEGMENT}

pub changes_route : route_of (codes "/db/_changes") ≡ Some route.Changes
changes_route = refl

pub bulk_route : route_of (codes "/db/_bulk_docs") ≡ Some route.BulkDocs
bulk_route = refl

pub diff_route : route_of (codes "/db/_revs_diff") ≡ Some route.RevsDiff
diff_route = refl

pub local_route : (segment : List ℕ) → is_segment segment ≡ true → route_of (codes "/db/_local/" ++ segment) ≡ Some route.Local
local_route segment h = rw h refl

document_route : (b : ℕ) (rest : List ℕ) → b ≢ 95 → is_segment (b ∷ rest) ≡ true → route_of (codes "/db/" ++ (b ∷ rest)) ≡ Some route.Document
document_route b rest other h =
    let apart : nat_eq 95 b ≡ false = ne_eqb 95 b (λ e. other (sym e)) in
    rw (apart, h) refl

-- the first byte of a segment is that of the id, or the sign of an escape
abbrev BeginsPlain : List ℕ → Type 0
BeginsPlain segment = (b : ℕ) × (rest : List ℕ) × (segment ≡ b ∷ rest) × (b ≢ 95)

begins : (c : ℕ) (cs : List ℕ) → c ≢ 95 → BeginsPlain (percent_encode SEGMENT (c ∷ cs))
unfolding percent_encode_byte
begins c cs other = ⊎_elim
    (λ e. (37, _, percent_encode_escaped SEGMENT c cs e, λ is. omega arith))
    (λ e. (c, _, percent_encode_kept SEGMENT c cs e, other))
    (cases_Bool (should_percent_encode SEGMENT c))

pub id_route : (c : ℕ) (cs : List ℕ) → c ≢ 95 → is_segment (percent_encode SEGMENT (c ∷ cs)) ≡ true
    → route_of (codes "/db/" ++ percent_encode SEGMENT (c ∷ cs)) ≡ Some route.Document
id_route c cs other h =
    let first = begins c cs other in
    ap (λ s. route_of (codes "/db/" ++ s)) first.2 ∙ document_route first.0 first.1 first.3 (sym (ap is_segment first.2) ∙ h)
