-- HEAD is refused on every route, so what asks for something takes the whole response.
use Rattle.std.proofs.Common.{◌≡◌, ℕ, Bool, true, false, List, None, Result, Ok, Err, refl, ap, ◌∙◌}
use Rattle.std.specs.Prelude.{if◌then◌else◌, codes}
use Rattle.std.specs.Str.{bytes_eq}
use Rattle.std.proofs.lemmas.Slice.Eq.{bytes_eq-Decides}
use Rattle.http_framing.specs.Request.{Request}
use Rattle.http_routing.specs.Target.{path_of, query_of}
use Rattle.http_routing.specs.declared.routes.Route.{Route}
use Rattle.http_routing.specs.declared.routes.Route.TheVariants as route
use Rattle.http_routing.specs.declared.routes.Method.{Method}
use Rattle.document_json.specs.Steps.{and_then}
use Rattle.http_request.specs.Decide.{asked_of, decide, method_found, method_in, method_of, route_in}
use Rattle.http_request.specs.Extent.{extent_of}
use Rattle.http_request.specs.Rejections.{Decided}
use Rattle.http_request.specs.declared.asked.Asked.{Asked}
use Rattle.http_request.specs.declared.extent.Extent.TheVariants as extent
use Rattle.http_request.specs.declared.rejection.Rejection.TheVariants as rejection

-- HEAD is a method of no route
no_head : (route : Route) → method_of route (codes "HEAD") ≡ None
no_head route.Root = refl
no_head route.Database = refl
no_head route.DatabaseSlash = refl
no_head route.AllDocs = refl
no_head route.BulkDocs = refl
no_head route.Changes = refl
no_head route.Compact = refl
no_head route.Local = refl
no_head route.Purge = refl
no_head route.PurgedInfosLimit = refl
no_head route.RevsDiff = refl
no_head route.RevsLimit = refl
no_head route.Document = refl

-- nothing comes of a check that refuses
stopped : {X Y E : Type 0} (why : E) (found : Result X E) (next : X → Result Y E) (y : Y) → found ≡ Err why → and_then found next ≡ Ok y → ⊥
stopped why (Ok x) next y is asks = cc
stopped why (Err other) next y is asks = cc

never_asked : (found : Decided Route) (name : List ℕ) (next : Route → Method → Decided Asked) (asked : Asked) → name ≡ codes "HEAD"
    → and_then found (λ route. and_then (method_in route name) (next route)) ≡ Ok asked → ⊥
never_asked (Ok route) name next asked is asks =
    stopped (rejection.MethodNotAllowed route) (method_in route name) (next route) asked
    (ap (method_in route) is ∙ ap (method_found route) (no_head route)) asks
never_asked (Err why) name next asked is asks = cc

by_name : (named : Bool) → (named ≡ true → ⊥) → (if named then extent.HeadAlone else extent.Whole) ≡ extent.Whole
by_name true never = absurd (never refl)
by_name false never = refl

pub asked-whole : (request : Request) (asked : Asked) → decide request ≡ Ok asked → extent_of request ≡ extent.Whole
unfolding decide
asked-whole request asked asks =
    by_name (bytes_eq request.method (codes "HEAD")) (λ named.
    never_asked (route_in (path_of request.target)) request.method
    (λ route method. asked_of route method (path_of request.target) (query_of request.target) request.body) asked
    ((bytes_eq-Decides request.method (codes "HEAD")).0 named) asks)
