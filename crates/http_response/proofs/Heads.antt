-- What is in a head, and how long it is.
use Rattle.std.proofs.Common.{◌≡◌, ℕ, ◌≤◌, List, ◌++◌, append_assoc, length, refl, arith}
use Rattle.http_routing.specs.Routes.{methods_of, name_of}
use Rattle.http_routing.specs.declared.routes.Method.{Method}
use Rattle.http_routing.specs.declared.routes.Method.TheVariants as method
use Rattle.http_routing.specs.declared.routes.Route.{Route}
use Rattle.http_routing.specs.declared.routes.Route.TheVariants as route

pub few_methods : (r : Route) → length (methods_of r) ≤ 3
few_methods route.Root = omega arith
few_methods route.Database = omega arith
few_methods route.DatabaseSlash = omega arith
few_methods route.AllDocs = omega arith
few_methods route.BulkDocs = omega arith
few_methods route.Changes = omega arith
few_methods route.Compact = omega arith
few_methods route.Local = omega arith
few_methods route.Purge = omega arith
few_methods route.PurgedInfosLimit = omega arith
few_methods route.RevsDiff = omega arith
few_methods route.RevsLimit = omega arith
few_methods route.Document = omega arith

pub short_name : (m : Method) → length (name_of m) ≤ 6
short_name method.Get = omega arith
short_name method.Put = omega arith
short_name method.Post = omega arith
short_name method.Delete = omega arith

-- the pieces of a head behind what is there
pub put_behind : (before version status content len named place end allow connection : List ℕ)
    → ((((((((((before ++ version) ++ status) ++ content) ++ len) ++ named) ++ place) ++ end) ++ allow) ++ connection) ++ end)
    ≡ before ++ (((((((((version ++ status) ++ content) ++ len) ++ named) ++ place) ++ end) ++ allow) ++ connection) ++ end)
put_behind before version status content len named place end allow connection = simp append_assoc refl
