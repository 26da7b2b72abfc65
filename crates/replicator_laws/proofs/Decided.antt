-- How a request is decided, step by step.
use Rattle.std.proofs.Common.{◌≡◌, ℕ, ◌≤◌, List, ◌∷◌, ◌++◌, length, Option, Some, Ok, refl, ap, ◌∙◌, arith}
use Rattle.std.proofs.lemmas.Bool.{le-ltb, ne_eqb}
use Rattle.percent_encoding.specs.Percent.{percent_encode}
use Rattle.http_framing.specs.Body.{body_limit}
use Rattle.http_framing.specs.Request.{Request}
use Rattle.http_routing.specs.Target.{path_of, query_of, segment_text}
use Rattle.http_routing.specs.Routes.{route_of}
use Rattle.http_routing.specs.declared.routes.Route.{Route}
use Rattle.http_routing.specs.declared.routes.Method.{Method}
use Rattle.http_client.specs.Request.{request_text}
use Rattle.http_client.specs.declared.target.TheConstants.{SEGMENT}
use Rattle.model.specs.Command.{Id}
use Rattle.document_json.specs.Identity.{id_named}
use Rattle.document_json.specs.Steps.{and_then, or_refused}
use Rattle.document_json.specs.declared.fault.Reason.TheVariants as reason
use Rattle.http_request.specs.Decide.{asked_of, decide, method_found, method_in, method_of, route_found}
use Rattle.http_request.specs.Identity.{path_id}
use Rattle.http_request.specs.Rejections.{Decided}
use Rattle.http_request.specs.declared.asked.Asked.{Asked}
use Rattle.replicator_laws.specs.Calls.{IsPlainId, IsTakenAs}
use Rattle.replicator_laws.specs.Framing.{IsHost, IsMethod, IsTarget, request_with}
use Rattle.replicator_laws.proofs.Bytes.{KeepsUnreserved}
use Rattle.replicator_laws.proofs.Heads.{framed}
use Rattle.replicator_laws.proofs.Paths.{last-behind, no_slash, segment-text}

-- a request with this path and method asks what its route does
pub found : (request : Request) (path : List ℕ) (route : Route) (method : Method) → path_of request.target ≡ path → route_of path ≡ Some route
    → method_of route request.method ≡ Some method → decide request ≡ asked_of route method (path_of request.target) (query_of request.target) request.body
unfolding decide
found request path route method at routed named =
    ap rest (ap route_of at ∙ routed) ∙ ap last named
  where
    rest : Option Route → Decided Asked
    rest o = and_then (route_found o) (λ r. and_then (method_in r request.method) (λ m. asked_of r m (path_of request.target) (query_of request.target) request.body))

    last : Option Method → Decided Asked
    last o = and_then (method_found route o) (λ m. asked_of route m (path_of request.target) (query_of request.target) request.body)

pub named : (id : Id) → IsPlainId id → id_named id ≡ Ok id
named id h =
    let some = h.is_id.not_empty in
    rw (ne_eqb (length id) 0 (λ e. omega arith), le-ltb 512 (length id) h.is_id.short, h.plain) refl

pub id_behind : KeepsUnreserved → (front : List ℕ) (id : Id) → IsPlainId id → path_id (front ++ 47 ∷ percent_encode SEGMENT id) ≡ Ok id
id_behind keeps front id h =
    ap (λ s. and_then (or_refused (segment_text s) reason.Id) id_named) (last-behind front (percent_encode SEGMENT id) (no_slash keeps id))
    ∙ ap (λ t. and_then (or_refused t reason.Id) id_named) (segment-text id h.is_id.text)
    ∙ named id h

-- the text of a request is taken as what the request asks
pub taken : (host method target body : List ℕ) (asked : Asked) → IsHost host → IsMethod method → IsTarget target → length body ≤ body_limit
    → decide (request_with method target body) ≡ Ok asked → IsTakenAs (request_text host method target body) asked
taken host method target body asked is_host is_method is_target fits decided =
    (request_with method target body, framed host method target body is_host is_method is_target fits, refl, decided)
