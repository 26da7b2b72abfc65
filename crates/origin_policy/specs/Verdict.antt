-- What is decided of a request by its headers.
use Rattle.std.specs.Prelude.{ℕ, Bool, true, false, ◌&&◌, not, List, Option, None, Some, codes, if◌then◌else◌}
use Rattle.std.specs.List.{find, list_any}
use Rattle.std.specs.Str.{bytes_eq}
use Rattle.http_framing.specs.Headers.{Header, is_named}
use Rattle.origin_policy.specs.Allowed.{allows_origin, is_all}
use Rattle.origin_policy.specs.Names.{is_own_host}
use Rattle.origin_policy.specs.declared.policy.Policy.{Policy}
use Rattle.origin_policy.specs.declared.judging.Forbidden.{Forbidden}
use Rattle.origin_policy.specs.declared.judging.Forbidden.TheVariants as forbidden
use Rattle.origin_policy.specs.declared.judging.Verdict.{Verdict}
use Rattle.origin_policy.specs.declared.judging.Verdict.TheVariants as verdict

-- it is answered as it is; answered with the lines for a page of this origin; answered by the lines alone; or refused
pub data Decision : Type 0 where
  Passes : Decision
  PassesTo : List ℕ → Decision
  Preflight : List ℕ → Decision
  IsForbidden : Forbidden → Decision

-- the decision that a verdict is
abbrev pub decision_of : Verdict → Decision
decision_of verdict.Pass = Passes
decision_of (verdict.PassTo origin) = PassesTo origin.now
decision_of (verdict.Preflight origin) = Preflight origin.now
decision_of (verdict.Forbidden reason) = IsForbidden reason

-- the header is an `Origin` that is not allowed
-- RFC 6454, 7 "The HTTP Origin Header Field"
abbrev pub is_foreign_origin : Policy → Header → Bool
is_foreign_origin policy header = is_named (codes "origin") header && not (allows_origin policy.origins header.1)

-- the header is a `Host` by which the server may not be reached
-- RFC 9110, 7.2 "Host and :authority"
abbrev pub is_foreign_host : Policy → Header → Bool
is_foreign_host policy header = is_named (codes "host") header && not (is_own_host policy.hosts header.1)

-- the header says that a page of another site made the request
-- Fetch Metadata Request Headers, 2.3 "The Sec-Fetch-Site HTTP Request Header"
abbrev pub is_cross_site : Header → Bool
is_cross_site header = is_named (codes "sec-fetch-site") header && bytes_eq header.1 (codes "cross-site")

-- the value of the first `Origin`
-- RFC 6454, 7 "The HTTP Origin Header Field"
abbrev pub origin_of : List Header → Option Header
origin_of headers = find (is_named (codes "origin")) headers

-- a page of another site made the request, and no origin is said, which would decide
abbrev pub is_unsaid_site : Policy → List Header → Bool
is_unsaid_site policy headers =
    not (list_any (is_named (codes "origin")) headers) && (not (is_all policy.origins) && list_any is_cross_site headers)

-- a browser asks whether a page may make a request
-- Fetch Standard, 3.2.2 "HTTP requests": "CORS-preflight request"
abbrev pub is_preflight : List ℕ → List Header → Bool
is_preflight method headers =
    bytes_eq method (codes "OPTIONS") && list_any (is_named (codes "access-control-request-method")) headers

-- a request of a page of this origin, which is not refused
abbrev pub page_admitted : List ℕ → List Header → List ℕ → Decision
page_admitted method headers origin = if is_preflight method headers then Preflight origin else PassesTo origin

-- a request that is not refused, by its first `Origin`
abbrev pub admitted : List ℕ → List Header → Option Header → Decision
admitted method headers None = Passes
admitted method headers (Some origin) = page_admitted method headers origin.1

-- the first reason for which a request is refused, by whether there is each, or what it is else
abbrev pub decided_by : Bool → Bool → Bool → Decision → Decision
decided_by true site host admits = IsForbidden forbidden.Origin
decided_by false true host admits = IsForbidden forbidden.Site
decided_by false false true admits = IsForbidden forbidden.Host
decided_by false false false admits = admits

-- what is decided of a request with this method and these headers
abbrev pub decide : Policy → List ℕ → List Header → Decision
decide policy method headers =
    decided_by (list_any (is_foreign_origin policy) headers) (is_unsaid_site policy headers) (list_any (is_foreign_host policy) headers)
    (admitted method headers (origin_of headers))
