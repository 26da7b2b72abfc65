-- What has passed over a connection.
use Rattle.std.specs.Prelude.{◌≡◌, ℕ, List, [], ◌∷◌, ◌++◌, map, Some}
use Rattle.std.specs.Io.KnownBytes.{Appends}
use Rattle.std.specs.List.{concat}
use Rattle.http_client.specs.Response.{BeginsWithResponse, Response}
use Rattle.replicator_http.specs.Connection.{Connection}
use Rattle.replicator_http.specs.Input.{input_of}

-- the input begins with these responses, one behind the other, and goes on with the rest
-- RFC 9112, 9.3.2 "Pipelining"
abbrev pub BeginsWithAll : List ℕ → List Response → List ℕ → Type 0
BeginsWithAll input [] rest = input ≡ rest
BeginsWithAll input (response ∷ more) rest =
    (behind : List ℕ) × BeginsWithResponse input response behind × BeginsWithAll behind more rest

-- Requests with their responses: the requests were written in this order, and behind them those that are ahead; and the
-- responses were read in this order, the n-th of them for the n-th request.
-- RFC 9112, 9.3.2 "Pipelining"
pub record HasPassed (old new : Connection) (pairs : List (List ℕ × Response)) : Type 0 where
  pub written : Appends old.taken new.taken (concat (map (λ p. p.0) pairs ++ new.ahead))
  pub read : (input : List ℕ) → input_of old ≡ Some input
      → (rest : List ℕ) × BeginsWithAll input (map (λ p. p.1) pairs) rest × (input_of new ≡ Some rest)
