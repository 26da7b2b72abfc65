-- The requests that a client writes.
use Rattle.std.specs.Prelude.{ℕ, ◌<◌, ◌≤◌, false, List, length, IsUtf8}
use Rattle.httparse.specs.Grammar.{AllPass, IsToken, is_uri_byte, is_value_byte}
use Rattle.http_framing.specs.Request.{Request}

-- the name of a method of a few letters
-- RFC 9110, 9.1 "Overview"
pub record IsMethod (method : List ℕ) : Type 0 where
  pub token : IsToken method
  pub short : length method ≤ 8

-- a target that leaves room for the rest of a head
-- RFC 9112, 3.2 "Request Target"
pub record IsTarget (target : List ℕ) : Type 0 where
  pub not_empty : 0 < length target
  pub bytes : AllPass is_uri_byte target
  pub text : IsUtf8 target
  pub short : length target ≤ 16000

-- a host by its name or its address, and a port
-- RFC 9110, 7.2 "Host and :authority"
pub record IsHost (host : List ℕ) : Type 0 where
  pub bytes : AllPass is_value_byte host
  pub short : length host ≤ 259

-- the request of these parts, after which the connection stays open
abbrev pub request_with : List ℕ → List ℕ → List ℕ → Request
request_with method target body = record { method = method; target = target; body = body; closes = false }
