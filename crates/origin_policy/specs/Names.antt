-- The name of a host in `Host` (RFC 9110, 7.2 "Host and :authority").
use Rattle.std.specs.Prelude.{ℕ, Bool, ◌==◌, ◌||◌, not, List, codes, nat_eq}
use Rattle.std.specs.Char.{is_ascii_digit}
use Rattle.std.specs.List.{before_first, list_all, list_any, starts_with}
use Rattle.origin_policy.specs.Allowed.{allows_host}
use Rattle.origin_policy.specs.declared.policy.Allowed.{Allowed}

-- b'.'
abbrev pub is_dot : ℕ → Bool
is_dot byte = byte == 46

-- b':'
abbrev pub is_colon : ℕ → Bool
is_colon byte = byte == 58

-- what stands before the port
-- RFC 3986, 3.2.2 "Host", 3.2.3 "Port"
abbrev pub host_name : List ℕ → List ℕ
host_name value = before_first is_colon value

-- an address of IPv6
-- RFC 3986, 3.2.2 "Host": "IP-literal"
abbrev pub is_literal : List ℕ → Bool
is_literal value = starts_with nat_eq value (codes "[")

-- A name that is not the name of a host of the internet: it has no dot, or it is an address of IPv4. No browser asks for a
-- name whose last part is a number but as such an address.
-- URL Standard, 3.5 "Host parsing": "ends in a number checker"
abbrev pub is_near : List ℕ → Bool
is_near name = not (list_any is_dot name) || list_all (λ byte. is_dot byte || is_ascii_digit byte) name

-- the server may be reached by what this value of `Host` says
abbrev pub is_own_host : Allowed → List ℕ → Bool
is_own_host hosts value = is_literal value || is_near (host_name value) || allows_host hosts (host_name value)
