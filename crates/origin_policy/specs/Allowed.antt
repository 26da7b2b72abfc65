-- What an operator allows.
use Rattle.std.specs.Prelude.{ℕ, Bool, true, false, List, string_bytes}
use Rattle.std.specs.List.{list_any}
use Rattle.std.specs.Str.{bytes_eq, str_eq_ignore_ascii_case}
use Rattle.origin_policy.specs.declared.policy.Allowed.{Allowed}
use Rattle.origin_policy.specs.declared.policy.Allowed.TheVariants.{All, Only}

-- all are allowed
abbrev pub is_all : Allowed → Bool
is_all All = true
is_all (Only texts) = false

-- the origin is allowed, byte by byte
-- RFC 6454, 6.2 "ASCII Serialization of an Origin"
abbrev pub allows_origin : Allowed → List ℕ → Bool
allows_origin All origin = true
allows_origin (Only origins) origin = list_any (λ listed. bytes_eq (string_bytes listed) origin) origins.items

-- the name of a host is allowed, in upper or lower case
-- RFC 3986, 3.2.2 "Host"
abbrev pub allows_host : Allowed → List ℕ → Bool
allows_host All name = true
allows_host (Only hosts) name = list_any (λ listed. str_eq_ignore_ascii_case (string_bytes listed) name) hosts.items
