-- The origins of pages, and the names of hosts.
use Rattle.std.specs.Prelude.{ℕ, Bool, ◌==◌, ◌&&◌, ◌||◌, length, nat_lt, take, drop, codes}
use Rattle.std.specs.Char.{is_ascii_alphanumeric, is_ascii_digit, is_ascii_lowercase}
use Rattle.std.specs.List.{before_first, list_all}
use Rattle.std.specs.Str.{bytes_eq}
use Rattle.clap.specs.Words.{Text}

-- b':'
abbrev pub is_colon : ℕ → Bool
is_colon byte = byte == 58

-- a byte of a scheme, of which a browser writes the letters small
-- RFC 3986, 3.1 "Scheme"
abbrev pub is_scheme_byte : ℕ → Bool
is_scheme_byte byte = is_ascii_lowercase byte || is_ascii_digit byte || byte == 43 || byte == 45 || byte == 46

-- RFC 3986, 3.1 "Scheme"
abbrev pub is_scheme : Text → Bool
is_scheme text = nat_lt 0 (length text) && list_all is_scheme_byte text

-- a byte of a host, an address or a port, of which a browser writes the letters small
-- RFC 6454, 6.2 "ASCII Serialization of an Origin"
abbrev pub is_authority_byte : ℕ → Bool
is_authority_byte byte =
    is_ascii_lowercase byte || is_ascii_digit byte || byte == 45 || byte == 46 || byte == 95 || byte == 58 || byte == 91 || byte == 93

-- RFC 3986, 3.2 "Authority", without a user
abbrev pub is_authority : Text → Bool
is_authority text = nat_lt 0 (length text) && list_all is_authority_byte text

-- what follows the scheme of an origin
-- RFC 6454, 7.1 "Syntax"
abbrev pub is_behind_scheme : Text → Bool
is_behind_scheme text = bytes_eq (take 3 text) (codes "://") && is_authority (drop 3 text)

-- an origin as a browser writes it
-- RFC 6454, 7.1 "Syntax"
abbrev pub is_origin : Text → Bool
is_origin text =
    is_scheme (before_first is_colon text) && is_behind_scheme (drop (length (before_first is_colon text)) text)

-- a byte of the name of a host
-- RFC 3986, 3.2.2 "Host"
abbrev pub is_host_byte : ℕ → Bool
is_host_byte byte = is_ascii_alphanumeric byte || byte == 45 || byte == 46 || byte == 95

-- the name of a host
-- RFC 3986, 3.2.2 "Host"
abbrev pub is_host : Text → Bool
is_host text = nat_lt 0 (length text) && list_all is_host_byte text
