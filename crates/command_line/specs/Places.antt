-- Where a database is, in the arguments of `couchd replicate`.
use Rattle.std.specs.Prelude.{◌≡◌, ◌≢◌, ◌⊎◌, ◌||◌, ◌==◌, ◌<◌, ◌≤◌, ℕ, Bool, true, ◌∷◌, ◌++◌, length, All, Option, Some, codes}
use Rattle.std.specs.Char.{is_ascii_alphanumeric}
use Rattle.std.specs.Net.Grammar.{IsSocketText}
use Rattle.std.specs.declared.net.socket_addr.SocketAddr.{SocketAddr}
use Rattle.clap.specs.Words.{Text}
use Rattle.command_line.specs.Numbers.{IsNumber}

-- a byte of a host's name: a letter, a digit, `-`, `.` or `_`
-- RFC 3986, 3.2.2 "Host"
abbrev pub is_name_byte : ℕ → Bool
is_name_byte byte = is_ascii_alphanumeric byte || byte == 45 || byte == 46 || byte == 95

-- the name of a host
pub record IsName (host : Text) : Type 0 where
  pub some : 0 < length host
  pub bytes : All (λ byte. is_name_byte byte ≡ true) host

-- the name of a host and a port, with a colon between them
pub record IsNamed (place : Text) : Type 0 where
  pub host : Text
  pub port : Text
  pub written : place ≡ host ++ 58 ∷ port
  pub name : IsName host
  pub number : (n : ℕ) × IsNumber port n × (n ≤ 65535)

-- a numeric address and a port, as `127.0.0.1:5984` and `[::1]:5984`
abbrev pub IsNumeric : Text → Type 0
IsNumeric place = (address : SocketAddr) × IsSocketText place address

-- a host by its name or its address, and a port; no byte is `/`
pub record IsPlace (place : Text) : Type 0 where
  pub no_path : All (λ byte. byte ≢ 47) place
  pub host : IsNumeric place ⊎ IsNamed place

-- the database at a place, by the place alone or by its URL, with the path of the database or without it
abbrev pub Names : Text → Text → Type 0
Names text place =
    (text ≡ place) ⊎ ((text ≡ codes "http://" ++ place) ⊎ (text ≡ codes "http://" ++ (place ++ codes "/db")))

-- the text names the database at a place
abbrev pub NamesPlace : Text → Text → Type 0
NamesPlace text place = IsPlace place × Names text place

-- the text that was given names the database at this place
abbrev pub IsPlaceOf : Option Text → Text → Type 0
IsPlaceOf given place = (text : Text) × (given ≡ Some text) × NamesPlace text place
