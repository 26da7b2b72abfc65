-- The parameters of a query string (URL Standard, section 5.1).
use Rattle.std.specs.Prelude.{ℕ, List, map, Option, option_map}
use Rattle.std.specs.List.{find}
use Rattle.std.specs.Str.{bytes_eq}
use Rattle.std.specs.Str.Lossy.{utf8_lossy}
use Rattle.form_urlencoded.specs.Form.{raw_pairs, decode}

-- the names and values of a query string, in order
-- URL Standard, 5.1 "application/x-www-form-urlencoded parsing"
abbrev pub Parameters : Type 0
Parameters = List (List ℕ × List ℕ)

-- the text that an encoded name or value stands for, with U+FFFD for what is no UTF-8
-- URL Standard, 5.1 "application/x-www-form-urlencoded parsing"
abbrev pub text_of : List ℕ → List ℕ
text_of encoded = utf8_lossy (decode encoded)

-- URL Standard, 5.1 "application/x-www-form-urlencoded parsing"
abbrev pub decoded_pair : List ℕ × List ℕ → List ℕ × List ℕ
decoded_pair pair = (text_of pair.0, text_of pair.1)

-- the parameters of a query string
-- URL Standard, 5.1 "application/x-www-form-urlencoded parsing"
unfoldable pub parameters_of : List ℕ → Parameters
parameters_of query = map decoded_pair (raw_pairs query)

-- the value of the first parameter of this name
abbrev pub parameter : List ℕ → Parameters → Option (List ℕ)
parameter name parameters = option_map (λ pair. pair.1) (find (λ pair. bytes_eq pair.0 name) parameters)
