-- Documents in the arguments of `couchd replicate`.
use Rattle.std.specs.Prelude.{◌&&◌, Bool, length, nat_lt, Option, Some, None, option_and_then, if◌then◌else◌}
use Rattle.std.specs.Str.{is_utf8}
use Rattle.percent_encoding.specs.Percent.{percent_decode}
use Rattle.clap.specs.Words.{Text}

-- whether a text has as many bytes as an id
abbrev pub has_id_length : Text → Bool
has_id_length text = nat_lt 0 (length text) && nat_lt (length text) 513

-- the text that a part of a list stands for, escaped as in a path, if its bytes are text once decoded
-- RFC 3986, 2.1 "Percent-Encoding"
abbrev pub text_of : Text → Option Text
text_of part = if is_utf8 (percent_decode part) then Some (percent_decode part) else None

-- the text, if it has as many bytes as an id
abbrev pub id_in : Text → Option Text
id_in text = if has_id_length text then Some text else None

-- the id that a part of a list stands for, if it does for one
abbrev pub id_of : Text → Option Text
id_of part = option_and_then id_in (text_of part)
