-- What a line says of the head of a response.
use Rattle.std.specs.Prelude.{ℕ, List, map, codes}
use Rattle.std.specs.List.{find}
use Rattle.std.specs.Option.{option_map_or, unwrap_or}
use Rattle.decimals.specs.Number.{number}
use Rattle.httparse.specs.Grammar.{ResponseHead, status_code}
use Rattle.httparse.specs.Spans.{name_and_value}
use Rattle.http_framing.specs.Headers.{Header, is_named}
use Rattle.request_log.specs.declared.head.Head.{Head}

-- the number that a value writes, or 0 where it writes none
abbrev pub number_said : List ℕ → ℕ
number_said value = unwrap_or (number value) 0

-- the number in the first header with the place, or 0 where there is none
abbrev pub place_said : List Header → ℕ
place_said headers = option_map_or (λ header. number_said header.1) (find (is_named (codes "Couch-Place")) headers) 0

-- what is said of a head
abbrev pub head_said : ResponseHead → Head
head_said head = record { status = status_code head; place = place_said (map name_and_value head.fields) }

-- what is said of bytes that begin with no head
abbrev pub no_head : Head
no_head = record { status = 0; place = 0 }
