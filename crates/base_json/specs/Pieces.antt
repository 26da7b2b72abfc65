-- A text that is read one piece behind another.
use Rattle.std.specs.Prelude.{◌≡◌, ◌-◌, ◌==◌, ◌||◌, ℕ, suc, Bool, true, false, List, [], ◌∷◌, Option, Some, None, Ok, if◌then◌else◌}
use Rattle.std.specs.Char.{is_ascii_digit}
use Rattle.serde_json.specs.Data.{Data, Members, object}
use Rattle.serde_json.specs.Written.{compact_text}
use Rattle.model.specs.Profile.{is_whole}
use Rattle.document_json.specs.Text.{json_of}
use Rattle.base_json.specs.declared.scan.Place.{Place}
use Rattle.base_json.specs.declared.scan.Place.TheVariants.{Outside, Quoted, Escaped}

-- ---- where a value ends

-- `{` and `[`
abbrev pub opens : ℕ → Bool
opens byte = (byte == 123) || (byte == 91)

-- `}` and `]`
abbrev pub closes : ℕ → Bool
closes byte = (byte == 125) || (byte == 93)

-- where a scan is behind a byte
-- RFC 8259, 7 "Strings"
abbrev pub place_behind : Place → ℕ → Place
place_behind Outside byte = if byte == 34 then Quoted else Outside
place_behind Quoted byte = if byte == 34 then Outside else (if byte == 92 then Escaped else Quoted)
place_behind Escaped byte = Quoted

-- how many brackets are open behind it
abbrev pub depth_behind : Place → ℕ → ℕ → ℕ
depth_behind Outside depth byte = if opens byte then suc depth else (if closes byte then depth - 1 else depth)
depth_behind Quoted depth byte = depth
depth_behind Escaped depth byte = depth

-- whether a value ends there
abbrev pub is_end : Place → ℕ → Bool
is_end Outside depth = depth == 0
is_end Quoted depth = false
is_end Escaped depth = false

-- what is behind the value in which a scan is, if the value ends
unfoldable pub behind : Place → ℕ → List ℕ → Option (List ℕ)
behind place depth [] = None
behind place depth (byte ∷ text) =
    if is_end (place_behind place byte) (depth_behind place depth byte) then Some text else behind (place_behind place byte) (depth_behind place depth byte) text

-- ---- pieces

-- an object of the profile, whose text is read as it
pub record IsPiece (value : Data) : Type 0 where
  pub members : Members
  pub is : value ≡ object members
  pub whole : is_whole value ≡ true
  pub reads : json_of (compact_text value) ≡ Ok value

-- a text that doesn't begin with a digit
abbrev pub begins_no_digit : List ℕ → Bool
begins_no_digit [] = true
begins_no_digit (byte ∷ text) = if is_ascii_digit byte then false else true
