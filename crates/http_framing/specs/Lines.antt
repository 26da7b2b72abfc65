-- The lines of a head, counted by their ends.
use Rattle.std.specs.Prelude.{◌≡◌, ℕ, ◌+◌, ◌<◌, ◌⊎◌, ◌==◌, Bool, true, false, List, [], ◌∷◌, ◌++◌, if◌then◌else◌}
use Rattle.httparse.specs.Ascii.{line_feed}
use Rattle.httparse.specs.Grammar.{AllPass}
use Rattle.httparse.specs.Pieces.{is_newline, Stops}
use Rattle.http_framing.specs.Request.{header_limit}
use Rattle.http_framing.specs.declared.lines.Lines.{Lines}

-- the request line, and one header more than are taken
abbrev pub line_limit : ℕ
line_limit = header_limit + 2

-- how many lines end in the bytes
-- RFC 9112, 2.2 "Message Parsing"
abbrev pub line_ends : List ℕ → ℕ
line_ends [] = 0
line_ends (b ∷ bytes) = (if b == line_feed then 1 else 0) + line_ends bytes

-- the bytes end where a line ends
abbrev pub IsEnded : List ℕ → Type 0
IsEnded bytes = (front : List ℕ) × (bytes ≡ front ++ line_feed ∷ [])

-- the first lines of the bytes behind the empty lines: as many as the limit says, or all where there are fewer
-- RFC 9112, 2.2 "Message Parsing"
pub record AreFirstLines (bytes first : List ℕ) (many : Bool) : Type 0 where
  pub blank : List ℕ
  pub lines : List ℕ
  pub rest : List ℕ
  pub parts : bytes ≡ blank ++ (lines ++ rest)
  pub first_is : first ≡ blank ++ lines
  pub newlines : AllPass is_newline blank
  pub begins : (lines ≡ []) ⊎ Stops is_newline lines
  pub few : many ≡ false → (rest ≡ []) × (line_ends lines < line_limit)
  pub enough : many ≡ true → (line_ends lines ≡ line_limit) × IsEnded lines

-- the first lines of a head's bytes
abbrev pub IsFirst : List ℕ → Lines → Type 0
IsFirst bytes l = AreFirstLines bytes l.bytes.now l.are_many
