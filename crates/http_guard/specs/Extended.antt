-- A response to which lines are added.
use Rattle.std.specs.Prelude.{ℕ, ◌==◌, Bool, List, [], ◌∷◌, ◌++◌, if◌then◌else◌}

-- b'\n'
abbrev pub is_line_feed : ℕ → Bool
is_line_feed byte = byte == 10

-- a text with these lines behind its first one, or at its end where no line ends
-- RFC 9112, 2.1 "Message Format", 4 "Status Line"
unfoldable pub extended : List ℕ → List ℕ → List ℕ
extended lines [] = lines
extended lines (byte ∷ rest) = byte ∷ (if is_line_feed byte then lines ++ rest else extended lines rest)
