-- A response that is written with lines behind its first one.
use Rattle.std.specs.Prelude.{ℕ, ◌-◌, ◌==◌, ◌&&◌, nat_le, not, Bool, false, List, [], ◌∷◌, ◌++◌, length, take, drop, Option, None, Some, if◌then◌else◌}
use Rattle.std.specs.List.{list_any}
use Rattle.std.specs.Str.{bytes_eq}
use Rattle.http_guard.specs.Extended.{extended, is_line_feed}
use Rattle.http_guard.specs.declared.extended.Phase.{Phase}
use Rattle.http_guard.specs.declared.extended.Phase.TheVariants as phase

-- a line ends in the text
abbrev pub has_line : List ℕ → Bool
has_line text = list_any is_line_feed text

-- a text up to the end of its first line, where that ends
unfoldable pub first_line : List ℕ → List ℕ
first_line [] = []
first_line (byte ∷ rest) = byte ∷ (if is_line_feed byte then [] else first_line rest)

-- the text is one line, with its end
unfoldable pub is_line : List ℕ → Bool
is_line [] = false
is_line (byte ∷ rest) = if is_line_feed byte then length rest == 0 else is_line rest

-- a text without so many bytes behind its first line
unfoldable pub shortened : ℕ → List ℕ → List ℕ
shortened count [] = []
shortened count (byte ∷ rest) = byte ∷ (if is_line_feed byte then drop count rest else shortened count rest)

-- the text is as far as the phase says
unfoldable pub is_in : List ℕ → Phase → List ℕ → Bool
is_in lines phase.InLine text = not (has_line text)
is_in lines (phase.Lines at) text = is_line text && nat_le at (length lines)
is_in lines phase.Behind text = has_line text

-- what is written of a text in a phase
unfoldable pub woven : List ℕ → Phase → List ℕ → List ℕ
woven lines phase.InLine text = text
woven lines (phase.Lines at) text = text ++ take at lines
woven lines phase.Behind text = extended lines text

-- what was written, without the lines
unfoldable pub without : List ℕ → Phase → List ℕ → List ℕ
without lines phase.InLine written = written
without lines (phase.Lines at) written = take (length written - at) written
without lines phase.Behind written = shortened (length lines) written

-- a text behind what was there before, where it is the one that is written
abbrev pub known_text : List ℕ → Phase → List ℕ → List ℕ → List ℕ → Option (List ℕ)
known_text lines phase start now text =
    if is_in lines phase text && bytes_eq now (start ++ woven lines phase text) then Some (start ++ text) else None

-- What a sink took since it had taken what is there at the start, without the lines; it is known where what was written is a text with
-- as much of the lines as the phase says.
unfoldable pub unwoven : List ℕ → Phase → Option (List ℕ) → Option (List ℕ) → Option (List ℕ)
unwoven lines phase None now = None
unwoven lines phase (Some start) None = None
unwoven lines phase (Some start) (Some now) = known_text lines phase start now (without lines phase (drop (length start) now))

-- what lacks of the lines when the response has ended in a phase
abbrev pub lines_left : List ℕ → Phase → List ℕ
lines_left lines phase.InLine = lines
lines_left lines (phase.Lines at) = drop at lines
lines_left lines phase.Behind = []
