-- The line of a request.
use Rattle.std.specs.Prelude.{◌≡◌, ℕ, ◌<◌, List, [], ◌∷◌, ◌++◌, length, All, codes, decimal}
use Rattle.std.specs.List.{join_with_byte}
use Rattle.percent_encoding.specs.Percent.{percent_encode}
use Rattle.percent_encoding.specs.declared.ascii_set.AsciiSet.{AsciiSet}

-- a request, and how it was answered
pub record Written : Type 0 where
  pub time : List ℕ
  pub worker : ℕ
  pub method : List ℕ
  pub target : List ℕ
  pub status : ℕ
  pub place : ℕ
  pub bytes : ℕ
  pub microseconds : ℕ

-- its line, with its texts escaped as in a URL
abbrev pub line_text : AsciiSet → Written → List ℕ
line_text set w =
    percent_encode set w.time ++ (codes " " ++ (decimal w.worker ++ (codes " " ++ (percent_encode set w.method ++ (codes " " ++ (percent_encode set w.target
    ++ (codes " " ++ (decimal w.status ++ (codes " " ++ (decimal w.place ++ (codes " " ++ (decimal w.bytes ++ (codes " " ++ (decimal w.microseconds ++ codes "\n"))))))))))))))

-- a visible character of ASCII
abbrev pub IsGlyph : ℕ → Type 0
IsGlyph byte = (32 < byte) × (byte < 127)

-- the text is one line of eight fields: visible characters alone, with a space between two fields and an end of line behind the last
pub record IsOneLine (text : List ℕ) : Type 0 where
  pub fields : List (List ℕ)
  pub eight : length fields ≡ 8
  pub glyphs : All (All IsGlyph) fields
  pub joined : text ≡ join_with_byte 32 fields ++ 10 ∷ []
