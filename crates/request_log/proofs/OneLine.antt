-- The line of a request is one line of eight fields.
use Rattle.std.proofs.Common.{◌≡◌, ℕ, ◌^◌, ◌<◌, ◌&&◌, true, false, not, List, [], ◌∷◌, ◌++◌, codes, decimal, All, refl, sym, ◌∙◌, arith, rules, append_assoc}
use Rattle.std.specs.Prelude.{nat_lt}
use Rattle.std.specs.Char.{is_ascii_digit}
use Rattle.std.specs.List.{list_all}
use Rattle.std.specs.Str.Parse.{digits_value}
use Rattle.std.proofs.lemmas.Bool.{agree_below, agree_below_at}
use Rattle.std.proofs.lemmas.Bool.Decides.{nat_tests}
use Rattle.std.proofs.lemmas.Fmt.{digits_decimal}
use Rattle.std.proofs.lemmas.List.Elements.{All-nil, All-cons, All-weaker}
use Rattle.std.proofs.lemmas.List.Sums.{AllPass-from_list_all}
use Rattle.std.proofs.lemmas.Str.Parse.{IsNumeralModel, numerals_by_value}
use Rattle.percent_encoding.specs.AsciiSet.{contains, should_percent_encode}
use Rattle.percent_encoding.specs.Percent.{percent_encode}
use Rattle.percent_encoding.proofs.AsciiSetLemmas.{ascii_from_kept, outside_from_kept}
use Rattle.percent_encoding.proofs.PercentLemmas.{IsEscapeByte, All-percent_encode}
use Rattle.request_log.specs.Line.{IsGlyph, IsOneLine, Written, line_text}
use Rattle.request_log.specs.declared.line.TheConstants.{UNSAFE}

-- ---- what is kept is visible

unsafe_below : agree_below (contains UNSAFE) (λ byte. not (nat_lt 32 byte && nat_lt byte 127)) 128 ≡ true
unsafe_below = refl

inside : (byte : ℕ) → not (nat_lt 32 byte && nat_lt byte 127) ≡ false → IsGlyph byte
inside byte h = grind (arith, nat_tests)

kept-glyph : (byte : ℕ) → should_percent_encode UNSAFE byte ≡ false → IsGlyph byte
kept-glyph byte kept =
    inside byte (sym (agree_below_at (contains UNSAFE) (λ b. not (nat_lt 32 b && nat_lt b 127)) 128 byte unsafe_below (ascii_from_kept UNSAFE byte kept))
    ∙ outside_from_kept UNSAFE byte kept)

escape-glyph : (byte : ℕ) → IsEscapeByte byte → IsGlyph byte
escape-glyph byte h = grind arith

pub text-glyphs : (bytes : List ℕ) → All IsGlyph (percent_encode UNSAFE bytes)
text-glyphs bytes = All-percent_encode IsGlyph UNSAFE bytes kept-glyph escape-glyph

-- ---- digits are visible

own : IsNumeralModel (λ ds. list_all is_ascii_digit ds ≡ true) (digits_value 10)
own = numerals_by_value _ (search rules)

digit-glyph : (byte : ℕ) → is_ascii_digit byte ≡ true → IsGlyph byte
digit-glyph byte h = grind (arith, nat_tests)

pub number-glyphs : (n : ℕ) → n < 2 ^ 64 → All IsGlyph (decimal n)
number-glyphs n small =
    All-weaker (λ b. is_ascii_digit b ≡ true) IsGlyph digit-glyph (decimal n) (AllPass-from_list_all is_ascii_digit (decimal n) (digits_decimal own n small))

-- ---- the line

pub one_line : (w : Written) → w.worker < 2 ^ 64 → w.status < 2 ^ 64 → w.place < 2 ^ 64 → w.bytes < 2 ^ 64 → w.microseconds < 2 ^ 64 → IsOneLine (line_text UNSAFE w)
one_line w worker status place bytes microseconds =
    let P : List ℕ → Type 0 = All IsGlyph in
    let from_8 = decimal w.microseconds ∷ [] in
    let from_7 = decimal w.bytes ∷ from_8 in
    let from_6 = decimal w.place ∷ from_7 in
    let from_5 = decimal w.status ∷ from_6 in
    let from_4 = percent_encode UNSAFE w.target ∷ from_5 in
    let from_3 = percent_encode UNSAFE w.method ∷ from_4 in
    let from_2 = decimal w.worker ∷ from_3 in
    record {
      fields = percent_encode UNSAFE w.time ∷ from_2;
      eight = refl;
      glyphs =
          All-cons P _ from_2 (text-glyphs w.time)
          (All-cons P _ from_3 (number-glyphs w.worker worker)
          (All-cons P _ from_4 (text-glyphs w.method)
          (All-cons P _ from_5 (text-glyphs w.target)
          (All-cons P _ from_6 (number-glyphs w.status status)
          (All-cons P _ from_7 (number-glyphs w.place place)
          (All-cons P _ from_8 (number-glyphs w.bytes bytes)
          (All-cons P _ [] (number-glyphs w.microseconds microseconds) (All-nil P))))))));
      joined = simp append_assoc;
    }

-- the fields, written one after another
pub written_behind : (t0 t1 t2 t3 t4 t5 t6 t7 t8 f1 f2 f3 f4 f5 f6 f7 f8 : List ℕ)
    → t0 ≡ [] → t1 ≡ t0 ++ (f1 ++ codes " ") → t2 ≡ t1 ++ (f2 ++ codes " ") → t3 ≡ t2 ++ (f3 ++ codes " ") → t4 ≡ t3 ++ (f4 ++ codes " ")
    → t5 ≡ t4 ++ (f5 ++ codes " ") → t6 ≡ t5 ++ (f6 ++ codes " ") → t7 ≡ t6 ++ (f7 ++ codes " ") → t8 ≡ t7 ++ (f8 ++ codes "\n")
    → t8 ≡ f1 ++ (codes " " ++ (f2 ++ (codes " " ++ (f3 ++ (codes " " ++ (f4 ++ (codes " " ++ (f5 ++ (codes " " ++ (f6 ++ (codes " " ++ (f7 ++ (codes " " ++ (f8 ++ codes "\n"))))))))))))))
written_behind t0 t1 t2 t3 t4 t5 t6 t7 t8 f1 f2 f3 f4 f5 f6 f7 f8 e0 e1 e2 e3 e4 e5 e6 e7 e8 =
    rw (e8, e7, e6, e5, e4, e3, e2, e1, e0) (simp append_assoc)
