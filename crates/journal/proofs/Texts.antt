-- The lines of dumps, and of a line behind one.
use Rattle.std.proofs.Common.{◌≡◌, ℕ, List, [], ◌∷◌, ◌++◌, true, All, map, refl, sym, ap, ◌∙◌}
use Rattle.std.specs.Prelude.{◌==◌, not, Option}
use Rattle.std.specs.List.{flat_map}
use Rattle.std.proofs.lemmas.Bool.{and_parts, not-true}
use Rattle.std.proofs.lemmas.List.{append-nil, append_assoc}
use Rattle.std.proofs.lemmas.List.Concat.{flat_map-append}
use Rattle.std.proofs.lemmas.List.Elements.{All-head, All-tail}
use Rattle.model.specs.Command.{Entry}
use Rattle.model.specs.Database.{Database}
use Rattle.history_json.specs.Line.{IsLine, line_text}
use Rattle.history_json.specs.Lines.{is_one_line}
use Rattle.history_json.proofs.InProfile.{line-one}
use Rattle.history_dump.specs.Dump.{first_text, first_line, entry_line, dump_text, IsFirst}
use Rattle.history_dump.proofs.Begun.{first-one}
use Rattle.replay_cli.specs.Lines.{onto, lines, lines_or_one}
use Rattle.replay_cli.specs.Verdicts.{begun_with}
use Rattle.replay_cli.proofs.Cuts.{goes_on}
use Rattle.journal.specs.Replaying.{IsWhole}

-- a line and its line feed are cut from what follows them
lines-feed : (front rest : List ℕ) → is_one_line front ≡ true → lines (front ++ 10 ∷ rest) ≡ (front ++ 10 ∷ []) ∷ lines rest
lines-feed [] rest one = refl
lines-feed (byte ∷ front) rest one =
    let parts = and_parts (not (byte == 10)) (is_one_line front) one in
    goes_on byte (front ++ 10 ∷ rest) (not-true (byte == 10) parts.0) ∙ ap (onto byte) (lines-feed front rest parts.1)

-- the same of a text that isn't empty
lines_or_one-feed : (front rest : List ℕ) → is_one_line front ≡ true → lines_or_one (front ++ 10 ∷ rest) ≡ (front ++ 10 ∷ []) ∷ lines rest
lines_or_one-feed [] rest one = refl
lines_or_one-feed (byte ∷ front) rest one = lines-feed (byte ∷ front) rest one

-- a text with no line feed is one line
lines-none : (byte : ℕ) (text : List ℕ) → is_one_line (byte ∷ text) ≡ true → lines (byte ∷ text) ≡ (byte ∷ text) ∷ []
lines-none byte [] one = goes_on byte [] (not-true (byte == 10) (and_parts (not (byte == 10)) true one).0)
lines-none byte (next ∷ text) one =
    let parts = and_parts (not (byte == 10)) (is_one_line (next ∷ text)) one in
    goes_on byte (next ∷ text) (not-true (byte == 10) parts.0) ∙ ap (onto byte) (lines-none next text parts.1)

pub alone-one : (line : List ℕ) → is_one_line line ≡ true → lines_or_one line ≡ line ∷ []
alone-one [] one = refl
alone-one (byte ∷ text) one = lines-none byte text one

pub alone-whole : (line : List ℕ) → IsWhole line → lines_or_one line ≡ line ∷ []
alone-whole line whole =
    ap lines_or_one whole.line_is ∙ lines_or_one-feed whole.front [] whole.one ∙ ap (λ (l : List ℕ). l ∷ []) (sym whole.line_is)

-- the lines of entries, and a whole line behind them
lines-behind : (es : List Entry) (line : List ℕ) → All IsLine es → IsWhole line → lines (flat_map entry_line es ++ line) ≡ map entry_line es ++ line ∷ []
lines-behind [] line within whole =
    ap lines whole.line_is ∙ lines-feed whole.front [] whole.one ∙ ap (λ (l : List ℕ). l ∷ []) (sym whole.line_is)
lines-behind (e ∷ es) line within whole =
    let rest = flat_map entry_line es in
    ap lines (append_assoc (entry_line e) rest line ∙ append_assoc (line_text e) (10 ∷ []) (rest ++ line))
    ∙ lines-feed (line_text e) (rest ++ line) (line-one e (All-head IsLine e es within))
    ∙ ap (λ (ls : List (List ℕ)). entry_line e ∷ ls) (lines-behind es line (All-tail IsLine e es within) whole)

-- those of a dump and a whole line behind it
pub dump-behind : (base : Option Database) (es : List Entry) (line : List ℕ) → IsFirst base → All IsLine es → IsWhole line
    → lines_or_one (dump_text (begun_with base es) ++ line) ≡ first_line base ∷ (map entry_line es ++ line ∷ [])
dump-behind base es line first within whole =
    let rest = flat_map entry_line es in
    ap lines_or_one (append_assoc (first_line base) rest line ∙ append_assoc (first_text base) (10 ∷ []) (rest ++ line))
    ∙ lines_or_one-feed (first_text base) (rest ++ line) (first-one base first)
    ∙ ap (λ (ls : List (List ℕ)). first_line base ∷ ls) (lines-behind es line within whole)

-- the dump of one more entry
pub dump-push : (base : Option Database) (es : List Entry) (e : Entry) → dump_text (begun_with base es) ++ entry_line e ≡ dump_text (begun_with base (es ++ e ∷ []))
dump-push base es e =
    append_assoc (first_line base) (flat_map entry_line es) (entry_line e)
    ∙ ap (λ t. first_line base ++ t) (ap (λ t. flat_map entry_line es ++ t) (sym (append-nil (entry_line e))) ∙ sym (flat_map-append entry_line es (e ∷ [])))
