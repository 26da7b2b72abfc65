-- The lines of a dump.
use Rattle.std.proofs.Common.{◌≡◌, ℕ, List, [], ◌∷◌, ◌++◌, Bool, true, false, All, map, refl, sym, ap, ◌∙◌}
use Rattle.std.specs.Prelude.{◌==◌, not}
use Rattle.std.specs.List.{concat, flat_map}
use Rattle.std.proofs.lemmas.Bool.{and_parts}
use Rattle.std.proofs.lemmas.List.{append_assoc}
use Rattle.std.proofs.lemmas.List.Elements.{All-head, All-tail}
use Rattle.model.specs.Command.{Entry}
use Rattle.model.specs.History.{Chronicle}
use Rattle.history_json.specs.Line.{IsLine, line_text}
use Rattle.history_json.specs.Lines.{is_one_line}
use Rattle.history_json.proofs.InProfile.{line-one}
use Rattle.history_dump.specs.Dump.{first_text, first_line, entry_line, dump_text, IsFirst}
use Rattle.history_dump.proofs.Begun.{first-one}
use Rattle.replay_cli.specs.Lines.{onto, lines, lines_or_one}
use Rattle.replay_cli.proofs.Cuts.{goes_on, concat-lines_or_one}

no_feed : (b : Bool) → not b ≡ true → b ≡ false
no_feed true h = cc
no_feed false h = refl

-- a line and its line feed are cut from what follows them
lines-feed : (front rest : List ℕ) → is_one_line front ≡ true → lines (front ++ 10 ∷ rest) ≡ (front ++ 10 ∷ []) ∷ lines rest
lines-feed [] rest one = refl
lines-feed (byte ∷ front) rest one =
    let parts = and_parts (not (byte == 10)) (is_one_line front) one in
    goes_on byte (front ++ 10 ∷ rest) (no_feed (byte == 10) parts.0) ∙ ap (onto byte) (lines-feed front rest parts.1)

pub lines-entries : (es : List Entry) → All IsLine es → lines (flat_map entry_line es) ≡ map entry_line es
lines-entries [] within = refl
lines-entries (e ∷ es) within =
    let rest = flat_map entry_line es in
    ap lines (append_assoc (line_text e) (10 ∷ []) rest)
    ∙ lines-feed (line_text e) rest (line-one e (All-head IsLine e es within))
    ∙ ap (λ (ls : List (List ℕ)). entry_line e ∷ ls) (lines-entries es (All-tail IsLine e es within))

-- the same of a text that isn't empty
lines_or_one-feed : (front rest : List ℕ) → is_one_line front ≡ true → lines_or_one (front ++ 10 ∷ rest) ≡ (front ++ 10 ∷ []) ∷ lines rest
lines_or_one-feed [] rest one = refl
lines_or_one-feed (byte ∷ front) rest one = lines-feed (byte ∷ front) rest one

pub lines-dump : (h : Chronicle) → IsFirst h.base → All IsLine h.entries → lines_or_one (dump_text h) ≡ first_line h.base ∷ map entry_line h.entries
lines-dump h first within =
    let rest = flat_map entry_line h.entries in
    ap lines_or_one (append_assoc (first_text h.base) (10 ∷ []) rest)
    ∙ lines_or_one-feed (first_text h.base) rest (first-one h.base first)
    ∙ ap (λ (ls : List (List ℕ)). first_line h.base ∷ ls) (lines-entries h.entries within)

concat-map : {X : Type 0} (f : X → List ℕ) (xs : List X) → concat (map f xs) ≡ flat_map f xs
concat-map f [] = refl
concat-map f (x ∷ xs) = ap (λ t. f x ++ t) (concat-map f xs)

-- a text of these lines is that dump
pub dump-lines : (text : List ℕ) (h : Chronicle) → lines_or_one text ≡ first_line h.base ∷ map entry_line h.entries → text ≡ dump_text h
dump-lines text h is =
    sym (concat-lines_or_one text) ∙ ap concat is ∙ ap (λ t. first_line h.base ++ t) (concat-map entry_line h.entries)
