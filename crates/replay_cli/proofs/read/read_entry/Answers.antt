use Rattle.std.proofs.Common.{◌≡◌, ◌↔◌, ◌<◌, ℕ, List, [], ◌∷◌, ◌++◌, Ok, Err, Some, Option, Result, IfOk, sym, ap, ◌∙◌, arith}
use Rattle.model.specs.Command.{Entry}
use Rattle.history_json.specs.Line.{IsLine, line_text}
use Rattle.history_dump.specs.Dump.{entry_line}
use Rattle.replay_cli.specs.Places.{last_place}
use Rattle.history_dump.proofs.Snocs.{snocs}
use Rattle.replay_cli.proofs.read.read_entry.Goals as goal

-- the line with its line feed is read where the line is
fed : {F : Type 0} (read : Result (Option Entry) F) (line text : List ℕ) (last before : ℕ) → before < last_place → line ≡ text ++ last ∷ [] → last ≡ 10
    → IfOk read (λ found. (entry : Entry) → (found ≡ Some entry) ↔ (IsLine entry × (text ≡ line_text entry)))
    → IfOk read (λ found. (entry : Entry) → (found ≡ Some entry) ↔ ((before < last_place) × IsLine entry × (line ≡ entry_line entry)))
fed (Err fault) line text last before low is feed told = tt
fed (Ok found) line text last before low is feed told = λ entry. (
  λ some. let of = (told entry).0 some in (low, of.0, is ∙ ap (λ n. text ++ n ∷ []) feed ∙ ap (λ t. t ++ 10 ∷ []) of.1),
  λ h. (told entry).1 (h.1, (snocs text (line_text entry) last 10 (sym is ∙ h.2)).0),
)

pub returns : goal.returns
returns c =
    fed c.read_line.result c.args.line.now c.in-Some.text.now c.in-Some.last.now c.args.before (omega arith) c.in-Some.ensures.cases.0 (omega (arith, c.if-last-ne10.false)) c.read_line.ensures.entry
