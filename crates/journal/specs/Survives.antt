-- What an end leaves of a journal's file.
use Rattle.std.specs.Prelude.{◌≡◌, ◌<◌, ◌≤◌, ℕ, List, ◌++◌, length, take, Some}
use Rattle.model.specs.Command.{Entry}
use Rattle.model.specs.History.{Chronicle, IsNext, now}
use Rattle.history_json.specs.Line.{IsLine}
use Rattle.history_dump.specs.Dump.{dump_text, entry_line}
use Rattle.replay_cli.specs.Successors.{IsDumpOfLegal}
use Rattle.journal.specs.Held.{HoldsDump}
use Rattle.journal.specs.Kept.{Kept}

-- The end of the machine leaves what a sync covered, and behind it any bytes at all.
pub record Survives (k : Kept) (text : List ℕ) : Type 0 where
  pub covered : List ℕ
  pub covered_is : k.covered ≡ Some covered
  pub tail : List ℕ
  pub text_is : text ≡ covered ++ tail

-- the end of the process leaves all that was appended
abbrev pub IsLeft : Kept → List ℕ → Type 0
IsLeft k text = k.taken ≡ Some text

-- the journal holds the dump of this history, which is legal
pub record HoldsLegal (k : Kept) (h : Chronicle) : Type 0 where
  pub held : HoldsDump k h
  pub legal : IsDumpOfLegal (dump_text h) h

-- no line that ends behind so many bytes of the text is that of the next entry of the legal history in front of it
abbrev pub HoldsNoNext : ℕ → List ℕ → Type 0
HoldsNoNext count text =
    (history : Chronicle) (entry : Entry) (rest : List ℕ) → IsDumpOfLegal (dump_text history) history → IsLine entry → IsNext (now history) entry
    → text ≡ dump_text history ++ (entry_line entry ++ rest) → count < length (dump_text history ++ entry_line entry) → ⊥

-- Where what wasn't covered was written in order, the end of the machine leaves a beginning of what was appended, with all that
-- was covered, and behind it bytes that make no next entry.
pub record SurvivesInOrder (k : Kept) (text : List ℕ) : Type 0 where
  pub survives : Survives k text
  pub taken : List ℕ
  pub taken_is : k.taken ≡ Some taken
  pub count : ℕ
  pub more : length survives.covered ≤ count
  pub most : count ≤ length taken
  pub torn : List ℕ
  pub text_is : text ≡ take count taken ++ torn
  pub none : HoldsNoNext count text
