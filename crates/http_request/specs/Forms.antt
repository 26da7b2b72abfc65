-- Which commands requests of each form ask for.
use Rattle.std.specs.Prelude.{[], ◌∷◌, ⊤}
use Rattle.model.specs.Command.{Command, Compact, Edits, Merges, Purge, PutLocal, SetLimit, SetPurgedLimit}
use Rattle.http_request.specs.declared.asked.Asked.{Asked}
use Rattle.http_request.specs.declared.asked.Asked.TheVariants as asked
use Rattle.http_request.specs.declared.asked.Form.{Form}
use Rattle.http_request.specs.declared.asked.Form.TheVariants as form

-- some request of this form asks for the command: of one document for one edit, or a local write, and else for a bulk,
-- a purge, a limit or a compaction
abbrev pub IsFormOf : Form → Command → Type 0
IsFormOf form.Put (Edits (edit ∷ [])) = ⊤
IsFormOf form.Delete (Edits (edit ∷ [])) = ⊤
IsFormOf form.Put (PutLocal id named body) = ⊤
IsFormOf form.Delete (PutLocal id named body) = ⊤
IsFormOf form.Whole (Edits edits) = ⊤
IsFormOf form.Whole (Merges merges) = ⊤
IsFormOf form.Whole (Purge named) = ⊤
IsFormOf form.Whole (SetLimit limit) = ⊤
IsFormOf form.Whole (SetPurgedLimit limit) = ⊤
IsFormOf form.Whole Compact = ⊤
IsFormOf form command = ⊥

-- where it is a command, it has the form
abbrev pub HasForm : Asked → Type 0
HasForm asked.Welcome = ⊤
HasForm (asked.Command form command) = IsFormOf form command
HasForm (asked.Query query) = ⊤
HasForm (asked.Changes changes) = ⊤
