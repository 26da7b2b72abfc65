-- A batch put into a world, as one step.
use Rattle.std.specs.Prelude.{◌≡◌, ◌+◌, List, [], ◌∷◌, ◌++◌, length}
use Rattle.std.proofs.Common.{sym, ap, ◌∙◌, append_assoc, length-append}
use Rattle.std.proofs.lemmas.List.{append-nil}
use Rattle.model.specs.Command.{Job, Entry}
use Rattle.model.specs.Database.{Database}
use Rattle.model.specs.History.{entry_of, batch_entries}
use Rattle.model.specs.World.{World, database_of, commit, commit_all}
use Rattle.model.proofs.HistoryLaws.{replay-push}
use Rattle.machine.specs.Events.{wrote_at, wrote_from}

-- the world with these entries, and the calls that they complete
abbrev pub with_entries : World → List Entry → World
with_entries w es = record w { history = w.history ++ es; completed = w.completed ++ wrote_from (length w.history) es }

with_none : (w : World) → w ≡ with_entries w []
with_none w = λ i. record w { history = sym (append-nil w.history) i; completed = sym (append-nil w.completed) i }

with_more : (w : World) (e : Entry) (es : List Entry) → with_entries (with_entries w (e ∷ [])) es ≡ with_entries w (e ∷ es)
with_more w e es =
    ap (λ n. record w { history = (w.history ++ e ∷ []) ++ es; completed = (w.completed ++ wrote_at (length w.history + 1) e ∷ []) ++ wrote_from n es }) (length-append w.history (e ∷ []))
    ∙ (λ i. record w { history = append_assoc w.history (e ∷ []) es i; completed = append_assoc w.completed (wrote_at (length w.history + 1) e ∷ []) (wrote_from (length w.history + 1) es) i })

pub commit_all-entries : (base : Database) (w : World) (js : List Job) → commit_all base w js ≡ with_entries w (batch_entries (database_of base w) js)
commit_all-entries base w [] = with_none w
commit_all-entries base w (j ∷ js) =
    let e = entry_of (database_of base w) j.seat j.command in
    commit_all-entries base (commit base w j) js
    ∙ ap (λ d. with_entries (commit base w j) (batch_entries d js)) (replay-push base w.history e)
    ∙ with_more w e (batch_entries _ js)
