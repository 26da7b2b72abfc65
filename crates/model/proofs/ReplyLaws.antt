-- Each reply of a valid database to a valid command has the form of an answer to it.
use Rattle.std.specs.Prelude.{◌≡◌, ◌≤◌, ℕ, ◌+◌, ◌==◌, nat_lt, List, [], ◌∷◌, All, Contains, Option, Some, None, Result, Ok, Err, refl}
use Rattle.std.specs.Option.{option_eq}
use Rattle.std.proofs.Common.{subst, arith}
use Rattle.std.proofs.lemmas.Bool.{cond_both, ltb-true}
use Rattle.std.proofs.lemmas.List.Elements.{All-nil, All-cons, All-head, All-tail, All-weaker, All-contains, All-contains_itself}
use Rattle.model.specs.Map.{Map, entries, get}
use Rattle.model.specs.Body.{Body}
use Rattle.model.specs.Revision.{Rev, IsRev}
use Rattle.model.specs.Command.{Id, names, Edit, Merge, Command, Edits, Merges, PutLocal, Purge, SetLimit, SetPurgedLimit, Compact, Refusal, Conflict, BadHistory, GenerationLimit, IsEdit, IsMerge, NamesRevs, IsCommand, FitsEdit, FitsMerge, FitsLocal, FitsReply, last_counter, last_purge}
use Rattle.model.specs.Edit.{Written, revision_written}
use Rattle.model.specs.Local.{Local, next_counter, local_written}
use Rattle.model.specs.Database.{Database, tree_at, edit_in, merge_in, after_edit, after_merge, edit_replies, merge_replies, removed_of, purge_reply, reply_to, changed_by, IsDatabase}
use Rattle.model.proofs.MapLaws.{Contains-entries}
use Rattle.model.proofs.LookupLaws.{refined-some}
use Rattle.model.proofs.EditLaws.{merged-refused}
use Rattle.model.proofs.WrittenLaws.{IsSoundWrite, IsSoundWrite-edited, IsSoundWrite-merged}
use Rattle.model.proofs.KeptLaws.{sound_trees, IsDatabase-written, removed_revs}

-- ---- edits

FitsEdit-written : (w : Result Written Refusal) → ((v : Written) → w ≡ Ok v → IsSoundWrite v) → FitsEdit (revision_written w)
FitsEdit-written (Ok v) sound = (sound v refl).rev
FitsEdit-written (Err f) sound = tt

FitsEdit-replies : (d : Database) (es : List Edit) → All IsEdit es → IsDatabase d → All FitsEdit (edit_replies d es)
FitsEdit-replies d [] all h = All-nil FitsEdit
FitsEdit-replies d (e ∷ es) all h =
    let is = All-head IsEdit e es all in
    let sound : (v : Written) → edit_in d e ≡ Ok v → IsSoundWrite v = λ v made. IsSoundWrite-edited d.revs_limit (tree_at d e.id) h.revs_limit.0 (sound_trees d h e.id) e v is made in
    All-cons FitsEdit _ _ (FitsEdit-written (edit_in d e) sound) (FitsEdit-replies (after_edit d e) es (All-tail IsEdit e es all) (IsDatabase-written d e.id (edit_in d e) is.id sound h))

-- ---- merges

FitsMerge-written : (w : Result Written Refusal) → ((v : Written) → w ≡ Ok v → IsSoundWrite v) → ((f : Refusal) → w ≡ Err f → f ≡ BadHistory) → FitsMerge (revision_written w)
FitsMerge-written (Ok v) sound refusal = (sound v refl).rev
FitsMerge-written (Err f) sound refusal = refusal f refl

FitsMerge-replies : (d : Database) (ms : List Merge) → All IsMerge ms → IsDatabase d → All FitsMerge (merge_replies d ms)
FitsMerge-replies d [] all h = All-nil FitsMerge
FitsMerge-replies d (m ∷ ms) all h =
    let is = All-head IsMerge m ms all in
    let sound : (v : Written) → merge_in d m ≡ Ok v → IsSoundWrite v = λ v made. IsSoundWrite-merged d.revs_limit (tree_at d m.id) h.revs_limit.0 (sound_trees d h m.id) m v is made in
    All-cons FitsMerge _ _ (FitsMerge-written (merge_in d m) sound (λ f refused. (merged-refused d.revs_limit (tree_at d m.id) m f refused).0)) (FitsMerge-replies (after_merge d m) ms (All-tail IsMerge m ms all) (IsDatabase-written d m.id (merge_in d m) is.id sound h))

-- ---- local documents

FitsLocal-next : (k : ℕ) (body : Option Body) → FitsLocal (next_counter k body)
FitsLocal-next k None = omega arith
FitsLocal-next k (Some b) = cond_both (nat_lt k last_counter) (Ok (k + 1)) (Err GenerationLimit) FitsLocal (λ t. let less = ltb-true k last_counter t in omega arith) (λ _. tt)

FitsLocal-written : (o : Option Local) (named : Option ℕ) (body : Option Body) → FitsLocal (local_written o named body)
FitsLocal-written None named None = tt
FitsLocal-written None None (Some b) = omega arith
FitsLocal-written None (Some k) (Some b) = tt
FitsLocal-written (Some l) named body = cond_both (option_eq ◌==◌ named (Some l.counter)) (next_counter l.counter body) (Err Conflict) FitsLocal (λ _. FitsLocal-next l.counter body) (λ _. tt)

-- ---- purges

NamesRevs-reply : (d : Database) (named : Map names (List Rev)) → All NamesRevs (entries named) → IsDatabase d → All NamesRevs (entries (purge_reply d named))
NamesRevs-reply d named all h = All-weaker (Contains (entries (purge_reply d named))) NamesRevs each (entries (purge_reply d named)) (All-contains_itself (entries (purge_reply d named)))
  where
    each : (e : Id × List Rev) → Contains (entries (purge_reply d named)) e → NamesRevs e
    each e c =
        let s = refined-some (removed_of d) named e.0 e.1 ((Contains-entries names (purge_reply d named) e.0 e.1).0 c) in
        let is = All-contains NamesRevs (entries named) (e.0, s.0) all ((Contains-entries names named e.0 s.0).1 s.1) in
        (is.0, subst (All IsRev) s.2 (removed_revs d e.0 s.0 is.0 h))

pub FitsReply-reply_to : (d : Database) (c : Command) → IsCommand c → IsDatabase d → (changed_by d c).purges.purge_seq ≤ last_purge → FitsReply c (reply_to d c)
unfolding reply_to changed_by
FitsReply-reply_to d (Edits es) is h fits = FitsEdit-replies d es is.1 h
FitsReply-reply_to d (Merges ms) is h fits = FitsMerge-replies d ms is.1 h
FitsReply-reply_to d (PutLocal id named body) is h fits = FitsLocal-written (get d.locals id) named body
FitsReply-reply_to d (Purge named) is h fits = (fits, NamesRevs-reply d named is.1 h)
FitsReply-reply_to d (SetLimit n) is h fits = tt
FitsReply-reply_to d (SetPurgedLimit n) is h fits = tt
FitsReply-reply_to d Compact is h fits = tt
