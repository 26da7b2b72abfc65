-- Each command leaves a valid database valid.
use Rattle.std.specs.Prelude.{◌≡◌, ℕ, ◌+◌, ◌<◌, ◌⊎◌, true, false, cond, List, [], ◌∷◌, length, All, Contains, Option, Some, None, is_some, IfSome, option_map, option_and_then, unwrap_or, Result, Ok, Err, refl}
use Rattle.std.proofs.Common.{inl, inr, sym, ap, subst, ◌∙◌, arith}
use Rattle.std.proofs.lemmas.Bool.{true≢false}
use Rattle.std.proofs.lemmas.Option.{none-some, same_Some}
use Rattle.std.proofs.lemmas.List.Elements.{All-nil, All-head, All-tail, All-weaker, All-contains_itself}
use Rattle.model.specs.Map.{Map, entries, get}
use Rattle.model.specs.Body.{Body, IsBody}
use Rattle.model.specs.Revision.{Rev, IsRev}
use Rattle.model.specs.Tree.{Tree, Leaf, IsTree, IsInRange, body_of, winner}
use Rattle.model.specs.TreeChange.{cut, removed_leaves}
use Rattle.model.specs.Command.{Id, IsId, names, Edit, Merge, Command, Edits, Merges, PutLocal, Purge, SetLimit, SetPurgedLimit, Compact, Refusal, Seat, Entry, IsEdit, IsMerge, NamesRevs, IsCommand}
use Rattle.model.specs.PurgeLog.{logged}
use Rattle.model.specs.Edit.{Written}
use Rattle.model.specs.Local.{Local, store_local}
use Rattle.model.specs.Database.{Database, Record, tree_at, same_tree, with_tree, store, store_written, edit_in, merge_in, after_edit, after_edits, after_merge, after_merges, put_local_reply, after_put_local, removed_of, purge_removed, after_purge, after_purges, stripped, compacted, changed_by, act, IsRecord, IsLocal, IsDatabase}
use Rattle.model.specs.History.{replay}
use Rattle.model.proofs.TreeLaws.{leaf_known}
use Rattle.model.proofs.OnceLaws.{Contains-removed_leaves}
use Rattle.model.proofs.StripLaws.{IsTree-strip, IsInRange-strip}
use Rattle.model.proofs.CutLaws.{IsTree-cut, IsInRange-cut}
use Rattle.model.proofs.LeafLaws.{winner-greatest}
use Rattle.model.proofs.ReachLaws.{some_winner}
use Rattle.model.proofs.StepLaws.{purged}
use Rattle.model.proofs.LookupLaws.{put-cases, without-some, refined-some}
use Rattle.model.proofs.LogLaws.{IsLog-limited, IsLog-logged}
use Rattle.model.proofs.NumberLaws.{IsNumbered-with_tree, IsNumbered-without, IsNumbered-same, IsNumbered-compacted}
use Rattle.model.proofs.LocalLaws.{IsCounter-next}
use Rattle.model.proofs.WrittenLaws.{IsSound, AreSound, IsSoundWrite, IsSoundWrite-edited, IsSoundWrite-merged}

pub sound_trees : (d : Database) → IsDatabase d → (id : Id) → AreSound (tree_at d id)
sound_trees d h id = at (get d.docs id) refl
  where
    at : (o : Option Record) → get d.docs id ≡ o → (t : Tree) → option_map (λ r. r.tree) o ≡ Some t → IsSound t
    at None e t is = absurd (none-some t is)
    at (Some r) e t is = let k = h.docs id r e in subst IsSound (same_Some r.tree t is) (record { tree = k.tree; in_range = k.in_range })

-- ---- a new tree

IsDatabase-with_tree : (d : Database) (id : Id) (t : Tree) → IsId id → IsSound t → IsDatabase d → IsDatabase (with_tree d id t)
IsDatabase-with_tree d id t is_id sound h = record {
  docs = λ q r e. at q r (put-cases d.docs id new q r e);
  numbered = IsNumbered-with_tree d id h.numbered t;
  locals = h.locals;
  log = h.log;
  revs_limit = h.revs_limit;
}
  where
    new : Record
    new = record { tree = t; seq = d.update_seq + 1 }

    at : (q : Id) (r : Record) → ((q ≡ id) × (new ≡ r)) ⊎ (get d.docs q ≡ Some r) → IsRecord q r
    at q r (inl same) = record { identity = subst IsId (sym same.0) is_id; tree = subst (λ (x : Record). IsTree x.tree) same.1 sound.tree; in_range = subst (λ (x : Record). IsInRange x.tree) same.1 sound.in_range }
    at q r (inr old) = h.docs q r old

pub IsDatabase-written : (d : Database) (id : Id) (w : Result Written Refusal) → IsId id → ((v : Written) → w ≡ Ok v → IsSoundWrite v) → IsDatabase d → IsDatabase (store_written d id w)
unfolding store
IsDatabase-written d id (Err f) is_id sound h = h
IsDatabase-written d id (Ok v) is_id sound h =
    elim (unwrap_or (option_map (same_tree v.tree) (tree_at d id)) false) as (λ b. IsDatabase (cond b d (with_tree d id v.tree))) [ true ↦ h | false ↦ IsDatabase-with_tree d id v.tree is_id (sound v refl).tree h ]

IsDatabase-edits : (d : Database) (es : List Edit) → All IsEdit es → IsDatabase d → IsDatabase (after_edits d es)
IsDatabase-edits d [] all h = h
IsDatabase-edits d (e ∷ es) all h =
    let is = All-head IsEdit e es all in
    IsDatabase-edits (after_edit d e) es (All-tail IsEdit e es all) (IsDatabase-written d e.id (edit_in d e) is.id (λ v made. IsSoundWrite-edited d.revs_limit (tree_at d e.id) h.revs_limit.0 (sound_trees d h e.id) e v is made) h)

IsDatabase-merges : (d : Database) (ms : List Merge) → All IsMerge ms → IsDatabase d → IsDatabase (after_merges d ms)
IsDatabase-merges d [] all h = h
IsDatabase-merges d (m ∷ ms) all h =
    let is = All-head IsMerge m ms all in
    IsDatabase-merges (after_merge d m) ms (All-tail IsMerge m ms all) (IsDatabase-written d m.id (merge_in d m) is.id (λ v made. IsSoundWrite-merged d.revs_limit (tree_at d m.id) h.revs_limit.0 (sound_trees d h m.id) m v is made) h)

-- ---- local documents

IsDatabase-local : (d : Database) (id : Id) (named : Option ℕ) (body : Option Body) → IsId id → IfSome body IsBody → IsDatabase d → IsDatabase (after_put_local d id named body)
IsDatabase-local d id named body is_id is_body h = record { docs = h.docs; numbered = IsNumbered-same d _ refl (omega arith) h.numbered; locals = at body is_body (put_local_reply d id named body) refl; log = h.log; revs_limit = h.revs_limit }
  where
    AllLocal : Map names Local → Type 0
    AllLocal m = (q : Id) (l : Local) → get m q ≡ Some l → IsLocal q l

    at : (body : Option Body) → IfSome body IsBody → (r : Result ℕ Refusal) → put_local_reply d id named body ≡ r → (q : Id) (l : Local) → get (store_local d.locals id body r) q ≡ Some l → IsLocal q l
    at body is (Err f) e = h.locals
    at None is (Ok k) e = λ q l got. h.locals q l (without-some d.locals id q l got)
    at (Some b) is (Ok k) e = λ q l got. either q l (put-cases d.locals id (record { counter = k; body = b }) q l got)
      where
        either : (q : Id) (l : Local) → ((q ≡ id) × (record { counter = k; body = b } ≡ l)) ⊎ (get d.locals q ≡ Some l) → IsLocal q l
        either q l (inr old) = h.locals q l old
        either q l (inl new) = subst (IsLocal q) new.1 (record { identity = subst IsId (sym new.0) is_id; counter = IsCounter-next d id named b k e; body = is })

-- ---- purges

module _ (d : Database) (id : Id) (named : List Rev) (is_id : IsId id) (h : IsDatabase d) where
  pub removed_revs : All IsRev (removed_of d id named)
  removed_revs = at (tree_at d id) (sound_trees d h id)
    where
      at : (o : Option Tree) → AreSound o → All IsRev (unwrap_or (option_map (removed_leaves named) o) [])
      at None sound = All-nil IsRev
      at (Some t) sound = All-weaker (Contains (removed_leaves named t)) IsRev (λ r c. (sound t refl).in_range.known r (leaf_known t r ((Contains-removed_leaves named t r).0 c).1)) (removed_leaves named t) (All-contains_itself (removed_leaves named t))

  left_sound : (o : Option Tree) → AreSound o → AreSound (option_and_then (cut named) o)
  left_sound None sound u e = absurd (none-some u e)
  left_sound (Some t) sound u e = let s = sound t refl in record { tree = IsTree-cut named t s.tree.forest u e; in_range = IsInRange-cut named t s.tree.forest u e s.in_range }

  IsDatabase-logged : (leaves : List Rev) → 0 < length leaves → All IsRev leaves → IsDatabase (record d { purges = logged d.purges id leaves })
  IsDatabase-logged leaves some revs = record { docs = h.docs; numbered = IsNumbered-same d _ refl (omega arith) h.numbered; locals = h.locals; log = IsLog-logged d.purges id leaves is_id revs some h.log; revs_limit = h.revs_limit }

  IsDatabase-purged : (leaves : List Rev) (left : Option Tree) → 0 < length leaves → All IsRev leaves → AreSound left → IsDatabase (purged d id leaves left)
  IsDatabase-purged leaves (Some t) some revs sound = IsDatabase-with_tree _ id t is_id (sound t refl) (IsDatabase-logged leaves some revs)
  IsDatabase-purged leaves None some revs sound =
      let logged = IsDatabase-logged leaves some revs in
      record { docs = λ q r e. h.docs q r (without-some d.docs id q r e); numbered = IsNumbered-without _ id logged.numbered; locals = h.locals; log = logged.log; revs_limit = h.revs_limit }

  IsDatabase-purge : IsDatabase (after_purge d (id, named))
  IsDatabase-purge = at (removed_of d id named) removed_revs
    where
      at : (leaves : List Rev) → All IsRev leaves → IsDatabase (purge_removed d id named leaves)
      at [] revs = h
      at (r ∷ rs) revs = IsDatabase-purged (r ∷ rs) (option_and_then (cut named) (tree_at d id)) (omega arith) revs (left_sound (tree_at d id) (sound_trees d h id))

IsDatabase-purges : (d : Database) (es : List (Id × List Rev)) → All NamesRevs es → IsDatabase d → IsDatabase (after_purges d es)
IsDatabase-purges d [] all h = h
IsDatabase-purges d (e ∷ es) all h = IsDatabase-purges (after_purge d e) es (All-tail NamesRevs e es all) (IsDatabase-purge d e.0 e.1 (All-head NamesRevs e es all).0 h)

-- ---- commands

IsDatabase-compacted : (d : Database) → IsDatabase d → IsDatabase (compacted d)
IsDatabase-compacted d h = record { docs = docs; numbered = IsNumbered-compacted d h.numbered; locals = h.locals; log = h.log; revs_limit = h.revs_limit }
  where
    docs : (id : Id) (r : Record) → get (compacted d).docs id ≡ Some r → IsRecord id r
    docs id r e =
        let s = refined-some (λ _ x. stripped x) d.docs id r e in
        let was = h.docs id s.0 s.1 in
        subst (IsRecord id) s.2 (record { identity = was.identity; tree = IsTree-strip s.0.tree was.tree; in_range = IsInRange-strip s.0.tree was.in_range })

IsDatabase-changed : (d : Database) (c : Command) → IsCommand c → IsDatabase d → IsDatabase (changed_by d c)
unfolding changed_by
IsDatabase-changed d (Edits es) is h = IsDatabase-edits d es is.1 h
IsDatabase-changed d (Merges ms) is h = IsDatabase-merges d ms is.1 h
IsDatabase-changed d (PutLocal id named body) is h = IsDatabase-local d id named body is.0 is.2 h
IsDatabase-changed d (Purge named) is h = IsDatabase-purges d (entries named) is.1 h
IsDatabase-changed d (SetLimit n) is h = record { docs = h.docs; numbered = IsNumbered-same d _ refl (omega arith) h.numbered; locals = h.locals; log = h.log; revs_limit = is }
IsDatabase-changed d (SetPurgedLimit n) is h = record { docs = h.docs; numbered = IsNumbered-same d _ refl (omega arith) h.numbered; locals = h.locals; log = IsLog-limited d.purges n is h.log; revs_limit = h.revs_limit }
IsDatabase-changed d Compact is h = IsDatabase-compacted d h

pub IsDatabase-act : (d : Database) (seat : Seat) (c : Command) → IsCommand c → IsDatabase d → IsDatabase (act d seat c)
unfolding act
IsDatabase-act d seat c is h =
    let e = IsDatabase-changed d c is h in
    record { docs = e.docs; numbered = IsNumbered-same (changed_by d c) _ refl (omega arith) e.numbered; locals = e.locals; log = e.log; revs_limit = e.revs_limit }

pub IsDatabase-replay : (d : Database) (es : List Entry) → All (λ e. IsCommand e.command) es → IsDatabase d → IsDatabase (replay d es)
IsDatabase-replay d [] all h = h
IsDatabase-replay d (e ∷ es) all h = IsDatabase-replay (act d e.seat e.command) es (All-tail (λ f. IsCommand f.command) e es all) (IsDatabase-act d e.seat e.command (All-head (λ f. IsCommand f.command) e es all) h)

-- a document has a winner, whose body is there
pub winner_has_body : (d : Database) (id : Id) (t : Tree) → IsDatabase d → tree_at d id ≡ Some t → (w : Leaf) × (winner t ≡ Some w) × (body : Body) × (body_of t w.rev ≡ Some body)
winner_has_body d id t h e =
    let sound = sound_trees d h id t e in
    let w = some_winner t sound.tree in
    let leaf = ((winner-greatest t w.0).0 w.1).leaf.leaf in
    at w.0 w.1 (body_of t w.0.rev) refl (sound.tree.forest.bodies w.0.rev leaf)
  where
    at : (w : Leaf) → winner t ≡ Some w → (o : Option Body) → body_of t w.rev ≡ o → is_some (body_of t w.rev) ≡ true → (w : Leaf) × (winner t ≡ Some w) × (body : Body) × (body_of t w.rev ≡ Some body)
    at w is None e some = absurd (true≢false (sym some ∙ ap is_some e))
    at w is (Some body) e some = (w, is, body, e)
