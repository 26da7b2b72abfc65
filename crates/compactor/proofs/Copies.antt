-- A copy: what it has of each document, a slice more, and what it has caught up with.
use Rattle.std.specs.Prelude.{◌≡◌, ◌+◌, ◌-◌, ◌<◌, ◌≤◌, ℕ, zero, suc, Bool, true, false, cond, List, [], ◌∷◌, length, take, drop, map, Option, Some, None, refl}
use Rattle.std.proofs.Common.{ap, sym, subst, ◌∙◌, inl, inr, arith}
use Rattle.std.proofs.Math.ListN.{length-map}
use Rattle.std.proofs.lemmas.List.{take_all}
use Rattle.std.proofs.lemmas.Option.{none-some, same_Some}
use Rattle.model.specs.Map.{Map, entries, empty, get, same_map}
use Rattle.model.specs.Command.{Id, names}
use Rattle.model.specs.PurgeLog.{AreNumbered, is_overrun}
use Rattle.model.specs.Database.{Database, Record, IsNumbered, compacted, stripped}
use Rattle.model.specs.History.{Chronicle, now, Follows}
use Rattle.model.specs.Compaction.{Marks, Touched, marks_of, Agrees, passed, taken_over, touched, touched_id}
use Rattle.model.proofs.MapLaws.{get-refine_all}
use Rattle.model.proofs.LastLaws.{Lasts, Lasts-follows, purge_seq-follows}
use Rattle.model.proofs.AgreeLaws.{Agrees-follows}
use Rattle.model.proofs.TouchedLaws.{passed-most}
use Rattle.model.proofs.CatchUpLaws.{Agrees-passed, taken_all as all_taken}
use Rattle.snapshots.specs.Listing.{Listing}
use Rattle.snapshots.specs.Version.{IsHistory}
use Rattle.snapshots.specs.Taken.{taken_all, ids_of, IsCoherent}
use Rattle.snapshots.proofs.Taken.{get-taken_all, taken_all-append, taken-each, IsCoherent-empty, IsCoherent-later}
use Rattle.compactor.specs.Copy.{CopyView, copied, copy_of, last_id, IsSlicing, IsCopy}
use Rattle.compactor.proofs.Sliced.{take-drop}

-- ---- what a copy has of each document

-- all strips agree at the database's own numbers
Agrees-compacted : (d : Database) (m : Marks) → m ≡ marks_of d → Agrees (get (compacted d).docs) m d
Agrees-compacted d m is = subst (λ k. Agrees (get (compacted d).docs) k d) (sym is) (inr (λ id. inl (get-refine_all (λ _ r. stripped r) d.docs id)))

pub Agrees-copied : (seen : Chronicle) (last : Option Id) (left : ℕ) (records : Listing) (m : Marks) → IsCopy (now seen) last left records m → Agrees (get (copied left records.docs seen)) m (now seen)
Agrees-copied seen last zero records m h = h.agrees refl
Agrees-copied seen last (suc n) records m h = Agrees-compacted (now seen) m (h.slicing (omega arith)).marks

pub copied-slicing : (seen : Chronicle) (left : ℕ) (docs : Map names Record) → 0 < left → copied left docs seen ≡ (compacted (now seen)).docs
copied-slicing seen zero docs less = absurd (omega arith)
copied-slicing seen (suc n) docs less = refl

none-listed : {X : Type 0} (xs : List X) → 0 ≡ length xs → xs ≡ []
none-listed [] e = refl
none-listed (x ∷ xs) e = absurd (omega arith)

pub copied-start : (seen : Chronicle) (left : ℕ) → left ≡ length (entries (now seen).docs) → copied left empty seen ≡ (compacted (now seen)).docs
copied-start seen zero e = let d : Database = now seen in ap (λ (es : List (Id × Record)). taken_all empty d (map (λ e. e.0) es)) (sym (none-listed (entries d.docs) e)) ∙ taken-each d
copied-start seen (suc n) e = refl

pub IsCopy-start : (seen : Chronicle) (left : ℕ) (records : Listing) (m : Marks) → left ≡ length (entries (now seen).docs) → records ≡ record { docs = empty; update_seq = (now seen).update_seq } → m ≡ marks_of (now seen) → IsCopy (now seen) None left records m
IsCopy-start seen left records m all is marks = record {
  upto = ap (λ (l : Listing). l.update_seq) is;
  update = omega (arith, ap (λ (k : Marks). k.update) marks);
  purge = omega (arith, ap (λ (k : Marks). k.purge) marks);
  coherent = subst (λ (docs : Map names Record). IsCoherent docs d) (sym docs) (IsCoherent-empty d);
  agrees = λ none. subst (λ (k : Map names Record). Agrees (get k) m d) (sym (docs ∙ sym (ap (λ n. copied n empty seen) none) ∙ copied-start seen left all)) (Agrees-compacted d m marks);
  slicing = λ less. record {
    marks = marks;
    few = omega (arith, all);
    docs_are = docs ∙ ap (λ k. taken_all empty d (take k (ids_of d.docs))) zero_done;
    last_is = ap (λ k. last_id None (take k (ids_of d.docs))) zero_done;
  };
}
  where
    d : Database
    d = now seen

    docs : records.docs ≡ empty
    docs = ap (λ (l : Listing). l.docs) is

    zero_done : 0 ≡ length (entries d.docs) - left
    zero_done = omega (arith, all)

-- ---- a slice more

module _ (seen : Chronicle) (last after : Option Id) (left n : ℕ) (records more : Listing) (m : Marks) (h : IsCopy (now seen) last left records m) (some : 0 < n) (le : n ≤ left) where
  abbrev d : Database
  d = now seen

  abbrev done : ℕ
  done = length (entries d.docs) - left

  slicing : IsSlicing d last left records.docs m
  slicing = h.slicing (omega (arith, some, le))

  pub few-done : done ≤ length (entries d.docs)
  few-done = omega arith

  pub last-done : last ≡ last_id None (take done (ids_of d.docs))
  last-done = slicing.last_is

  abbrev NextSlice : Type 0
  NextSlice = (more ≡ record records { docs = taken_all records.docs d (take n (drop done (ids_of d.docs))) }) × (after ≡ last_id None (take (done + n) (ids_of d.docs))) × IsCoherent more.docs d

  module _ (next : NextSlice) where
    longer : done + n ≡ length (entries d.docs) - (left - n)
    longer = omega (arith, slicing.few, le)

    docs_are : more.docs ≡ taken_all empty d (take (length (entries d.docs) - (left - n)) (ids_of d.docs))
    docs_are =
        ap (λ (l : Listing). l.docs) next.0
        ∙ ap (λ (docs : Map names Record). taken_all docs d (take n (drop done (ids_of d.docs)))) slicing.docs_are
        ∙ sym (taken_all-append empty d (take done (ids_of d.docs)) (take n (drop done (ids_of d.docs))))
        ∙ ap (taken_all empty d) (take-drop done n (ids_of d.docs))
        ∙ ap (λ k. taken_all empty d (take k (ids_of d.docs))) longer

    all_are : left - n ≡ 0 → more.docs ≡ (compacted d).docs
    all_are none =
        docs_are
        ∙ ap (taken_all empty d) (take_all (length (entries d.docs) - (left - n)) (ids_of d.docs) (omega (arith, none, length-map (entries d.docs) (λ (e : Id × Record). e.0))))
        ∙ taken-each d

    pub IsCopy-sliced : IsCopy d after (left - n) more m
    IsCopy-sliced = record {
      upto = ap (λ (l : Listing). l.update_seq) next.0 ∙ h.upto;
      update = h.update;
      purge = h.purge;
      coherent = next.2;
      agrees = λ none. subst (λ (docs : Map names Record). Agrees (get docs) m d) (sym (all_are none)) (Agrees-compacted d m slicing.marks);
      slicing = λ less. record {
        marks = slicing.marks;
        few = omega (arith, slicing.few);
        docs_are = docs_are;
        last_is = next.1 ∙ ap (λ k. last_id None (take k (ids_of d.docs))) longer;
      };
    }

    pub copied-sliced : copied (left - n) more.docs seen ≡ copied left records.docs seen
    copied-sliced = at (left - n) refl ∙ sym (copied-slicing seen left records.docs (omega (arith, some, le)))
      where
        at : (k : ℕ) → left - n ≡ k → copied k more.docs seen ≡ (compacted d).docs
        at zero none = all_are none
        at (suc k) e = refl

-- ---- a later version

-- the answer of a count of what is touched
pub some-touched : (b : Bool) (n t : ℕ) → Some t ≡ cond b None (Some n) → (b ≡ false) × (t ≡ n)
some-touched true n t e = absurd (none-some t (sym e))
some-touched false n t e = (refl, same_Some t n e)

pub none-touched : (b : Bool) (n : ℕ) → None ≡ cond b None (Some n) → b ≡ true
none-touched true n e = refl
none-touched false n e = absurd (none-some n e)

-- a copy that is made, and a version that follows the one that it has seen
pub record Lags (later : Chronicle) (records : Listing) (m : Marks) : Type 0 where
  pub seen : Chronicle
  pub last : Option Id
  pub follows : Follows later seen
  pub copy : IsCopy (now seen) last 0 records m
  pub numbered : AreNumbered (now seen).purges.purge_seq (now seen).purges.infos

module _ (later : Chronicle) (records : Listing) (m : Marks) (g : Lags later records m) where
  abbrev old : Database
  old = now g.seen

  abbrev new : Database
  new = now later

  lasts : Lasts old new
  lasts = Lasts-follows g.seen later g.follows

  pub upto-later : records.update_seq ≤ new.update_seq
  upto-later = omega (arith, g.copy.upto, lasts.updates)

  pub coherent-later : IsCoherent records.docs new
  coherent-later = IsCoherent-later records.docs old new lasts g.copy.coherent

  update-later : m.update ≤ new.update_seq
  update-later = omega (arith, g.copy.update, lasts.updates)

  purge-later : m.purge ≤ new.purges.purge_seq
  purge-later = omega (arith, g.copy.purge, purge_seq-follows g.seen later g.follows)

  agrees-later : Agrees (get records.docs) m new
  agrees-later = Agrees-follows g.seen (get records.docs) m later g.numbered g.follows g.copy.update g.copy.purge (g.copy.agrees refl)

  module _ (num : IsNumbered new) (log : AreNumbered new.purges.purge_seq new.purges.infos) (within : is_overrun new.purges m.purge ≡ false) (n : ℕ) where
    abbrev ids : List Id
    ids = map touched_id (take n (touched new m))

    pub IsCopy-caught_up : (after : Option Id) (more : Listing) (marks : Marks) → more ≡ record { docs = taken_all records.docs new ids; update_seq = new.update_seq } → marks ≡ passed m (take n (touched new m)) → IsCoherent more.docs new → IsCopy new after 0 more marks
    IsCopy-caught_up after more marks taken moved coherent =
        let most = passed-most new m n log num update-later purge-later in
        let same : get (taken_all records.docs new ids) ≡ taken_over (get records.docs) new ids = λ i q. get-taken_all records.docs new ids q i in
        let agrees = subst (λ copy. Agrees copy (passed m (take n (touched new m))) new) (sym same) (Agrees-passed (get records.docs) new m num within n log agrees-later) in
        record {
          upto = ap (λ (l : Listing). l.update_seq) taken;
          update = omega (arith, most, ap (λ (k : Marks). k.update) moved);
          purge = omega (arith, most, ap (λ (k : Marks). k.purge) moved);
          coherent = coherent;
          agrees = λ _. subst (λ (l : Listing). Agrees (get l.docs) marks new) (sym taken) (subst (λ k. Agrees (get (taken_all records.docs new ids)) k new) (sym moved) agrees);
          slicing = λ less. absurd (omega arith);
        }

    -- where no more were touched, the copy is the strip
    pub finished : length (touched new m) ≤ n → taken_all records.docs new ids ≡ (compacted new).docs
    finished few = same_map {O = names} (taken_all records.docs new ids) (compacted new).docs (λ q.
        get-taken_all records.docs new ids q
        ∙ ap (λ (ts : List Touched). taken_over (get records.docs) new (map touched_id ts) q) (take_all n (touched new m) few)
        ∙ all_taken (get records.docs) new m num within agrees-later q
        ∙ sym (get-refine_all (λ _ r. stripped r) new.docs q))

-- ---- what is seen of a copy that is made

module _ (seen : Chronicle) (left update purge visited : ℕ) (docs : Map names Record) (view : CopyView) (is : copy_of seen left docs update purge visited ≡ view) (none : view.left ≡ 0) where
  pub none-left : left ≡ 0
  none-left = ap (λ (v : CopyView). v.left) is ∙ none

  pub docs-seen : docs ≡ view.docs
  docs-seen = sym (ap (λ n. copied n docs seen) none-left) ∙ ap (λ (v : CopyView). v.docs) is

  pub marks-seen : ◌≡◌ {A = Marks} (record { update = update; purge = purge }) view.marks
  marks-seen = ap (λ (v : CopyView). v.marks) is

  -- and after some documents were taken over
  pub taken-seen : (new : Database) (n : ℕ) (later : Chronicle) (more : Map names Record) → more ≡ taken_all docs new (map touched_id (take n (touched new (record { update = update; purge = purge })))) → (id : Id)
      → get (copied left more later) id ≡ taken_over (get view.docs) new (map touched_id (take n (touched new view.marks))) id
  taken-seen new n later more taken id =
      let ids = map touched_id (take n (touched new (record { update = update; purge = purge }))) in
      ap (λ k. get (copied k more later) id) none-left
      ∙ ap (λ (m : Map names Record). get m id) taken
      ∙ get-taken_all docs new ids id
      ∙ (λ i. taken_over (get (docs-seen i)) new (map touched_id (take n (touched new (marks-seen i)))) id)

pub lags : (later seen : Chronicle) (last : Option Id) (left update purge visited : ℕ) (records : Listing) (view : CopyView) → copy_of seen left records.docs update purge visited ≡ view → view.left ≡ 0 → Follows later view.seen
    → IsCopy (now seen) last left records (record { update = update; purge = purge }) → IsHistory seen → Lags later records (record { update = update; purge = purge })
lags later seen last left update purge visited records view is none follows copy history = record {
  seen = seen;
  last = last;
  follows = subst (Follows later) (sym (ap (λ (v : CopyView). v.seen) is)) follows;
  copy = subst (λ n. IsCopy (now seen) last n records (record { update = update; purge = purge })) (none-left seen left update purge visited records.docs view is none) copy;
  numbered = history.database.log.numbered;
}
