-- A copy that agrees with a database agrees with every later one.
use Rattle.std.specs.Prelude.{◌≡◌, ℕ, ◌+◌, ◌≤◌, ◌⊎◌, true, false, ◌||◌, List, nat_lt, Option, Some, None, option_map, unwrap_or, refl}
use Rattle.std.specs.List.{list_any}
use Rattle.std.proofs.Common.{sym, ap, subst, ◌∙◌, inl, inr, arith, lt-ltb}
use Rattle.std.proofs.lemmas.Bool.{or_left, or_right}
use Rattle.std.proofs.lemmas.List.Folds.{list_any-append}
use Rattle.model.specs.Map.{Map, get, without, same_key, same_key-equal, same_key_itself}
use Rattle.model.specs.Revision.{Rev}
use Rattle.model.specs.Tree.{Tree}
use Rattle.model.specs.Command.{Id, names, Command, Seat, Entry}
use Rattle.model.specs.PurgeLog.{PurgeLog, logged, limited, purges_since, is_overrun, AreNumbered}
use Rattle.model.specs.Database.{Database, Record, with_tree, stripped, compacted, act}
use Rattle.model.specs.History.{replay, Chronicle, base_of, now, successor, Follows, extends, reopened}
use Rattle.model.specs.Compaction.{Marks, marks_of, is_logged, is_updated, strip_at, Agrees}
use Rattle.model.proofs.ListLaws.{by_cases}
use Rattle.model.proofs.MapLaws.{get-refine_all}
use Rattle.model.proofs.LookupLaws.{get-put_same, get-put_other, get-without_other}
use Rattle.model.proofs.StripLaws.{strip-strip}
use Rattle.model.proofs.LogLaws.{AreNumbered-logged, since-logged, is_overrun-logged, AreNumbered-limited, since-limited, is_overrun-limited}
use Rattle.model.proofs.StepLaws.{KeptByEntries, purged, of_act, of_replay}
use Rattle.model.proofs.LastLaws.{later_entries}

-- e is a later database than d
record Later (d e : Database) : Type 0 where
  numbered : AreNumbered e.purges.purge_seq e.purges.infos
  update : d.update_seq ≤ e.update_seq
  purge : d.purges.purge_seq ≤ e.purges.purge_seq
  overrun : (mark : ℕ) → is_overrun d.purges mark ≡ true → is_overrun e.purges mark ≡ true
  agrees : (copy : Id → Option Record) (m : Marks) → m.update ≤ d.update_seq → m.purge ≤ d.purges.purge_seq → Agrees copy m d → Agrees copy m e

abbrev IsLater : Database → Database → Type 0
IsLater d e = AreNumbered d.purges.purge_seq d.purges.infos → Later d e

Later-none : (d : Database) → IsLater d d
Later-none d h = record { numbered = h; update = omega arith; purge = omega arith; overrun = λ mark over. over; agrees = λ copy m u p a. a }

Later-more : (d e f : Database) → IsLater d e → IsLater e f → IsLater d f
Later-more d e f g k h =
    let one = g h in
    let two = k one.numbered in
    record {
      numbered = two.numbered;
      update = omega (arith, one.update, two.update);
      purge = omega (arith, one.purge, two.purge);
      overrun = λ mark over. two.overrun mark (one.overrun mark over);
      agrees = λ copy m u p a. two.agrees copy m (omega (arith, u, one.update)) (omega (arith, p, one.purge)) (one.agrees copy m u p a);
    }

-- what agreement says of one document
abbrev AgreesAt : (Id → Option Record) → Marks → Database → Id → Type 0
AgreesAt copy m d id = (copy id ≡ strip_at d id) ⊎ ((is_updated d m.update id ≡ true) ⊎ (is_logged d m.purge id ≡ true))

Later-aside : (d e : Database) → e.docs ≡ d.docs → e.purges ≡ d.purges → e.update_seq ≡ d.update_seq → IsLater d e
Later-aside d e docs purges update_seq h = record {
  numbered = subst (λ (l : PurgeLog). AreNumbered l.purge_seq l.infos) (sym purges) h;
  update = omega arith;
  purge = omega (arith, ap (λ l. l.purge_seq) purges);
  overrun = λ mark over. ap (λ l. is_overrun l mark) purges ∙ over;
  agrees = λ copy m u p a. subst (λ x. Agrees copy m (record e { docs = x })) (sym docs) (subst (λ x. Agrees copy m (record d { purges = x })) (sym purges) a);
}

-- the test of an update reads a number that a strip keeps
updated-stripped : (mark : ℕ) (o : Option Record) → unwrap_or (option_map (λ r. nat_lt mark r.seq) (option_map stripped o)) false ≡ unwrap_or (option_map (λ r. nat_lt mark r.seq) o) false
updated-stripped mark None = refl
updated-stripped mark (Some r) = refl

same_updated : (d e : Database) (mark : ℕ) (id : Id) → strip_at e id ≡ strip_at d id → is_updated e mark id ≡ is_updated d mark id
same_updated d e mark id is = sym (updated-stripped mark (get e.docs id)) ∙ ap (λ o. unwrap_or (option_map (λ r. nat_lt mark r.seq) o) false) is ∙ updated-stripped mark (get d.docs id)

-- where the log and a document's strip stay, so does what is said of it
AgreesAt-same : (copy : Id → Option Record) (m : Marks) (d e : Database) (id : Id) → e.purges ≡ d.purges → strip_at e id ≡ strip_at d id → AgreesAt copy m d id → AgreesAt copy m e id
AgreesAt-same copy m d e id purges is (inl a) = inl (a ∙ sym is)
AgreesAt-same copy m d e id purges is (inr (inl a)) = inr (inl (same_updated d e m.update id is ∙ a))
AgreesAt-same copy m d e id purges is (inr (inr a)) = inr (inr (ap (λ l. list_any (λ p. same_key names p.id id) (purges_since l m.purge)) purges ∙ a))

Agrees-same : (copy : Id → Option Record) (m : Marks) (d e : Database) → e.purges ≡ d.purges → ((id : Id) → AgreesAt copy m d id → AgreesAt copy m e id) → Agrees copy m d → Agrees copy m e
Agrees-same copy m d e purges each (inl over) = inl (ap (λ l. is_overrun l m.purge) purges ∙ over)
Agrees-same copy m d e purges each (inr a) = inr (λ id. each id (a id))

-- ---- a new tree takes an update number

Later-tree : (d : Database) (id : Id) (t : Tree) → IsLater d (with_tree d id t)
Later-tree d id t h = record {
  numbered = h;
  update = omega arith;
  purge = omega arith;
  overrun = λ mark over. over;
  agrees = λ copy m u p. Agrees-same copy m d (with_tree d id t) refl (λ q a. by_cases (same_key names q id)
      (λ same. inr (inl (ap (λ o. unwrap_or (option_map (λ r. nat_lt m.update r.seq) o) false) (get-put_same d.docs id new q same) ∙ lt-ltb m.update (d.update_seq + 1) (omega (arith, u)))))
      (λ other. AgreesAt-same copy m d (with_tree d id t) q refl (ap (option_map stripped) (get-put_other d.docs id new q other)) a));
}
  where
    new : Record
    new = record { tree = t; seq = d.update_seq + 1 }

-- ---- a purge is logged

-- with other documents and another log
abbrev with_log : Database → Map names Record → PurgeLog → Database
with_log d docs log = record d { docs = docs; purges = log }

module _ (d : Database) (id : Id) (leaves : List Rev) (h : AreNumbered d.purges.purge_seq d.purges.infos) where
  abbrev log : PurgeLog
  log = logged d.purges id leaves

  logged_now : (m : Marks) (q : Id) → m.purge ≤ d.purges.purge_seq → is_overrun log m.purge ≡ false → list_any (λ p. same_key names p.id q) (purges_since log m.purge) ≡ (is_logged d m.purge q || (same_key names id q || false))
  logged_now m q p within = ap (list_any (λ p. same_key names p.id q)) (since-logged d.purges id leaves h m.purge p within) ∙ list_any-append (λ p. same_key names p.id q) (purges_since d.purges m.purge) _

  -- each document is as it was, or it is the one that is logged
  Later-logged : (docs : Map names Record) → ((q : Id) → (get docs q ≡ get d.docs q) ⊎ (same_key names id q ≡ true)) → Later d (with_log d docs log)
  Later-logged docs each = record {
    numbered = AreNumbered-logged d.purges id leaves h;
    update = omega arith;
    purge = omega arith;
    overrun = is_overrun-logged d.purges id leaves h;
    agrees = agrees;
  }
    where
      at : (copy : Id → Option Record) (m : Marks) (q : Id) → m.purge ≤ d.purges.purge_seq → is_overrun log m.purge ≡ false → (get docs q ≡ get d.docs q) ⊎ (same_key names id q ≡ true) → AgreesAt copy m d q → AgreesAt copy m (with_log d docs log) q
      at copy m q p within (inr its) a = inr (inr (logged_now m q p within ∙ or_right (is_logged d m.purge q) _ (or_left _ false its)))
      at copy m q p within (inl is) (inl a) = inl (a ∙ ap (option_map stripped) (sym is))
      at copy m q p within (inl is) (inr (inl a)) = inr (inl (ap (λ o. unwrap_or (option_map (λ r. nat_lt m.update r.seq) o) false) is ∙ a))
      at copy m q p within (inl is) (inr (inr a)) = inr (inr (logged_now m q p within ∙ or_left _ _ a))

      agrees : (copy : Id → Option Record) (m : Marks) → m.update ≤ d.update_seq → m.purge ≤ d.purges.purge_seq → Agrees copy m d → Agrees copy m (with_log d docs log)
      agrees copy m u p (inl over) = inl (is_overrun-logged d.purges id leaves h m.purge over)
      agrees copy m u p (inr a) = by_cases (is_overrun log m.purge) (λ over. inl over) (λ within. inr (λ q. at copy m q p within (each q) (a q)))

Later-purged : (d : Database) (id : Id) (leaves : List Rev) (left : Option Tree) → IsLater d (purged d id leaves left)
Later-purged d id leaves (Some t) =
    let log = logged d.purges id leaves in
    Later-more d (with_log d d.docs log) _ (λ h. Later-logged d id leaves h d.docs (λ q. inl refl)) (Later-tree (with_log d d.docs log) id t)
Later-purged d id leaves None = λ h. Later-logged d id leaves h (without d.docs id) (λ q. by_cases (same_key names q id)
    (λ same. inr (ap (same_key names id) (same_key-equal names q id same) ∙ same_key_itself names id))
    (λ other. inl (get-without_other d.docs id q other)))

-- ---- another limit of the log may lose a purge above the mark, and then it is overrun

Later-limited : (d : Database) (n : ℕ) → IsLater d (record d { purges = limited d.purges n })
Later-limited d n h = record {
  numbered = AreNumbered-limited d.purges n h;
  update = omega arith;
  purge = omega arith;
  overrun = is_overrun-limited d.purges n h;
  agrees = agrees;
}
  where
    under : Database
    under = record d { purges = limited d.purges n }

    at : (copy : Id → Option Record) (m : Marks) (q : Id) → is_overrun under.purges m.purge ≡ false → AgreesAt copy m d q → AgreesAt copy m under q
    at copy m q within (inl a) = inl a
    at copy m q within (inr (inl a)) = inr (inl a)
    at copy m q within (inr (inr a)) = inr (inr (ap (list_any (λ p. same_key names p.id q)) (since-limited d.purges n h m.purge within) ∙ a))

    agrees : (copy : Id → Option Record) (m : Marks) → m.update ≤ d.update_seq → m.purge ≤ d.purges.purge_seq → Agrees copy m d → Agrees copy m under
    agrees copy m u p (inl over) = inl (is_overrun-limited d.purges n h m.purge over)
    agrees copy m u p (inr a) = by_cases (is_overrun under.purges m.purge) (λ over. inl over) (λ within. inr (λ q. at copy m q within (a q)))

-- ---- a compaction strips what a copy has stripped

strip_at-compacted : (d : Database) (id : Id) → strip_at (compacted d) id ≡ strip_at d id
strip_at-compacted d id = ap (option_map stripped) (get-refine_all (λ _ r. stripped r) d.docs id) ∙ twice (get d.docs id)
  where
    twice : (o : Option Record) → option_map stripped (option_map stripped o) ≡ option_map stripped o
    twice None = refl
    twice (Some r) = λ i. Some (record { tree = strip-strip r.tree i; seq = r.seq })

Later-compacted : (d : Database) → IsLater d (compacted d)
Later-compacted d h = record {
  numbered = h;
  update = omega arith;
  purge = omega arith;
  overrun = λ mark over. over;
  agrees = λ copy m u p. Agrees-same copy m d (compacted d) refl (λ id. AgreesAt-same copy m d (compacted d) id refl (strip_at-compacted d id));
}

later_by_entries : KeptByEntries IsLater
later_by_entries = record {
  purges = record { writes = record { none = Later-none; more = Later-more; tree = Later-tree }; purge = Later-purged };
  aside = Later-aside;
  limit = Later-limited;
  compact = Later-compacted;
}

pub Agrees-replay : (copy : Id → Option Record) (m : Marks) (d : Database) (es : List Entry) → AreNumbered d.purges.purge_seq d.purges.infos → m.update ≤ d.update_seq → m.purge ≤ d.purges.purge_seq → Agrees copy m d → Agrees copy m (replay d es)
Agrees-replay copy m d es h u p a = (of_replay IsLater later_by_entries d es h).agrees copy m u p a

-- what one entry does: a copy of all strips agrees at the database's own numbers
pub Agrees-entry : (d : Database) (seat : Seat) (c : Command) → AreNumbered d.purges.purge_seq d.purges.infos → Agrees (strip_at d) (marks_of d) (act d seat c)
Agrees-entry d seat c h = (of_act IsLater later_by_entries d seat c h).agrees (strip_at d) (marks_of d) (omega arith) (omega arith) (inr (λ id. inl refl))

pub is_overrun-replay : (d : Database) (es : List Entry) (mark : ℕ) → AreNumbered d.purges.purge_seq d.purges.infos → is_overrun d.purges mark ≡ true → is_overrun (replay d es).purges mark ≡ true
is_overrun-replay d es mark h over = (of_replay IsLater later_by_entries d es h).overrun mark over

-- ---- one version follows another

Later-successor : (d : Database) → IsLater d (successor d)
Later-successor d = Later-aside d (successor d) refl refl refl

module _ (earlier : Chronicle) where
  Later-follows : (later : Chronicle) → Follows later earlier → IsLater (now earlier) (now later)
  Later-follows later (extends _ _ x) = let m = later_entries later earlier x in subst (IsLater (now earlier)) (sym m.1) (of_replay IsLater later_by_entries (now earlier) m.0)
  Later-follows later (reopened _ middle _ f is) =
      let next = successor (now middle) in
      Later-more (now earlier) (now middle) (now later) (Later-follows middle f)
      (Later-more (now middle) next (now later) (Later-successor (now middle)) (subst (λ b. IsLater (base_of b) (now later)) is (of_replay IsLater later_by_entries (base_of later.base) later.entries)))

  pub Agrees-follows : (copy : Id → Option Record) (m : Marks) (later : Chronicle) → AreNumbered (now earlier).purges.purge_seq (now earlier).purges.infos → Follows later earlier → m.update ≤ (now earlier).update_seq → m.purge ≤ (now earlier).purges.purge_seq → Agrees copy m (now earlier) → Agrees copy m (now later)
  Agrees-follows copy m later h f u p a = (Later-follows later f h).agrees copy m u p a

  pub is_overrun-follows : (later : Chronicle) (mark : ℕ) → AreNumbered (now earlier).purges.purge_seq (now earlier).purges.infos → Follows later earlier → is_overrun (now earlier).purges mark ≡ true → is_overrun (now later).purges mark ≡ true
  is_overrun-follows later mark h f over = (Later-follows later f h).overrun mark over
