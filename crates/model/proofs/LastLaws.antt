-- A later version has no lower number, and what it has at an old number it had before, but for the bodies that a strip drops.
use Rattle.std.specs.Prelude.{◌≡◌, ◌+◌, ◌≤◌, List, Option, Some, None, option_map, refl}
use Rattle.std.proofs.Common.{◌⊎◌, inl, inr, sym, ap, subst, ◌∙◌, arith}
use Rattle.std.proofs.lemmas.Option.{none-some, same_Some}
use Rattle.model.specs.Map.{get}
use Rattle.model.specs.Revision.{Rev}
use Rattle.model.specs.Tree.{Tree}
use Rattle.model.specs.Command.{Id, Entry}
use Rattle.model.specs.PurgeLog.{logged}
use Rattle.model.specs.Database.{Database, Record, IsNumbered, with_tree, without_document, leave, stripped, compacted}
use Rattle.model.specs.History.{replay, Chronicle, base_of, now, successor, Extends, Follows, extends, reopened}
use Rattle.model.specs.Compaction.{strip_at}
use Rattle.model.proofs.MapLaws.{get-refine_all}
use Rattle.model.proofs.LookupLaws.{put-cases, without-some}
use Rattle.model.proofs.StripLaws.{strip-strip}
use Rattle.model.proofs.StepLaws.{KeptByEntries, purged, of_replay}
use Rattle.model.proofs.NumberLaws.{IsNumbered-replay, purge_seq-replay}
use Rattle.model.proofs.HistoryLaws.{replay-append}

pub record Lasts (d e : Database) : Type 0 where
  pub updates : d.update_seq ≤ e.update_seq
  pub old : (id : Id) (r : Record) → get e.docs id ≡ Some r → r.seq ≤ d.update_seq → strip_at e id ≡ strip_at d id

Lasts-none : (d : Database) → Lasts d d
Lasts-none d = record { updates = omega arith; old = λ id r h le. refl }

-- a record with the same strip
pub record Before (o : Option Record) (r : Record) : Type 0 where
  pub was : Record
  pub has : o ≡ Some was
  pub same : stripped was ≡ stripped r

before : (r : Record) (o : Option Record) → option_map stripped (Some r) ≡ option_map stripped o → Before o r
before r None e = absurd (none-some (stripped r) (sym e))
before r (Some s) e = record { was = s; has = refl; same = same_Some (stripped s) (stripped r) (sym e) }

-- what has an old number was there
pub Lasts-before : (d e : Database) (id : Id) (r : Record) → Lasts d e → get e.docs id ≡ Some r → r.seq ≤ d.update_seq → Before (get d.docs id) r
Lasts-before d e id r h has le = before r (get d.docs id) (ap (option_map stripped) (sym has) ∙ h.old id r has le)

Lasts-more : (d e f : Database) → Lasts d e → Lasts e f → Lasts d f
Lasts-more d e f g h = record {
  updates = omega (arith, g.updates, h.updates);
  old = λ id r has le.
      let b = Lasts-before e f id r h has (omega (arith, g.updates, le)) in
      h.old id r has (omega (arith, g.updates, le)) ∙ g.old id b.was b.has (omega (arith, ap (λ (x : Record). x.seq) b.same, le));
}

-- the same documents, and no lower number
Lasts-docs : (d e : Database) → e.docs ≡ d.docs → d.update_seq ≤ e.update_seq → Lasts d e
Lasts-docs d e docs le = record { updates = le; old = λ id r h _. ap (λ m. option_map stripped (get m id)) docs }

abbrev updated : Database → Tree → Record
updated d t = record { tree = t; seq = d.update_seq + 1 }

Lasts-tree : (d : Database) (id : Id) (t : Tree) → Lasts d (with_tree d id t)
Lasts-tree d id t = record { updates = omega arith; old = λ a r h le. from a r h le (put-cases d.docs id (updated d t) a r h) }
  where
    from : (a : Id) (r : Record) → get (with_tree d id t).docs a ≡ Some r → r.seq ≤ d.update_seq → ((a ≡ id) × (updated d t ≡ r)) ⊎ (get d.docs a ≡ Some r) → strip_at (with_tree d id t) a ≡ strip_at d a
    from a r h le (inl new) = absurd (omega (arith, ap (λ (x : Record). x.seq) new.1))
    from a r h le (inr was) = ap (option_map stripped) (h ∙ sym was)

Lasts-without : (d : Database) (id : Id) → Lasts d (without_document d id)
Lasts-without d id = record { updates = omega arith; old = λ a r h le. ap (option_map stripped) (h ∙ sym (without-some d.docs id a r h)) }

Lasts-purge : (d : Database) (id : Id) (leaves : List Rev) (left : Option Tree) → Lasts d (purged d id leaves left)
Lasts-purge d id leaves left =
    let noted : Database = record d { purges = logged d.purges id leaves } in
    Lasts-more d noted (leave noted id left) (Lasts-docs d noted refl (omega arith)) (left_then noted left)
  where
    left_then : (e : Database) (o : Option Tree) → Lasts e (leave e id o)
    left_then e (Some t) = Lasts-tree e id t
    left_then e None = Lasts-without e id

Lasts-compact : (d : Database) → Lasts d (compacted d)
Lasts-compact d = record { updates = omega arith; old = λ id r h le. ap (option_map stripped) (get-refine_all (λ k x. stripped x) d.docs id) ∙ twice (get d.docs id) }
  where
    twice : (o : Option Record) → option_map stripped (option_map stripped o) ≡ option_map stripped o
    twice None = refl
    twice (Some x) = λ i. Some (record { tree = strip-strip x.tree i; seq = x.seq })

kept : KeptByEntries Lasts
kept = record {
  purges = record { writes = record { none = Lasts-none; more = Lasts-more; tree = Lasts-tree }; purge = Lasts-purge };
  aside = λ d e docs purges seq. Lasts-docs d e docs (omega arith);
  limit = λ d n. Lasts-docs d _ refl (omega arith);
  compact = Lasts-compact;
}

-- ---- one version follows another

pub later_entries : (later earlier : Chronicle) → Extends later earlier → (more : List Entry) × (now later ≡ replay (now earlier) more)
later_entries later earlier x = (x.more, (λ i. replay (base_of (x.base i)) (x.entries i)) ∙ replay-append (base_of earlier.base) earlier.entries x.more)

module _ (earlier : Chronicle) where
  pub Lasts-follows : (later : Chronicle) → Follows later earlier → Lasts (now earlier) (now later)
  Lasts-follows later (extends _ _ x) = let m = later_entries later earlier x in subst (Lasts (now earlier)) (sym m.1) (of_replay Lasts kept (now earlier) m.0)
  Lasts-follows later (reopened _ middle _ f is) =
      let next = successor (now middle) in
      Lasts-more (now earlier) (now middle) (now later) (Lasts-follows middle f)
      (Lasts-more (now middle) next (now later) (Lasts-docs (now middle) next refl (omega arith)) (subst (λ b. Lasts (base_of b) (now later)) is (of_replay Lasts kept (base_of later.base) later.entries)))

  pub IsNumbered-follows : IsNumbered (base_of earlier.base) → (later : Chronicle) → Follows later earlier → IsNumbered (now later)
  IsNumbered-follows h later (extends _ _ x) = let m = later_entries later earlier x in subst IsNumbered (sym m.1) (IsNumbered-replay (now earlier) m.0 (IsNumbered-replay (base_of earlier.base) earlier.entries h))
  IsNumbered-follows h later (reopened _ middle _ f is) =
      let before = IsNumbered-follows h middle f in
      IsNumbered-replay (base_of later.base) later.entries (subst (λ b. IsNumbered (base_of b)) (sym is) (record { within = before.within; distinct = before.distinct }))

  pub purge_seq-follows : (later : Chronicle) → Follows later earlier → (now earlier).purges.purge_seq ≤ (now later).purges.purge_seq
  purge_seq-follows later (extends _ _ x) = let m = later_entries later earlier x in subst (λ d. (now earlier).purges.purge_seq ≤ d.purges.purge_seq) (sym m.1) (purge_seq-replay (now earlier) m.0)
  purge_seq-follows later (reopened _ middle _ f is) = omega (arith, purge_seq-follows middle f, purge_seq-replay (base_of later.base) later.entries, ap (λ b. (base_of b).purges.purge_seq) is)
