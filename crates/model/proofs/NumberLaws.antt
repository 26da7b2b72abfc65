-- Update numbers of records: from 1 to the database's, and no two alike. No number falls.
use Rattle.std.specs.Prelude.{◌≡◌, ◌+◌, ◌<◌, ◌≤◌, ◌⊎◌, List, Option, Some, None, refl}
use Rattle.std.proofs.Common.{sym, ap, ◌∙◌, inl, inr, arith}
use Rattle.model.specs.Map.{get}
use Rattle.model.specs.Revision.{Rev}
use Rattle.model.specs.Tree.{Tree}
use Rattle.model.specs.Command.{Id, Command, Seat, Entry}
use Rattle.model.specs.Database.{Database, Record, IsNumbered, with_tree, without_document, stripped, compacted, act}
use Rattle.model.specs.History.{replay}
use Rattle.model.proofs.LookupLaws.{put-cases, without-some, refined-some}
use Rattle.model.proofs.StepLaws.{KeptByEntries, purged, of_act, of_replay}

-- each record of e was in d with that number
IsNumbered-fewer : (d e : Database) → d.update_seq ≤ e.update_seq → ((id : Id) (r : Record) → get e.docs id ≡ Some r → (s : Record) × (get d.docs id ≡ Some s) × (r.seq ≡ s.seq)) → IsNumbered d → IsNumbered e
IsNumbered-fewer d e le old h = record {
  within = λ id r g. let o = old id r g in let w = h.within id o.0 o.1 in (omega (arith, w.0, o.2), omega (arith, w.1, o.2, le));
  distinct = λ a b r s g k n. let o = old a r g in let p = old b s k in h.distinct a b o.0 p.0 o.1 p.1 (sym o.2 ∙ n ∙ p.2);
}

pub IsNumbered-same : (d e : Database) → e.docs ≡ d.docs → d.update_seq ≤ e.update_seq → IsNumbered d → IsNumbered e
IsNumbered-same d e docs le h = IsNumbered-fewer d e le (λ id r g. (r, ap (λ m. get m id) (sym docs) ∙ g, refl)) h

module _ (d : Database) (id : Id) (h : IsNumbered d) where
  module _ (t : Tree) where
    abbrev updated : Record
    updated = record { tree = t; seq = d.update_seq + 1 }

    abbrev NewOrOld : Id → Record → Type 0
    NewOrOld a r = ((a ≡ id) × (updated ≡ r)) ⊎ (get d.docs a ≡ Some r)

    pub IsNumbered-with_tree : IsNumbered (with_tree d id t)
    IsNumbered-with_tree = record { within = λ a r e. within a r (put-cases d.docs id updated a r e); distinct = λ a b r s e f n. distinct a b r s n (put-cases d.docs id updated a r e) (put-cases d.docs id updated b s f) }
      where
        within : (a : Id) (r : Record) → NewOrOld a r → (0 < r.seq) × (r.seq ≤ d.update_seq + 1)
        within a r (inl new) = let n = ap (λ (x : Record). x.seq) new.1 in (omega arith, omega arith)
        within a r (inr old) = let w = h.within a r old in (w.0, omega (arith, w.1))

        distinct : (a b : Id) (r s : Record) → r.seq ≡ s.seq → NewOrOld a r → NewOrOld b s → a ≡ b
        distinct a b r s e (inl x) (inl y) = x.0 ∙ sym y.0
        distinct a b r s e (inr x) (inr y) = h.distinct a b r s x y e
        distinct a b r s e (inl x) (inr y) = let n = ap (λ (x : Record). x.seq) x.1 in absurd (omega (arith, (h.within b s y).1))
        distinct a b r s e (inr x) (inl y) = let n = ap (λ (x : Record). x.seq) y.1 in absurd (omega (arith, (h.within a r x).1))

  pub IsNumbered-without : IsNumbered (without_document d id)
  IsNumbered-without = IsNumbered-fewer d (without_document d id) (omega arith) (λ a r g. (r, without-some d.docs id a r g, refl)) h

IsNumbered-purged : (d : Database) (id : Id) (leaves : List Rev) (left : Option Tree) → IsNumbered d → IsNumbered (purged d id leaves left)
IsNumbered-purged d id leaves (Some t) h = IsNumbered-with_tree _ id (IsNumbered-same d _ refl (omega arith) h) t
IsNumbered-purged d id leaves None h = IsNumbered-without _ id (IsNumbered-same d _ refl (omega arith) h)

pub IsNumbered-compacted : (d : Database) → IsNumbered d → IsNumbered (compacted d)
IsNumbered-compacted d h = IsNumbered-fewer d (compacted d) (omega arith) (λ a r g. let s = refined-some (λ _ x. stripped x) d.docs a r g in (s.0, s.1, sym (ap (λ (x : Record). x.seq) s.2))) h

numbered : KeptByEntries (λ d e. IsNumbered d → IsNumbered e)
numbered = record {
  purges = record {
    writes = record { none = λ d h. h; more = λ d e f g k h. k (g h); tree = λ d id t h. IsNumbered-with_tree d id h t };
    purge = IsNumbered-purged;
  };
  aside = λ d e docs purges update_seq h. IsNumbered-same d e docs (omega arith) h;
  limit = λ d n h. IsNumbered-same d _ refl (omega arith) h;
  compact = IsNumbered-compacted;
}

pub IsNumbered-act : (d : Database) (seat : Seat) (c : Command) → IsNumbered d → IsNumbered (act d seat c)
IsNumbered-act = of_act (λ d e. IsNumbered d → IsNumbered e) numbered

pub IsNumbered-replay : (d : Database) (es : List Entry) → IsNumbered d → IsNumbered (replay d es)
IsNumbered-replay = of_replay (λ d e. IsNumbered d → IsNumbered e) numbered

-- ---- no number falls

record NoneLower (d e : Database) : Type 0 where
  update : d.update_seq ≤ e.update_seq
  purge : d.purges.purge_seq ≤ e.purges.purge_seq

none_lower : KeptByEntries NoneLower
none_lower = record {
  purges = record {
    writes = record {
      none = λ d. record { update = omega arith; purge = omega arith };
      more = λ d e f g h. record { update = omega (arith, g.update, h.update); purge = omega (arith, g.purge, h.purge) };
      tree = λ d id t. record { update = omega arith; purge = omega arith };
    };
    purge = lower;
  };
  aside = λ d e docs purges update_seq. record { update = omega arith; purge = omega (arith, ap (λ l. l.purge_seq) purges) };
  limit = λ d n. record { update = omega arith; purge = omega arith };
  compact = λ d. record { update = omega arith; purge = omega arith };
}
  where
    lower : (d : Database) (id : Id) (leaves : List Rev) (left : Option Tree) → NoneLower d (purged d id leaves left)
    lower d id leaves (Some t) = record { update = omega arith; purge = omega arith }
    lower d id leaves None = record { update = omega arith; purge = omega arith }

pub update_seq-replay : (d : Database) (es : List Entry) → d.update_seq ≤ (replay d es).update_seq
update_seq-replay d es = (of_replay NoneLower none_lower d es).update

pub purge_seq-replay : (d : Database) (es : List Entry) → d.purges.purge_seq ≤ (replay d es).purges.purge_seq
purge_seq-replay d es = (of_replay NoneLower none_lower d es).purge
