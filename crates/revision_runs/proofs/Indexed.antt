-- Indexes of runs after a run is entered or struck.
use Rattle.std.specs.Prelude.{◌≡◌, ◌↔◌, ◌⊎◌, Bool, true, false, cond, not, List, Option, Some, None, is_some, refl}
use Rattle.std.specs.declared.cmp.Ordering.{Ordering}
use Rattle.std.specs.Cmp.{IsTotalOrder, Equal-is, tied_itself}
use Rattle.std.specs.FinMap.{IsAntisymmetric}
use Rattle.std.specs.FinMap.Entries.{find, put as put_entry, find-put, find-where_key}
use Rattle.std.specs.Ordering.{is_eq, eq_by_cmp}
use Rattle.std.proofs.Common.{sym, ap, subst, ◌∙◌, ⊎_elim}
use Rattle.std.proofs.lemmas.Bool.{true≢false}
use Rattle.std.proofs.lemmas.Option.{none-some, same_Some}
use Rattle.model.specs.Map.{get, put, without, same_key-equal, same_key_itself}
use Rattle.model.specs.Revision.{Rev, revs, same_rev}
use Rattle.model.proofs.ListLaws.{by_cases}
use Rattle.model.proofs.LookupLaws.{get-put_same, get-put_other, get-without_same, get-without_other, put-cases, without-some}
use Rattle.cow_index.specs.Entries.{without as without_key}
use Rattle.revision_runs.specs.declared.run.Run.{Run}
use Rattle.revision_runs.specs.Keys.{entered, struck}
use Rattle.revision_runs.specs.Runs.{RunMap, IsKeyOf, IsIndex}

module _ {K : Type 0} (cmp : K → K → Ordering) (total : IsTotalOrder cmp) (exact : IsAntisymmetric cmp) where
  pub tied : (j k : K) → eq_by_cmp cmp j k ≡ true → j ≡ k
  tied j k e = exact j k ((Equal-is (cmp j k)).0 e)

  pub itself : (k : K) → eq_by_cmp cmp k k ≡ true
  itself k = ap is_eq (tied_itself total k)

  -- ---- a key put, and one taken

  pub put_there : (j k : K) (es : List (K × Unit {0})) → is_some (find cmp k es) ≡ true → is_some (find cmp k (put_entry cmp j tt es)) ≡ true
  put_there j k es h = ap is_some (find-put cmp total k j tt es) ∙ more (eq_by_cmp cmp k j) (find cmp k es) h
    where
      more : (b : Bool) (o : Option (Unit {0})) → is_some o ≡ true → is_some (cond b (Some tt) o) ≡ true
      more true o h = refl
      more false o h = h

  pub put_itself : (k : K) (es : List (K × Unit {0})) → is_some (find cmp k (put_entry cmp k tt es)) ≡ true
  put_itself k es = ap is_some (find-put cmp total k k tt es) ∙ ap (λ b. is_some (cond b (Some tt) (find cmp k es))) (itself k)

  pub put_other : (j k : K) (es : List (K × Unit {0})) → eq_by_cmp cmp k j ≡ false → is_some (find cmp k (put_entry cmp j tt es)) ≡ true → is_some (find cmp k es) ≡ true
  put_other j k es apart h = sym (ap is_some (find-put cmp total k j tt es ∙ ap (λ b. cond b (Some tt) (find cmp k es)) apart)) ∙ h

  find-without : (j k : K) (es : List (K × Unit {0})) → find cmp k (without_key cmp j es) ≡ cond (not (eq_by_cmp cmp j k)) (find cmp k es) None
  find-without j k es = find-where_key cmp (λ p. not (eq_by_cmp cmp j p)) k (λ x same. ap (λ p. not (eq_by_cmp cmp j p)) (sym (exact k x same))) es

  pub without_other : (j k : K) (es : List (K × Unit {0})) → eq_by_cmp cmp j k ≡ false → find cmp k (without_key cmp j es) ≡ find cmp k es
  without_other j k es apart = find-without j k es ∙ ap (λ b. cond (not b) (find cmp k es) None) apart

  pub without_same : (j k : K) (es : List (K × Unit {0})) → eq_by_cmp cmp j k ≡ true → find cmp k (without_key cmp j es) ≡ None
  without_same j k es same = find-without j k es ∙ ap (λ b. cond (not b) (find cmp k es) None) same

  -- ---- a run entered, and one struck, of which a key tells the top

  module _ (key : Rev → Run → Option K) (unique : (t u : Rev) (r s : Run) (k : K) → key t r ≡ Some k → key u s ≡ Some k → t ≡ u) (runs : RunMap) (t : Rev) (r : Run) (es : List (K × Unit {0})) (h : IsIndex cmp key runs es) where
    module _ (none : get runs t ≡ None) where
      apart : (top : Rev) (run : Run) → get runs top ≡ Some run → same_rev top t ≡ false
      apart top run is = by_cases (same_rev top t) (λ e. absurd (none-some run (sym none ∙ ap (get runs) (sym (same_key-equal revs top t e)) ∙ is))) (λ f. f)

      kept : (k : K) → IsKeyOf key runs k → IsKeyOf key (put runs t r) k
      kept k g = record { top = g.top; run = g.run; is = get-put_other runs t r g.top (apart g.top g.run g.is) ∙ g.is; key = g.key }

      new : (k : K) → key t r ≡ Some k → IsKeyOf key (put runs t r) k
      new k e = record { top = t; run = r; is = get-put_same runs t r t (same_key_itself revs t); key = e }

      to : (o : Option K) → key t r ≡ o → (k : K) → is_some (find cmp k (entered cmp o es)) ≡ true → IsKeyOf key (put runs t r) k
      to None e k i = kept k ((h.has k).0 i)
      to (Some j) e k i = by_cases (eq_by_cmp cmp k j)
          (λ s. new k (e ∙ ap (λ z. Some z) (sym (tied k j s))))
          (λ f. kept k ((h.has k).0 (put_other j k es f i)))

      key_of : (k : K) (g : IsKeyOf key (put runs t r) k) → g.top ≡ t → r ≡ g.run → key t r ≡ Some k
      key_of k g p q = (λ i. key (sym p i) (q i)) ∙ g.key

      from : (o : Option K) → key t r ≡ o → (k : K) → IsKeyOf key (put runs t r) k → is_some (find cmp k (entered cmp o es)) ≡ true
      from None e k g = ⊎_elim
          (λ s. absurd (none-some k (sym e ∙ key_of k g s.0 s.1)))
          (λ old. (h.has k).1 (record { top = g.top; run = g.run; is = old; key = g.key }))
          (put-cases runs t r g.top g.run g.is)
      from (Some j) e k g = ⊎_elim
          (λ s. subst (λ z. is_some (find cmp z (put_entry cmp j tt es)) ≡ true) (same_Some j k (sym e ∙ key_of k g s.0 s.1)) (put_itself j es))
          (λ old. put_there j k es ((h.has k).1 (record { top = g.top; run = g.run; is = old; key = g.key })))
          (put-cases runs t r g.top g.run g.is)

      pub entered_index : IsIndex cmp key (put runs t r) (entered cmp (key t r) es)
      entered_index = record { has = λ k. (to (key t r) refl k, from (key t r) refl k) }

    module _ (some : get runs t ≡ Some r) where
      key_at : (k : K) (g : IsKeyOf key runs k) → g.top ≡ t → key t r ≡ Some k
      key_at k g p = (λ i. key (sym p i) (same_Some r g.run (sym some ∙ ap (get runs) (sym p) ∙ g.is) i)) ∙ g.key

      left : (k : K) (g : IsKeyOf key runs k) → (g.top ≡ t → ⊥) → IsKeyOf key (without runs t) k
      left k g other = record {
        top = g.top;
        run = g.run;
        is = get-without_other runs t g.top (by_cases (same_rev g.top t) (λ e. absurd (other (same_key-equal revs g.top t e))) (λ f. f)) ∙ g.is;
        key = g.key;
      }

      without_to : (o : Option K) → key t r ≡ o → (k : K) → is_some (find cmp k (struck cmp o es)) ≡ true → IsKeyOf key (without runs t) k
      without_to None e k i = let g = (h.has k).0 i in left k g (λ p. none-some k (sym e ∙ key_at k g p))
      without_to (Some j) e k i = by_cases (eq_by_cmp cmp j k)
          (λ s. absurd (true≢false (sym i ∙ ap is_some (without_same j k es s))))
          (λ f. let g = (h.has k).0 (sym (ap is_some (without_other j k es f)) ∙ i) in
          left k g (λ p. true≢false (sym (subst (λ z. eq_by_cmp cmp j z ≡ true) (same_Some j k (sym e ∙ key_at k g p)) (itself j)) ∙ f)))

      was : (k : K) → IsKeyOf key (without runs t) k → IsKeyOf key runs k
      was k g = record { top = g.top; run = g.run; is = without-some runs t g.top g.run g.is; key = g.key }

      other : (k : K) (g : IsKeyOf key (without runs t) k) → t ≡ g.top → ⊥
      other k g p = none-some g.run (sym (get-without_same runs t g.top (subst (λ q. same_rev q t ≡ true) p (same_key_itself revs t))) ∙ g.is)

      without_from : (o : Option K) → key t r ≡ o → (k : K) → IsKeyOf key (without runs t) k → is_some (find cmp k (struck cmp o es)) ≡ true
      without_from None e k g = (h.has k).1 (was k g)
      without_from (Some j) e k g = by_cases (eq_by_cmp cmp j k)
          (λ s. absurd (other k g (unique t g.top r g.run k (e ∙ ap (λ z. Some z) (tied j k s)) g.key)))
          (λ f. ap is_some (without_other j k es f) ∙ (h.has k).1 (was k g))

      pub struck_index : IsIndex cmp key (without runs t) (struck cmp (key t r) es)
      struck_index = record { has = λ k. (without_to (key t r) refl k, without_from (key t r) refl k) }
