-- Runs that are found by each of their keys, with one more and with one less.
use Rattle.std.specs.Prelude.{◌≡◌, ◌⊎◌, true, false, cond, not, List, T, Option, Some, None, refl}
use Rattle.std.specs.declared.cmp.Ordering.{Ordering}
use Rattle.std.specs.Cmp.{IsTotalOrder}
use Rattle.std.specs.FinMap.{IsAntisymmetric}
use Rattle.std.specs.FinMap.Entries as listed
use Rattle.std.specs.FinMap.Entries.{find, find-put, find-where_key}
use Rattle.std.proofs.Common.{sym, ap, subst, ◌∙◌, ⊎_elim}
use Rattle.std.proofs.lemmas.Bool.{true≢false}
use Rattle.std.proofs.lemmas.Option.{same_Some}
use Rattle.model.specs.Map.{Order, Map, get, put, from_list, without, same_key, same_key-equal, same_key_itself, same_map, get-from_list, get-put}
use Rattle.model.specs.Revision.{Rev, revs}
use Rattle.model.proofs.ListLaws.{by_cases}
use Rattle.model.proofs.LookupLaws.{get-put_same, get-put_other, get-without_same, get-without_other, put-cases}
use Rattle.cow_index.specs.Entries.{without as without_key}
use Rattle.revision_runs.specs.declared.run.Run.{Run}
use Rattle.revision_runs.specs.declared.foot.Foot.{Foot}
use Rattle.revision_runs.specs.declared.hung.Hung.{Hung}
use Rattle.revision_runs.specs.declared.deep.Deep.{Deep}
use Rattle.revision_runs.specs.Keys.{foot_cmp, foot_total, foot_exact, hung_cmp, hung_total, hung_exact, deep_cmp, deep_total, deep_exact, entered, struck, IsMoved}
use Rattle.revision_runs.specs.Runs.{RunMap, AreFound, IsIndex, IsKeyOf, foot_of, hung_of, deep_of}
use Rattle.revision_runs.proofs.Indexed.{entered_index, struck_index}
use Rattle.revision_runs.proofs.Orders.{parts_of, deep_key_of}

-- ---- maps made of lists of entries

module _ (O : Order) {X : Type 0} where
  pub from_list-put : (k : O.key) (x : X) (es : List (O.key × X)) → from_list {O = O} (listed.put O.cmp k x es) ≡ put (from_list es) k x
  from_list-put k x es = same_map {O = O} (from_list (listed.put O.cmp k x es)) (put (from_list es) k x) (λ q.
      get-from_list O (listed.put O.cmp k x es) q
      ∙ find-put O.cmp O.total q k x es
      ∙ ap (cond (same_key O q k) (Some x)) (sym (get-from_list O es q))
      ∙ sym (get-put {O = O} (from_list es) k x q))

  find-without : (k q : O.key) (es : List (O.key × X)) → find O.cmp q (without_key O.cmp k es) ≡ cond (not (same_key O k q)) (find O.cmp q es) None
  find-without k q es = find-where_key O.cmp (λ p. not (same_key O k p)) q (λ x tied. ap (λ p. not (same_key O k p)) (sym (O.exact q x tied))) es

  pub from_list-without : (k : O.key) (es : List (O.key × X)) → from_list {O = O} (without_key O.cmp k es) ≡ without (from_list es) k
  from_list-without k es = same_map {O = O} (from_list (without_key O.cmp k es)) (without (from_list es) k) (λ q.
      get-from_list O (without_key O.cmp k es) q ∙ find-without k q es ∙ at q)
    where
      at : (q : O.key) → cond (not (same_key O k q)) (find O.cmp q es) None ≡ get {O = O} (without (from_list es) k) q
      at q = by_cases (same_key O k q)
          (λ s. ap (λ b. cond (not b) (find O.cmp q es) None) s ∙ sym (get-without_same {O = O} (from_list es) k q (back q s)))
          (λ s. ap (λ b. cond (not b) (find O.cmp q es) None) s ∙ sym (get-from_list O es q) ∙ sym (get-without_other {O = O} (from_list es) k q (apart_back q s)))
        where
          back : (q : O.key) → same_key O k q ≡ true → same_key O q k ≡ true
          back q s = let e = same_key-equal O k q s in subst (λ x. same_key O x k ≡ true) e (same_key_itself O k)

          apart_back : (q : O.key) → same_key O k q ≡ false → same_key O q k ≡ false
          apart_back q s = by_cases (same_key O q k)
              (λ e. absurd (true≢false (sym (subst (λ x. same_key O k x ≡ true) (sym (same_key-equal O q k e)) (same_key_itself O k)) ∙ s)))
              (λ e. e)

-- ---- the keys tell the tops

foot_unique : (t u : Rev) (r s : Run) (k : Foot) → foot_of t r ≡ Some k → foot_of u s ≡ Some k → t ≡ u
foot_unique t u r s k d e = same_Some t u (ap (λ (z : Foot). z.top) (same_Some _ k d ∙ sym (same_Some _ k e)))

hung_unique : (t u : Rev) (r s : Run) (k : Hung) → hung_of t r ≡ Some k → hung_of u s ≡ Some k → t ≡ u
hung_unique t u r s k d e = same_Some t u (sym ((parts_of t r k d).top) ∙ (parts_of u s k e).top)

deep_unique : (t u : Rev) (r s : Run) (k : Deep) → deep_of t r ≡ Some k → deep_of u s ≡ Some k → t ≡ u
deep_unique t u r s k d e = ap (λ (z : Deep). z.top) ((deep_key_of t r k d).same ∙ sym ((deep_key_of u s k e).same))

-- ---- all the keys

module _ (runs : RunMap) (top : Rev) (run : Run) (fs : List (Foot × Unit {0})) (hs : List (Hung × Unit {0})) (ds : List (Deep × Unit {0})) (h : AreFound runs fs hs ds) where
  pub found_with : get runs top ≡ None → AreFound (put runs top run) (entered foot_cmp (foot_of top run) fs) (entered hung_cmp (hung_of top run) hs) (entered deep_cmp (deep_of top run) ds)
  found_with none = record {
    feet = entered_index foot_cmp foot_total foot_exact foot_of foot_unique runs top run fs h.feet none;
    hung = entered_index hung_cmp hung_total hung_exact hung_of hung_unique runs top run hs h.hung none;
    deep = entered_index deep_cmp deep_total deep_exact deep_of deep_unique runs top run ds h.deep none;
  }

  pub found_without : get runs top ≡ Some run → AreFound (without runs top) (struck foot_cmp (foot_of top run) fs) (struck hung_cmp (hung_of top run) hs) (struck deep_cmp (deep_of top run) ds)
  found_without some = record {
    feet = struck_index foot_cmp foot_total foot_exact foot_of foot_unique runs top run fs h.feet some;
    hung = struck_index hung_cmp hung_total hung_exact hung_of hung_unique runs top run hs h.hung some;
    deep = struck_index deep_cmp deep_total deep_exact deep_of deep_unique runs top run ds h.deep some;
  }

-- a run put where one was taken
pub put_without : (runs : RunMap) (top : Rev) (run : Run) → put (without runs top) top run ≡ put runs top run
put_without runs top run = same_map {O = revs} (put (without runs top) top run) (put runs top run) (λ q. by_cases (same_key revs q top)
    (λ s. get-put_same {O = revs} (without runs top) top run q s ∙ sym (get-put_same {O = revs} runs top run q s))
    (λ s. get-put_other {O = revs} (without runs top) top run q s ∙ get-without_other {O = revs} runs top q s ∙ sym (get-put_other {O = revs} runs top run q s)))

-- nothing taken
pub without_none : (runs : RunMap) (top : Rev) → get runs top ≡ None → without runs top ≡ runs
without_none runs top none = same_map {O = revs} (without runs top) runs (λ q. by_cases (same_key revs q top)
    (λ s. get-without_same {O = revs} runs top q s ∙ sym none ∙ ap (get runs) (sym (same_key-equal revs q top s)))
    (λ s. get-without_other {O = revs} runs top q s))

-- ---- a run put in the place of another

module _ {K : Type 0} (cmp : K → K → Ordering) (total : IsTotalOrder cmp) (exact : IsAntisymmetric cmp) (key : Rev → Run → Option K)
    (unique : (t u : Rev) (r s : Run) (k : K) → key t r ≡ Some k → key u s ≡ Some k → t ≡ u)
    (runs : RunMap) (t : Rev) (old run : Run) (some : get runs t ≡ Some old) (es after : List (K × Unit {0})) (h : IsIndex cmp key runs es) where
  key_now : (k : K) → key t run ≡ Some k → IsKeyOf key (put runs t run) k
  key_now k e = record { top = t; run = run; is = get-put_same runs t run t (same_key_itself revs t); key = e }

  -- its key is the same
  module _ (same : key t old ≡ key t run) where
    same_to : (k : K) → IsKeyOf key runs k → IsKeyOf key (put runs t run) k
    same_to k g = by_cases (same_key revs g.top t)
        (λ s.
        let here : g.top ≡ t = same_key-equal revs g.top t s in
        let alike : g.run ≡ old = same_Some g.run old (sym g.is ∙ ap (get runs) here ∙ some) in
        key_now k (sym same ∙ (λ i. key (sym here i) (sym alike i)) ∙ g.key))
        (λ s. record { top = g.top; run = g.run; is = get-put_other runs t run g.top s ∙ g.is; key = g.key })

    same_from : (k : K) → IsKeyOf key (put runs t run) k → IsKeyOf key runs k
    same_from k g = ⊎_elim
        (λ new. record { top = t; run = old; is = some; key = same ∙ (λ i. key (sym new.0 i) (new.1 i)) ∙ g.key })
        (λ was. record { top = g.top; run = g.run; is = was; key = g.key })
        (put-cases runs t run g.top g.run g.is)

    same_index : IsIndex cmp key (put runs t run) es
    same_index = record { has = λ k. (λ i. same_to k ((h.has k).0 i), λ g. (h.has k).1 (same_from k g)) }

  other_index : IsIndex cmp key (put runs t run) (entered cmp (key t run) (struck cmp (key t old) es))
  other_index = subst (λ (m : RunMap). IsIndex cmp key m (entered cmp (key t run) (struck cmp (key t old) es))) (put_without runs t run)
      (entered_index cmp total exact key unique (without runs t) t run (struck cmp (key t old) es) (struck_index cmp total exact key unique runs t old es h some)
      (get-without_same runs t t (same_key_itself revs t)))

  pub moved_index : IsMoved cmp (key t old) (key t run) es after → IsIndex cmp key (put runs t run) after
  moved_index m = ⊎_elim
      (λ same. subst (IsIndex cmp key (put runs t run)) (sym same.1) (same_index same.0))
      (λ other. subst (IsIndex cmp key (put runs t run)) (sym other) other_index)
      m

module _ (runs : RunMap) (top : Rev) (old run : Run) (some : get runs top ≡ Some old) (fs gs : List (Foot × Unit {0})) (hs is : List (Hung × Unit {0})) (ds es : List (Deep × Unit {0})) (h : AreFound runs fs hs ds) where
  pub found_moved : IsMoved foot_cmp (foot_of top old) (foot_of top run) fs gs → IsMoved hung_cmp (hung_of top old) (hung_of top run) hs is → IsMoved deep_cmp (deep_of top old) (deep_of top run) ds es → AreFound (put runs top run) gs is es
  found_moved f g d = record {
    feet = moved_index foot_cmp foot_total foot_exact foot_of foot_unique runs top old run some fs gs h.feet f;
    hung = moved_index hung_cmp hung_total hung_exact hung_of hung_unique runs top old run some hs is h.hung g;
    deep = moved_index deep_cmp deep_total deep_exact deep_of deep_unique runs top old run some ds es h.deep d;
  }
