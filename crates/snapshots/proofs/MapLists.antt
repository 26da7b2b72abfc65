-- Maps made of lists of entries in order.
use Rattle.std.specs.Prelude.{◌≡◌, true, cond, not, List, T, Option, Some, None, refl}
use Rattle.std.specs.FinMap.Entries as listed
use Rattle.std.specs.FinMap.Entries.{find, is_sorted, find-put, find-where_key, same_entries}
use Rattle.std.proofs.Common.{sym, ap, subst, ◌∙◌}
use Rattle.std.proofs.lemmas.Bool.{true≢false, false_from_ne_true}
use Rattle.cow_index.specs.Entries.{without}
use Rattle.model.specs.Map.{Order, Map, entries, get, put, from_list, without as without_key, same_key, same_key-equal, same_key_itself, same_map, get-from_list, get-put}
use Rattle.model.proofs.ListLaws.{by_cases}
use Rattle.model.proofs.LookupLaws.{get-without_same, get-without_other}

module _ (O : Order) {X : Type 0} where
  pub entries-from_list : (es : List (O.key × X)) → T (is_sorted O.cmp es) → entries {O = O} (from_list es) ≡ es
  entries-from_list es s =
      let m : Map O X = from_list es in
      same_entries O.cmp O.total O.exact m.list es m.sorted s (get-from_list O es)

  pub from_list-put : (k : O.key) (x : X) (es : List (O.key × X)) → from_list {O = O} (listed.put O.cmp k x es) ≡ put (from_list es) k x
  from_list-put k x es = same_map {O = O} (from_list (listed.put O.cmp k x es)) (put (from_list es) k x) (λ q.
      get-from_list O (listed.put O.cmp k x es) q
      ∙ find-put O.cmp O.total q k x es
      ∙ ap (cond (same_key O q k) (Some x)) (sym (get-from_list O es q))
      ∙ sym (get-put {O = O} (from_list es) k x q))

  find-without : (k q : O.key) (es : List (O.key × X)) → find O.cmp q (without O.cmp k es) ≡ cond (not (same_key O k q)) (find O.cmp q es) None
  find-without k q es = find-where_key O.cmp (λ p. not (same_key O k p)) q (λ x tied. ap (λ p. not (same_key O k p)) (sym (O.exact q x tied))) es

  pub from_list-without : (k : O.key) (es : List (O.key × X)) → from_list {O = O} (without O.cmp k es) ≡ without_key (from_list es) k
  from_list-without k es = same_map {O = O} (from_list (without O.cmp k es)) (without_key (from_list es) k) (λ q.
      get-from_list O (without O.cmp k es) q
      ∙ find-without k q es
      ∙ ap (λ o. cond (not (same_key O k q)) o None) (sym (get-from_list O es q))
      ∙ by_cases (same_key O q k)
      (λ same. ap (λ b. cond (not b) (get {O = O} (from_list es) q) None) (subst (λ p. same_key O k p ≡ true) (sym (same_key-equal O q k same)) (same_key_itself O k)) ∙ sym (get-without_same {O = O} (from_list es) k q same))
      (λ other. ap (λ b. cond (not b) (get {O = O} (from_list es) q) None) (false_from_ne_true _ (λ same. true≢false (sym (subst (λ p. same_key O p k ≡ true) (same_key-equal O k q same) (same_key_itself O k)) ∙ other))) ∙ sym (get-without_other {O = O} (from_list es) k q other)))

-- options that hold the same
pub same_option : {X : Type 0} (o p : Option X) → ((x : X) → o ≡ Some x → p ≡ Some x) → ((x : X) → p ≡ Some x → o ≡ Some x) → o ≡ p
same_option None None f g = refl
same_option None (Some y) f g = g y refl
same_option (Some x) p f g = sym (f x refl)
