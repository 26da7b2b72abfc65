-- Puts and look-ups in entries of which the first are below the key, or the last above it.
use Rattle.std.specs.Prelude.{◌≡◌, T, List, [], ◌∷◌, ◌++◌, All, Some, None, cond, refl}
use Rattle.std.proofs.Common.{sym, ap, ◌∙◌}
use Rattle.std.specs.declared.cmp.Ordering.{Ordering}
use Rattle.std.specs.declared.cmp.Ordering.TheVariants.{Less, Equal, Greater}
use Rattle.std.specs.Ordering.{is_eq, is_lt, ordering_reverse}
use Rattle.std.specs.Cmp.{tied_itself}
use Rattle.std.specs.FinMap.Entries.{by_order, find, put, is_sorted, below_all, is_sorted-put, find-put, same_entries}
use Rattle.std.proofs.lemmas.List.Elements.{All-head, All-tail}
use Rattle.model.specs.Revision.{Rev, rev_cmp, rev_total, rev_exact, revs, same_rev, same_rev-equal}
use Rattle.model.specs.Truth.{both, first, second}
use Rattle.model.proofs.ListLaws.{by_cases}
use Rattle.model.proofs.MapLaws.{same_key-apart}

pub above_key : (r k : Rev) → rev_cmp k r ≡ Less → rev_cmp r k ≡ Greater
above_key r k e = rev_total.antisymm r k ∙ ap ordering_reverse e

module _ {X : Type 0} where
  pub sorted_rest : (xs ys : List (Rev × X)) → T (is_sorted rev_cmp (xs ++ ys)) → T (is_sorted rev_cmp ys)
  sorted_rest [] ys h = h
  sorted_rest (x ∷ xs) ys h = sorted_rest xs ys (second (below_all rev_cmp x.0 (xs ++ ys)) _ h)

  below_front : (k : Rev) (xs ys : List (Rev × X)) → T (below_all rev_cmp k (xs ++ ys)) → T (below_all rev_cmp k xs)
  below_front k [] ys h = tt
  below_front k (x ∷ xs) ys h = both _ _ (first (is_lt (rev_cmp k x.0)) _ h) (below_front k xs ys (second (is_lt (rev_cmp k x.0)) _ h))

  pub sorted_front : (xs ys : List (Rev × X)) → T (is_sorted rev_cmp (xs ++ ys)) → T (is_sorted rev_cmp xs)
  sorted_front [] ys h = tt
  sorted_front (x ∷ xs) ys h = both _ _ (below_front x.0 xs ys (first (below_all rev_cmp x.0 (xs ++ ys)) _ h)) (sorted_front xs ys (second (below_all rev_cmp x.0 (xs ++ ys)) _ h))

module _ {X : Type 0} (r : Rev) where
  pub put-over : (v : X) (xs ys : List (Rev × X)) → All (λ e. rev_cmp e.0 r ≡ Less) xs → put rev_cmp r v (xs ++ ys) ≡ xs ++ put rev_cmp r v ys
  put-over v [] ys h = refl
  put-over v (x ∷ xs) ys h =
      ap (λ o. by_order o ((r, v) ∷ x ∷ (xs ++ ys)) ((x.0, v) ∷ (xs ++ ys)) (x ∷ put rev_cmp r v (xs ++ ys))) (above_key r x.0 (All-head (λ e. rev_cmp e.0 r ≡ Less) x xs h))
      ∙ ap (λ es. x ∷ es) (put-over v xs ys (All-tail (λ e. rev_cmp e.0 r ≡ Less) x xs h))

  put-none_below : (v : X) (ys : List (Rev × X)) → All (λ e. rev_cmp r e.0 ≡ Less) ys → put rev_cmp r v ys ≡ (r, v) ∷ ys
  put-none_below v [] h = refl
  put-none_below v (y ∷ ys) h = ap (λ o. by_order o ((r, v) ∷ y ∷ ys) ((y.0, v) ∷ ys) (y ∷ put rev_cmp r v ys)) (All-head (λ e. rev_cmp r e.0 ≡ Less) y ys h)

  pub put-under : (v : X) (xs ys : List (Rev × X)) → All (λ e. rev_cmp r e.0 ≡ Less) ys → put rev_cmp r v (xs ++ ys) ≡ put rev_cmp r v xs ++ ys
  put-under v [] ys h = put-none_below v ys h
  put-under v (x ∷ xs) ys h = at (rev_cmp r x.0) (put-under v xs ys h)
    where
      at : (o : Ordering) → put rev_cmp r v (xs ++ ys) ≡ put rev_cmp r v xs ++ ys
          → by_order o ((r, v) ∷ x ∷ (xs ++ ys)) ((x.0, v) ∷ (xs ++ ys)) (x ∷ put rev_cmp r v (xs ++ ys)) ≡ by_order o ((r, v) ∷ x ∷ xs) ((x.0, v) ∷ xs) (x ∷ put rev_cmp r v xs) ++ ys
      at Less e = refl
      at Equal e = refl
      at Greater e = ap (λ es. x ∷ es) e

  pub put-same : (v : X) (x : Rev × X) (xs : List (Rev × X)) → x.0 ≡ r → put rev_cmp r v (x ∷ xs) ≡ (r, v) ∷ xs
  put-same v x xs e = ap (λ o. by_order o ((r, v) ∷ x ∷ xs) ((x.0, v) ∷ xs) (x ∷ put rev_cmp r v xs)) (ap (rev_cmp r) e ∙ tied_itself rev_total r) ∙ ap (λ q. (q, v) ∷ xs) e

  -- what is there already
  pub put-found : (v : X) (es : List (Rev × X)) → T (is_sorted rev_cmp es) → find rev_cmp r es ≡ Some v → put rev_cmp r v es ≡ es
  put-found v es s e = same_entries rev_cmp rev_total rev_exact (put rev_cmp r v es) es (is_sorted-put rev_cmp rev_total r v es s) s
      (λ q. find-put rev_cmp rev_total q r v es ∙ by_cases (same_rev q r) {P = cond (same_rev q r) (Some v) (find rev_cmp q es) ≡ find rev_cmp q es}
      (λ t. ap (λ b. cond b (Some v) (find rev_cmp q es)) t ∙ sym e ∙ ap (λ k. find rev_cmp k es) (sym ((same_rev-equal q r).0 t)))
      (λ f. ap (λ b. cond b (Some v) (find rev_cmp q es)) f))

  pub find-over : (xs ys : List (Rev × X)) → All (λ e. rev_cmp e.0 r ≡ Less) xs → find rev_cmp r (xs ++ ys) ≡ find rev_cmp r ys
  find-over [] ys h = refl
  find-over (x ∷ xs) ys h =
      ap (λ b. cond b (Some x.1) (find rev_cmp r (xs ++ ys))) (same_key-apart revs x.0 r (All-head (λ e. rev_cmp e.0 r ≡ Less) x xs h))
      ∙ find-over xs ys (All-tail (λ e. rev_cmp e.0 r ≡ Less) x xs h)

  find-none_below : (ys : List (Rev × X)) → All (λ e. rev_cmp r e.0 ≡ Less) ys → find rev_cmp r ys ≡ None
  find-none_below [] h = refl
  find-none_below (y ∷ ys) h =
      ap (λ o. cond (is_eq o) (Some y.1) (find rev_cmp r ys)) (All-head (λ e. rev_cmp r e.0 ≡ Less) y ys h) ∙ find-none_below ys (All-tail (λ e. rev_cmp r e.0 ≡ Less) y ys h)

  pub find-under : (xs ys : List (Rev × X)) → All (λ e. rev_cmp r e.0 ≡ Less) ys → find rev_cmp r (xs ++ ys) ≡ find rev_cmp r xs
  find-under [] ys h = find-none_below ys h
  find-under (x ∷ xs) ys h = ap (cond (same_rev r x.0) (Some x.1)) (find-under xs ys h)
