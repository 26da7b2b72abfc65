-- Entries whose keys rise.
use Rattle.std.proofs.Common.{◌≡◌, ◌<◌, ◌∙◌, ℕ, zero, suc, cond, T, List, [], ◌∷◌, ◌++◌, Some, None, ap, arith, get_or, length, subst, sym, take, refl}
use Rattle.std.specs.declared.cmp.Ordering.{Ordering}
use Rattle.std.specs.declared.cmp.Ordering.TheVariants.{Less, Equal, Greater}
use Rattle.std.specs.Ordering.{is_eq, is_lt, ordering_reverse}
use Rattle.std.specs.FinMap.Entries.{by_order, find, is_sorted, below_all, put}
use Rattle.model.specs.Truth.{both, first, second}
use Rattle.model.specs.Command.{Id, names}

less : (o : Ordering) → T (is_lt o) → o ≡ Less
less Less p = refl
less Equal p = absurd p
less Greater p = absurd p

is_less : (o : Ordering) → o ≡ Less → T (is_lt o)
is_less o e = subst (λ r. T (is_lt r)) (sym e) tt

module _ {X : Type 0} where
  -- what is above b is above a
  below_less : (a b : Id) (es : List (Id × X)) → names.cmp a b ≡ Less → T (below_all names.cmp b es) → T (below_all names.cmp a es)
  below_less a b [] p h = tt
  below_less a b (e ∷ es) p h =
      both _ _ (is_less _ (names.total.trans a b e.0 p (less _ (first _ _ h)))) (below_less a b es p (second _ _ h))

  -- the first of two is below the second, and the rest rises
  pub rises-first : (a b : Id × X) (es : List (Id × X)) → T (is_sorted names.cmp (a ∷ b ∷ es)) → names.cmp a.0 b.0 ≡ Less
  rises-first a b es h = less _ (first _ _ (first _ _ h))

  pub rises-rest : (a b : Id × X) (es : List (Id × X)) → T (is_sorted names.cmp (a ∷ b ∷ es)) → T (is_sorted names.cmp (b ∷ es))
  rises-rest a b es h = second _ _ h

  pub rises-cons : (a b : Id × X) (es : List (Id × X)) → names.cmp a.0 b.0 ≡ Less → T (is_sorted names.cmp (b ∷ es)) → T (is_sorted names.cmp (a ∷ b ∷ es))
  rises-cons a b es p h =
      both _ _ (both _ _ (is_less _ p) (below_less a.0 b.0 es p (first _ _ h))) h

  below_at : (a : Id) (es : List (Id × X)) (k : ℕ) (e : Id × X) → T (below_all names.cmp a es) → k < length es → e ≡ get_or es k e → names.cmp a e.0 ≡ Less
  below_at a [] k e h lt is = absurd (omega (arith, lt))
  below_at a (f ∷ es) zero e h lt is = subst (λ (g : Id × X). names.cmp a g.0 ≡ Less) (sym is) (less _ (first _ _ h))
  below_at a (f ∷ es) (suc k) e h lt is = below_at a es k e (second _ _ h) (omega (arith, lt)) is

  above_at : (f : Id × X) (es : List (Id × X)) (k : ℕ) (e : Id × X) → T (is_sorted names.cmp (f ∷ es)) → k < length es → e ≡ get_or es k e → names.cmp e.0 f.0 ≡ Greater
  above_at f es k e s lt is = names.total.antisymm e.0 f.0 ∙ ap ordering_reverse (below_at f.0 es k e (first _ _ s) lt is)

  -- each entry goes behind those before it
  pub put_next : (es : List (Id × X)) (k : ℕ) (e : Id × X) → T (is_sorted names.cmp es) → k < length es → e ≡ get_or es k e → put names.cmp e.0 e.1 (take k es) ≡ take k es ++ e ∷ []
  put_next [] k e s lt is = absurd (omega (arith, lt))
  put_next (f ∷ es) zero e s lt is = refl
  put_next (f ∷ es) (suc k) e s lt is =
      ap (λ o. by_order o ((e.0, e.1) ∷ f ∷ take k es) ((f.0, e.1) ∷ take k es) (f ∷ put names.cmp e.0 e.1 (take k es))) (above_at f es k e s (omega (arith, lt)) is)
      ∙ ap (λ l. f ∷ l) (put_next es k e (second _ _ s) (omega (arith, lt)) is)

  -- and its id is none of theirs
  pub new_at : (es : List (Id × X)) (k : ℕ) (e : Id × X) → T (is_sorted names.cmp es) → k < length es → e ≡ get_or es k e → find names.cmp e.0 (take k es) ≡ None
  new_at [] k e s lt is = absurd (omega (arith, lt))
  new_at (f ∷ es) zero e s lt is = refl
  new_at (f ∷ es) (suc k) e s lt is =
      ap (λ o. cond (is_eq o) (Some f.1) (find names.cmp e.0 (take k es))) (above_at f es k e s (omega (arith, lt)) is)
      ∙ new_at es k e (second _ _ s) (omega (arith, lt)) is
