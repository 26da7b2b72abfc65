-- A graft is the union of a tree and a path.
use Rattle.std.specs.Prelude.{◌≡◌, ◌↔◌, Bool, true, false, cond, ◌&&◌, ◌||◌, List, [], ◌∷◌, Option, Some, None, is_some, option_map, unwrap_or, if◌then◌else◌, refl}
use Rattle.std.specs.Cmp.{both_ways}
use Rattle.std.proofs.Common.{sym, ap, subst, ◌∙◌, ⊎_elim}
use Rattle.std.proofs.lemmas.Bool.{true≢false, and_parts, and_from, or_cases, or_left, or_right, cond-true, cond-false, cond_both}
use Rattle.std.proofs.lemmas.Option.{none-some, cond_some}
use Rattle.model.specs.Map.{get, get-put, same_key_itself}
use Rattle.model.specs.Body.{Body}
use Rattle.model.specs.Revision.{Rev, revs, same_rev, same_rev-equal}
use Rattle.model.specs.Tree.{Revision, Tree, knows, parent_of, body_of, is_deleted, is_at, among}
use Rattle.model.specs.TreeChange.{IsPath, IsUnion, Contradicts, agrees, is_pair, fits, unseen, linked_to, linked, given, grafted, graft}
use Rattle.model.proofs.ListLaws.{by_cases}
use Rattle.model.proofs.MapLaws.{get-refine_all}
use Rattle.model.proofs.TreeLaws.{parent_in, body_in, flag_in, kept_by}
use Rattle.model.proofs.PathLaws.{same_rev-symm, pair_cases, first_apart, agrees-false}

-- ---- the links of a path

module _ (t : Tree) where
  abbrev link : Rev → List Rev → Revision
  link r rest = linked_to rest (unwrap_or (get t r) unseen)

  get-linked : (r : Rev) (rest : List Rev) (q : Rev) → get (linked (r ∷ rest) t) q ≡ cond (same_rev q r) (Some (link r rest)) (get (linked rest t) q)
  get-linked r rest q = get-put (linked rest t) r (link r rest) q

  either : (a b c : Bool) → (a || (b || c)) ≡ (b || (a || c))
  either true true c = refl
  either true false c = refl
  either false true c = refl
  either false false c = refl

  nothing_more : (b : Bool) → b ≡ (b || false)
  nothing_more true = refl
  nothing_more false = refl

  knows-linked : (path : List Rev) (q : Rev) → knows (linked path t) q ≡ (knows t q || among path q)
  knows-linked [] q = nothing_more (knows t q)
  knows-linked (r ∷ rest) q =
      ap is_some (get-linked r rest q) ∙ known (same_rev q r)
      ∙ ap (λ b. same_rev q r || b) (knows-linked rest q) ∙ either (same_rev q r) (knows t q) (among rest q)
    where
      known : (b : Bool) → is_some (cond b (Some (link r rest)) (get (linked rest t) q)) ≡ (b || knows (linked rest t) q)
      known true = refl
      known false = refl

  -- a link leaves bodies and flags
  left_linked : {A : Type 0} (said : Option Revision → A) → said (Some unseen) ≡ said None → ((rest : List Rev) (v : Revision) → said (Some (linked_to rest v)) ≡ said (Some v))
      → (path : List Rev) (q : Rev) → said (get (linked path t) q) ≡ said (get t q)
  left_linked said none h [] q = refl
  left_linked {A} said none h (r ∷ rest) q = ap said (get-linked r rest q) ∙ at (same_rev q r) refl (left_linked said none h rest q)
    where
      new : (o : Option Revision) → said (Some (unwrap_or o unseen)) ≡ said o
      new None = none
      new (Some v) = refl

      at : (b : Bool) → same_rev q r ≡ b → said (get (linked rest t) q) ≡ said (get t q) → said (cond b (Some (link r rest)) (get (linked rest t) q)) ≡ said (get t q)
      at true e ih = h rest (unwrap_or (get t r) unseen) ∙ new (get t r) ∙ ap (λ a. said (get t a)) (sym ((same_rev-equal q r).0 e))
      at false e ih = ih

  body_of-linked : (path : List Rev) (q : Rev) → body_of (linked path t) q ≡ body_of t q
  body_of-linked = left_linked body_in refl at
    where
      at : (rest : List Rev) (v : Revision) → (linked_to rest v).body ≡ v.body
      at [] v = refl
      at (next ∷ rest) v = refl

  is_deleted-linked : (path : List Rev) (q : Rev) → is_deleted (linked path t) q ≡ is_deleted t q
  is_deleted-linked = left_linked flag_in refl at
    where
      at : (rest : List Rev) (v : Revision) → (linked_to rest v).deleted ≡ v.deleted
      at [] v = refl
      at (next ∷ rest) v = refl

  -- the oldest keeps its parent, and each other has the next
  oldest_parent : (r q : Rev) → parent_of (linked (r ∷ []) t) q ≡ parent_of t q
  oldest_parent r q = ap parent_in (get-linked r [] q) ∙ at (same_rev q r) refl
    where
      kept : (o : Option Revision) → (unwrap_or o unseen).parent ≡ parent_in o
      kept None = refl
      kept (Some v) = refl

      at : (b : Bool) → same_rev q r ≡ b → parent_in (cond b (Some (link r [])) (get t q)) ≡ parent_of t q
      at true e = kept (get t r) ∙ ap (parent_of t) (sym ((same_rev-equal q r).0 e))
      at false e = refl

  same_fits : (o : Option Rev) (next p : Rev) → fits o next ≡ true → is_at o p ≡ true → same_rev next p ≡ true
  same_fits None next p f h = absurd (true≢false (sym h))
  same_fits (Some a) next p f h = subst (λ q. same_rev q p ≡ true) ((same_rev-equal a next).0 f) h

  parent_of-linked : (path : List Rev) (c p : Rev) → IsPath path → agrees t path ≡ true → is_at (parent_of (linked path t) c) p ≡ (is_at (parent_of t c) p || is_pair path c p)
  parent_of-linked [] c p path h = absurd path
  parent_of-linked (r ∷ []) c p path h = ap (λ o. is_at o p) (oldest_parent r c) ∙ nothing_more _
  parent_of-linked (r ∷ next ∷ rest) c p path h =
      let parts = and_parts (fits (parent_of t r) next) _ h in
      let fewer = parent_of-linked (next ∷ rest) c p path.1 parts.1 in
      ap (λ o. is_at (parent_in o) p) (get-linked r (next ∷ rest) c) ∙ by_cases (same_rev c r) (here parts.0) (there fewer)
    where
      parent_if : Bool → Bool
      parent_if b = is_at (parent_in (cond b (Some (link r (next ∷ rest))) (get (linked (next ∷ rest) t) c))) p

      pair_next : is_pair (r ∷ next ∷ rest) r p ≡ true → same_rev next p ≡ true
      pair_next g = ⊎_elim (λ k. (same_rev-equal next p).1 k.1) (λ k. absurd (true≢false (sym k ∙ first_apart r next rest p path))) (pair_cases r next rest r p g)

      at_first : fits (parent_of t r) next ≡ true → same_rev next p ≡ (is_at (parent_of t r) p || is_pair (r ∷ next ∷ rest) r p)
      at_first f = both_ways _ _
          (λ e. or_right _ _ (or_left _ _ (and_from _ _ (same_key_itself revs r) e)))
          (λ e. ⊎_elim (same_fits (parent_of t r) next p f) pair_next (or_cases _ _ e))

      here : fits (parent_of t r) next ≡ true → same_rev c r ≡ true → parent_if (same_rev c r) ≡ (is_at (parent_of t c) p || is_pair (r ∷ next ∷ rest) c p)
      here f e = ap parent_if e ∙ subst (λ a. same_rev next p ≡ (is_at (parent_of t a) p || is_pair (r ∷ next ∷ rest) a p)) (sym ((same_rev-equal c r).0 e)) (at_first f)

      there : parent_if false ≡ (is_at (parent_of t c) p || is_pair (next ∷ rest) c p) → same_rev c r ≡ false → parent_if (same_rev c r) ≡ (is_at (parent_of t c) p || is_pair (r ∷ next ∷ rest) c p)
      there fewer n = ap parent_if n ∙ fewer ∙ ap (λ b. is_at (parent_of t c) p || ((b && same_rev next p) || is_pair (next ∷ rest) c p)) (sym n ∙ same_rev-symm c r)

module _ (newest : Rev) (older : List Rev) (body : Body) (deleted : Bool) (t : Tree) where
  abbrev path : List Rev
  path = newest ∷ older

  abbrev whole : Tree
  whole = grafted path body deleted t

  abbrev filled : Rev → Revision → Revision
  filled q v = if same_rev newest q then given body deleted v else v

  get-grafted : (q : Rev) → get whole q ≡ option_map (filled q) (get (linked path t) q)
  unfolding grafted
  get-grafted q = get-refine_all filled (linked path t) q

  abbrev filling : Revision → Revision
  filling v = record v { body = Some body; deleted = deleted }

  filled_parent : (q : Rev) (v : Revision) → (filled q v).parent ≡ v.parent
  filled_parent q v =
      let new = cond_both (is_some v.body) v (filling v) (λ w. w.parent ≡ v.parent) (λ _. refl) (λ _. refl) in
      cond_both (same_rev newest q) (given body deleted v) v (λ w. w.parent ≡ v.parent) (λ _. new) (λ _. refl)

  knows-grafted : (q : Rev) → knows whole q ≡ (knows t q || among path q)
  knows-grafted q = ap is_some (get-grafted q) ∙ kept_by is_some (filled q) (λ v. refl) (get (linked path t) q) ∙ knows-linked t path q

  parent_of-grafted : (q : Rev) → parent_of whole q ≡ parent_of (linked path t) q
  parent_of-grafted q = ap parent_in (get-grafted q) ∙ kept_by parent_in (filled q) (filled_parent q) (get (linked path t) q)

  other_grafted : (q : Rev) → same_rev newest q ≡ false → (body_of whole q ≡ body_of t q) × (is_deleted whole q ≡ is_deleted t q)
  other_grafted q n =
      let left : (v : Revision) → filled q v ≡ v = λ v. cond-false _ (given body deleted v) v n in (
        ap body_in (get-grafted q) ∙ kept_by body_in (filled q) (λ v. ap (λ w. w.body) (left v)) (get (linked path t) q) ∙ body_of-linked t path q,
        ap flag_in (get-grafted q) ∙ kept_by flag_in (filled q) (λ v. ap (λ w. w.deleted) (left v)) (get (linked path t) q) ∙ is_deleted-linked t path q,
      )

  -- what is at the newest when the path is linked
  abbrev last : Revision
  last = link t newest older

  linked_last : get (linked path t) newest ≡ Some last
  linked_last = get-linked t newest older newest ∙ cond-true _ (Some last) _ (same_key_itself revs newest)

  newest_grafted : get whole newest ≡ Some (given body deleted last)
  newest_grafted = get-grafted newest ∙ ap (option_map (filled newest)) linked_last ∙ ap Some (cond-true _ (given body deleted last) last (same_key_itself revs newest))

  last_body : last.body ≡ body_of t newest
  last_body = ap body_in (sym linked_last) ∙ body_of-linked t path newest

  last_flag : last.deleted ≡ is_deleted t newest
  last_flag = ap flag_in (sym linked_last) ∙ is_deleted-linked t path newest

  pub IsUnion-grafted : IsPath path → agrees t path ≡ true → IsUnion newest older body deleted t whole
  IsUnion-grafted is h = record {
    known = knows-grafted;
    parents = λ c p. ap (λ o. is_at o p) (parent_of-grafted c) ∙ parent_of-linked t path c p is h;
    others = other_grafted;
    had_body = λ b e.
        let kept : get whole newest ≡ Some last = newest_grafted ∙ ap Some (cond-true _ last (filling last) (ap is_some (last_body ∙ e))) in
        (ap body_in kept ∙ last_body ∙ e, ap flag_in kept ∙ last_flag);
    had_none = λ e.
        let new : get whole newest ≡ Some (filling last) = newest_grafted ∙ ap Some (cond-false _ last (filling last) (ap is_some (last_body ∙ e))) in
        (ap body_in new, ap flag_in new);
  }

-- ---- the graft, or why it is refused

pub IsUnion-graft : (newest : Rev) (older : List Rev) (body : Body) (deleted : Bool) (t u : Tree) → IsPath (newest ∷ older)
    → graft (newest ∷ older) body deleted t ≡ Some u → IsUnion newest older body deleted t u
unfolding graft
IsUnion-graft newest older body deleted t u path e =
    let h = cond_some (agrees t (newest ∷ older)) (grafted (newest ∷ older) body deleted t) u e in
    subst (IsUnion newest older body deleted t) h.1 (IsUnion-grafted newest older body deleted t path h.0)

pub graft-None : (path : List Rev) (body : Body) (deleted : Bool) (t : Tree) → (graft path body deleted t ≡ None) ↔ Contradicts t path
unfolding graft
graft-None path body deleted t = (λ e. (agrees-false t path).0 (refused (agrees t path) e), λ c. cond-false _ _ None ((agrees-false t path).1 c))
  where
    refused : (b : Bool) → cond b (Some (grafted path body deleted t)) None ≡ None → b ≡ false
    refused true e = absurd (none-some _ (sym e))
    refused false e = refl
