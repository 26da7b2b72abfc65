-- Laws of a path that is brought for a graft: its neighbours, and where it contradicts a tree.
use Rattle.std.specs.Prelude.{◌≡◌, ◌↔◌, ◌⊎◌, ◌+◌, ◌<◌, ◌≤◌, true, false, List, [], ◌∷◌, Option, Some, None, refl}
use Rattle.std.specs.Cmp.{eq_by_cmp_equiv}
use Rattle.std.proofs.Common.{sym, ap, subst, ◌∙◌, ⊎_elim, inl, inr, arith}
use Rattle.std.proofs.lemmas.Bool.{true≢false, and_parts, and_from, and_cases, and_left, and_right, or_cases, or_left, or_right}
use Rattle.model.specs.Map.{same_key_itself}
use Rattle.model.specs.Revision.{Rev, revs, rev_total, same_rev, same_rev-equal}
use Rattle.model.specs.Tree.{Tree, parent_of, among}
use Rattle.model.specs.TreeChange.{IsPath, Contradicts, fits, agrees, is_pair}
use Rattle.model.proofs.ListLaws.{by_cases}

pub same_rev-symm : (a b : Rev) → same_rev a b ≡ same_rev b a
same_rev-symm = (eq_by_cmp_equiv rev_total).symm

-- ---- neighbours

pub pair_cases : (r next : Rev) (rest : List Rev) (c p : Rev) → is_pair (r ∷ next ∷ rest) c p ≡ true → ((r ≡ c) × (next ≡ p)) ⊎ (is_pair (next ∷ rest) c p ≡ true)
pair_cases r next rest c p h =
    ⊎_elim (λ e. let g = and_parts _ _ e in inl ((same_rev-equal r c).0 g.0, (same_rev-equal next p).0 g.1)) inr (or_cases _ _ h)

pub first_pair : (r next : Rev) (rest : List Rev) → is_pair (r ∷ next ∷ rest) r next ≡ true
first_pair r next rest = or_left _ _ (and_from _ _ (same_key_itself revs r) (same_key_itself revs next))

pub first_among : (r : Rev) (rest : List Rev) → among (r ∷ rest) r ≡ true
first_among r rest = or_left _ _ (same_key_itself revs r)

apart : (r q : Rev) → same_rev q r ≡ true → same_rev r q ≡ false → ⊥
apart r q e n = true≢false (sym e ∙ same_rev-symm q r ∙ n)

-- both are members, and the second is one generation older
pub pair_members : (path : List Rev) (c p : Rev) → IsPath path → is_pair path c p ≡ true → (among path c ≡ true) × (among path p ≡ true) × (c.generation ≡ p.generation + 1)
pair_members [] c p path h = absurd path
pair_members (r ∷ []) c p path h = absurd (true≢false (sym h))
pair_members (r ∷ next ∷ rest) c p path h = ⊎_elim
    (λ e. (
      subst (λ q. among (r ∷ next ∷ rest) q ≡ true) e.0 (first_among r (next ∷ rest)),
      subst (λ q. among (r ∷ next ∷ rest) q ≡ true) e.1 (or_right (same_rev next r) _ (first_among next rest)),
      omega (arith, path.0, ap (λ (q : Rev). q.generation) e.0, ap (λ (q : Rev). q.generation) e.1),
    ))
    (λ e. let m = pair_members (next ∷ rest) c p path.1 e in (or_right (same_rev c r) _ m.0, or_right (same_rev p r) _ m.1, m.2))
    (pair_cases r next rest c p h)

generation : (q r : Rev) → same_rev q r ≡ true → q.generation ≡ r.generation
generation q r e = ap (λ (a : Rev). a.generation) ((same_rev-equal q r).0 e)

-- no member is younger than the first
pub member_generation : (r : Rev) (rest : List Rev) (q : Rev) → IsPath (r ∷ rest) → among (r ∷ rest) q ≡ true → (0 < q.generation) × (q.generation ≤ r.generation)
member_generation r [] q path h = ⊎_elim
    (λ e. (omega (arith, path, generation q r e), omega (arith, generation q r e)))
    (λ e. absurd (true≢false (sym e)))
    (or_cases (same_rev q r) false h)
member_generation r (next ∷ rest) q path h = ⊎_elim
    (λ e. (omega (arith, path.0, generation q r e), omega (arith, generation q r e)))
    (λ e. let m = member_generation next rest q path.1 e in (m.0, omega (arith, path.0, m.1)))
    (or_cases (same_rev q r) (among (next ∷ rest) q) h)

-- each member but the first is the next of another
pub pair_above : (r : Rev) (rest : List Rev) (q : Rev) → among (r ∷ rest) q ≡ true → same_rev r q ≡ false → (c : Rev) × (is_pair (r ∷ rest) c q ≡ true)
pair_above r [] q h n = ⊎_elim (λ e. absurd (apart r q e n)) (λ e. absurd (true≢false (sym e))) (or_cases (same_rev q r) false h)
pair_above r (next ∷ rest) q h n = ⊎_elim
    (λ e. absurd (apart r q e n))
    (λ e. by_cases (same_rev next q) here (λ g. let c = pair_above next rest q e g in (c.0, or_right _ _ c.1)))
    (or_cases (same_rev q r) (among (next ∷ rest) q) h)
  where
    here : same_rev next q ≡ true → (c : Rev) × (is_pair (r ∷ next ∷ rest) c q ≡ true)
    here g = (r, subst (λ p. is_pair (r ∷ next ∷ rest) r p ≡ true) ((same_rev-equal next q).0 g) (first_pair r next rest))

-- the first is no child in the rest
pub first_apart : (r next : Rev) (rest : List Rev) (p : Rev) → IsPath (r ∷ next ∷ rest) → is_pair (next ∷ rest) r p ≡ false
first_apart r next rest p path = by_cases (is_pair (next ∷ rest) r p)
    (λ e. absurd (omega (arith, path.0, (member_generation next rest r path.1 (pair_members (next ∷ rest) r p path.1 e).0).1)))
    (λ e. e)

-- ---- contradictions

contradiction : (t : Tree) (path : List Rev) → agrees t path ≡ false → Contradicts t path
contradiction t [] h = absurd (true≢false h)
contradiction t (r ∷ []) h = absurd (true≢false h)
contradiction t (r ∷ next ∷ rest) h = ⊎_elim
    (λ e. here (parent_of t r) refl e)
    (λ e. let c = contradiction t (next ∷ rest) e in record { child = c.child; next = c.next; parent = c.parent; pair = or_right _ _ c.pair; known = c.known; other = c.other })
    (and_cases (fits (parent_of t r) next) _ h)
  where
    here : (o : Option Rev) → parent_of t r ≡ o → fits o next ≡ false → Contradicts t (r ∷ next ∷ rest)
    here None is e = absurd (true≢false e)
    here (Some p) is e = record { child = r; next = next; parent = p; pair = first_pair r next rest; known = is; other = e }

disagrees : (t : Tree) (path : List Rev) (c next p : Rev) → is_pair path c next ≡ true → parent_of t c ≡ Some p → same_rev p next ≡ false → agrees t path ≡ false
disagrees t [] c next p pair known other = absurd (true≢false (sym pair))
disagrees t (r ∷ []) c next p pair known other = absurd (true≢false (sym pair))
disagrees t (r ∷ m ∷ rest) c next p pair known other = ⊎_elim
    (λ e. and_left _ _ ((λ i. fits (parent_of t (e.0 i)) (e.1 i)) ∙ ap (λ o. fits o next) known ∙ other))
    (λ e. and_right (fits (parent_of t r) m) _ (disagrees t (m ∷ rest) c next p e known other))
    (pair_cases r m rest c next pair)

pub agrees-false : (t : Tree) (path : List Rev) → (agrees t path ≡ false) ↔ Contradicts t path
agrees-false t path = (contradiction t path, λ c. disagrees t path c.child c.next c.parent c.pair c.known c.other)
