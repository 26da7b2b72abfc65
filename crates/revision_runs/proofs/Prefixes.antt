-- A graft of a path, member by member: the graft of the members up to one, and that with the next.
use Rattle.std.specs.Prelude.{◌≡◌, ◌↔◌, ◌⊎◌, ℕ, zero, suc, ◌+◌, ◌<◌, ◌≤◌, ◌||◌, ◌&&◌, Bool, true, false, List, [], ◌∷◌, ◌++◌, Option, Some, None, if◌then◌else◌, refl}
use Rattle.std.proofs.Common.{sym, ap, subst, ◌∙◌, ⊎_elim, inl, inr, arith}
use Rattle.std.proofs.lemmas.Bool.{true≢false, or_cases, or_left, or_right, and_parts}
use Rattle.std.proofs.lemmas.Option.{none-some, same_Some}
use Rattle.model.specs.Body.{Body}
use Rattle.model.specs.Revision.{Rev, same_rev, same_rev-equal}
use Rattle.model.specs.Tree.{Tree, IsForest, is_at, among, knows, parent_of}
use Rattle.model.specs.TreeChange.{IsPath, IsUnion, agrees, fits, graft, grafted, is_pair}
use Rattle.model.proofs.ListLaws.{by_cases, same_option}
use Rattle.model.proofs.PathLaws.{first_among, member_generation, pair_members}
use Rattle.model.proofs.TreeLaws.{is_at-equal}
use Rattle.model.proofs.UnionLaws.{graft-union, IsTree-graft}
use Rattle.revision_runs.specs.Changes.{IsNext, IsPartOf}
use Rattle.revision_runs.proofs.Grafting.{among_last, known_next, pair_last, parents_next}

-- ---- parts of a path

pub path_front : (ps more : List Rev) (c : Rev) → IsPath (ps ++ c ∷ more) → IsPath (ps ++ c ∷ [])
path_front [] [] c path = path
path_front [] (p ∷ more) c path = some c (p ∷ more) path
  where
    some : (r : Rev) (rs : List Rev) → IsPath (r ∷ rs) → 0 < r.generation
    some r [] h = h
    some r (q ∷ rs) h = omega (arith, h.0)
path_front (r ∷ []) more c path = (path.0, path_front [] more c path.1)
path_front (r ∷ q ∷ ps) more c path = (path.0, path_front (q ∷ ps) more c path.1)

pub path_back : (ps more : List Rev) (c : Rev) → IsPath (ps ++ c ∷ more) → IsPath (c ∷ more)
path_back [] more c path = path
path_back (r ∷ []) more c path = path.1
path_back (r ∷ q ∷ ps) more c path = path_back (q ∷ ps) more c path.1

-- what is before c is younger
pub front_younger : (ps : List Rev) (c q : Rev) → IsPath (ps ++ c ∷ []) → among (ps ++ c ∷ []) q ≡ true → c.generation ≤ q.generation
front_younger [] c q path h = ⊎_elim (λ e. let g = ap (λ (z : Rev). z.generation) ((same_rev-equal q c).0 e) in omega (arith, g)) (λ e. absurd (true≢false (sym e))) (or_cases (same_rev q c) false h)
front_younger (r ∷ []) c q path h = ⊎_elim
    (λ e. let g = ap (λ (z : Rev). z.generation) ((same_rev-equal q r).0 e) in omega (arith, g, path.0))
    (λ e. front_younger [] c q path.1 e)
    (or_cases (same_rev q r) (among (c ∷ []) q) h)
front_younger (r ∷ s ∷ ps) c q path h = ⊎_elim
    (λ e.
    let g = ap (λ (z : Rev). z.generation) ((same_rev-equal q r).0 e) in
    let le = front_younger (s ∷ ps) c s path.1 (first_among s (ps ++ c ∷ [])) in
    omega (arith, g, path.0, le))
    (λ e. front_younger (s ∷ ps) c q path.1 e)
    (or_cases (same_rev q r) (among (s ∷ ps ++ c ∷ []) q) h)

-- and c is the first of no pair there
pub last_no_pair : (ps : List Rev) (c b : Rev) → IsPath (ps ++ c ∷ []) → is_pair (ps ++ c ∷ []) c b ≡ false
last_no_pair ps c b path = by_cases (is_pair (ps ++ c ∷ []) c b)
    (λ e.
    let m = pair_members (ps ++ c ∷ []) c b path e in
    let le = front_younger ps c b path m.1 in
    absurd (omega (arith, le, m.2)))
    (λ e. e)

pub agrees_front : (t : Tree) (ps more : List Rev) (c : Rev) → agrees t (ps ++ c ∷ more) ≡ true → agrees t (ps ++ c ∷ []) ≡ true
agrees_front t [] more c h = refl
agrees_front t (r ∷ []) more c h = let x = and_parts (fits (parent_of t r) c) (agrees t (c ∷ more)) h in ap (λ b. b && true) x.0
agrees_front t (r ∷ q ∷ ps) more c h =
    let x = and_parts (fits (parent_of t r) q) (agrees t (q ∷ ps ++ c ∷ more)) h in
    (λ i. x.0 i && agrees_front t (q ∷ ps) more c x.1 i)

pub agrees_back : (t : Tree) (ps more : List Rev) (c p : Rev) → agrees t (ps ++ c ∷ p ∷ more) ≡ true → fits (parent_of t c) p ≡ true
agrees_back t [] more c p h = (and_parts (fits (parent_of t c) p) (agrees t (p ∷ more)) h).0
agrees_back t (r ∷ []) more c p h = agrees_back t [] more c p (and_parts (fits (parent_of t r) c) (agrees t (c ∷ p ∷ more)) h).1
agrees_back t (r ∷ q ∷ ps) more c p h = agrees_back t (q ∷ ps) more c p (and_parts (fits (parent_of t r) q) (agrees t (q ∷ ps ++ c ∷ p ∷ more)) h).1

pub pair_front : (ps more : List Rev) (c a b : Rev) → is_pair (ps ++ c ∷ []) a b ≡ true → is_pair (ps ++ c ∷ more) a b ≡ true
pair_front [] more c a b h = absurd (true≢false (sym h))
pair_front (r ∷ []) more c a b h = ⊎_elim
    (λ e. or_left (same_rev r a && same_rev c b) (is_pair (c ∷ more) a b) e)
    (λ e. absurd (true≢false (sym e)))
    (or_cases (same_rev r a && same_rev c b) false h)
pair_front (r ∷ q ∷ ps) more c a b h = ⊎_elim
    (λ e. or_left (same_rev r a && same_rev q b) (is_pair (q ∷ ps ++ c ∷ more) a b) e)
    (λ e. or_right (same_rev r a && same_rev q b) (is_pair (q ∷ ps ++ c ∷ more) a b) (pair_front (q ∷ ps) more c a b e))
    (or_cases (same_rev r a && same_rev q b) (is_pair (q ∷ ps ++ c ∷ []) a b) h)

-- ---- grafts of these

graft_whole : (path : List Rev) (body : Body) (deleted : Bool) (t : Tree) → agrees t path ≡ true → graft path body deleted t ≡ Some (grafted path body deleted t)
unfolding graft
graft_whole path body deleted t h = ap (λ b. if b then Some (grafted path body deleted t) else None) h

module _ (t : Tree) (f : IsForest t) (body : Body) (deleted : Bool) where
  pub grafted_forest : (path : List Rev) → IsPath path → agrees t path ≡ true → IsForest (grafted path body deleted t)
  grafted_forest path is h = (IsTree-graft path body deleted t (grafted path body deleted t) is f (graft_whole path body deleted t h)).forest

  pub grafted_union : (newest : Rev) (older : List Rev) → IsPath (newest ∷ older) → agrees t (newest ∷ older) ≡ true → IsUnion newest older body deleted t (grafted (newest ∷ older) body deleted t)
  grafted_union newest older is h = (graft-union newest older body deleted t (grafted (newest ∷ older) body deleted t) is).0 (graft_whole (newest ∷ older) body deleted t h)

  -- a list that is not empty, by its first
  record HasFirst (rs : List Rev) : Type 0 where
    first : Rev
    rest : List Rev
    parts : first ∷ rest ≡ rs

  abbrev has_first : (ps : List Rev) (c : Rev) (more : List Rev) → HasFirst (ps ++ c ∷ more)
  has_first [] c more = record { first = c; rest = more; parts = refl }
  has_first (r ∷ ps) c more = record { first = r; rest = ps ++ c ∷ more; parts = refl }

  union_of : (rs : List Rev) → (x : HasFirst rs) → IsPath rs → agrees t rs ≡ true → IsUnion x.first x.rest body deleted t (grafted rs body deleted t)
  union_of rs x is h =
      subst (λ qs. IsUnion x.first x.rest body deleted t (grafted qs body deleted t)) x.parts
      (grafted_union x.first x.rest (subst IsPath (sym x.parts) is) (ap (agrees t) x.parts ∙ h))

  module _ (ps more : List Rev) (c p : Rev) (path : IsPath (ps ++ c ∷ p ∷ more)) (h : agrees t (ps ++ c ∷ p ∷ more) ≡ true) where
    abbrev one : Tree
    one = grafted (ps ++ c ∷ []) body deleted t

    abbrev two : Tree
    two = grafted (ps ++ c ∷ p ∷ []) body deleted t

    whole_path : IsPath ((ps ++ c ∷ []) ++ p ∷ more)
    whole_path = subst IsPath (spread ps) path
      where
        spread : (qs : List Rev) → qs ++ c ∷ p ∷ more ≡ (qs ++ c ∷ []) ++ p ∷ more
        spread [] = refl
        spread (r ∷ qs) = ap (λ rs. r ∷ rs) (spread qs)

    spread_two : (qs : List Rev) → (qs ++ c ∷ []) ++ p ∷ [] ≡ qs ++ c ∷ p ∷ []
    spread_two [] = refl
    spread_two (r ∷ qs) = ap (λ rs. r ∷ rs) (spread_two qs)

    spread_all : (qs : List Rev) → qs ++ c ∷ p ∷ more ≡ (qs ++ c ∷ []) ++ p ∷ more
    spread_all [] = refl
    spread_all (r ∷ qs) = ap (λ rs. r ∷ rs) (spread_all qs)

    path_one : IsPath (ps ++ c ∷ [])
    path_one = path_front ps (p ∷ more) c path

    path_two : IsPath (ps ++ c ∷ p ∷ [])
    path_two = subst IsPath (spread_two ps) (path_front (ps ++ c ∷ []) more p whole_path)

    agrees_one : agrees t (ps ++ c ∷ []) ≡ true
    agrees_one = agrees_front t ps (p ∷ more) c h

    agrees_two : agrees t (ps ++ c ∷ p ∷ []) ≡ true
    agrees_two = ap (agrees t) (sym (spread_two ps)) ∙ agrees_front t (ps ++ c ∷ []) more p (ap (agrees t) (sym (spread_all ps)) ∙ h)

    step : c.generation ≡ p.generation + 1
    step = (path_back ps (p ∷ more) c path).0

    pub one_forest : IsForest one
    one_forest = grafted_forest (ps ++ c ∷ []) path_one agrees_one

    pub two_forest : IsForest two
    two_forest = grafted_forest (ps ++ c ∷ p ∷ []) path_two agrees_two

    abbrev x : HasFirst (ps ++ c ∷ [])
    x = has_first ps c []

    abbrev y : HasFirst (ps ++ c ∷ p ∷ [])
    y = has_first ps c (p ∷ [])

    same_first : (qs : List Rev) → (has_first qs c []).first ≡ (has_first qs c (p ∷ [])).first
    same_first [] = refl
    same_first (r ∷ qs) = refl

    union_one : IsUnion x.first x.rest body deleted t one
    union_one = union_of (ps ++ c ∷ []) x path_one agrees_one

    union_two : IsUnion x.first y.rest body deleted t two
    union_two = subst (λ r. IsUnion r y.rest body deleted t two) (sym (same_first ps)) (union_of (ps ++ c ∷ p ∷ []) y path_two agrees_two)

    second : x.first ∷ y.rest ≡ ps ++ c ∷ p ∷ []
    second = ap (λ r. r ∷ y.rest) (same_first ps) ∙ y.parts

    not_among : among (ps ++ c ∷ []) p ≡ false
    not_among = by_cases (among (ps ++ c ∷ []) p) (λ e. let le = front_younger ps c p path_one e in absurd (omega (arith, le, step))) (λ e. e)

    c_among : among (ps ++ c ∷ []) c ≡ true
    c_among = among_last ps c c ∙ or_right (among ps c) (same_rev c c) ((same_rev-equal c c).1 refl)

    nothing : (a : Bool) → (a || false) ≡ a
    nothing true = refl
    nothing false = refl

    pub next : IsNext t one two c p
    next = record {
      younger = step;
      child = union_one.known c ∙ ap (λ rs. knows t c || among rs c) x.parts ∙ or_right (knows t c) (among (ps ++ c ∷ []) c) c_among;
      known = known_next t one two x.first x.rest y.rest ps c p x.parts second body deleted union_one union_two;
      parents = parents_next t one two x.first x.rest y.rest ps c p x.parts second body deleted union_one union_two;
      there = union_one.known p ∙ ap (λ rs. knows t p || among rs p) x.parts ∙ ap (λ b. knows t p || b) not_among ∙ nothing (knows t p);
      above = same_option (parent_of one c) (parent_of t c) (λ q. (
        λ e. (is_at-equal (parent_of t c) q).0 (sym (same_at q) ∙ (is_at-equal (parent_of one c) q).1 e),
        λ e. (is_at-equal (parent_of one c) q).0 (same_at q ∙ (is_at-equal (parent_of t c) q).1 e),
      ));
      fits = λ q e. (same_rev-equal q p).0 (sym (ap (λ o. fits o p) e) ∙ agrees_back t ps more c p h);
    }
      where
        same_at : (q : Rev) → is_at (parent_of one c) q ≡ is_at (parent_of t c) q
        same_at q = union_one.parents c q ∙ ap (λ rs. is_at (parent_of t c) q || is_pair rs c q) x.parts ∙ ap (λ b. is_at (parent_of t c) q || b) (last_no_pair ps c q path_one) ∙ nothing (is_at (parent_of t c) q)

    -- each link of the first is one of the whole
    pub part : IsPartOf one (grafted (ps ++ c ∷ p ∷ more) body deleted t)
    part = record {
      parents = λ a b e.
          let z = has_first ps c (p ∷ more) in
          let union = union_of (ps ++ c ∷ p ∷ more) z path h in
          (is_at-equal (parent_of (grafted (ps ++ c ∷ p ∷ more) body deleted t) a) b).0 (union.parents a b ∙ ap (λ rs. is_at (parent_of t a) b || is_pair rs a b) z.parts ∙ ⊎_elim
          (λ old. or_left (is_at (parent_of t a) b) (is_pair (ps ++ c ∷ p ∷ more) a b) old)
          (λ new. or_right (is_at (parent_of t a) b) (is_pair (ps ++ c ∷ p ∷ more) a b) (pair_front ps (p ∷ more) c a b new))
          (or_cases (is_at (parent_of t a) b) (is_pair (ps ++ c ∷ []) a b) (sym (union_one.parents a b ∙ ap (λ rs. is_at (parent_of t a) b || is_pair rs a b) x.parts) ∙ (is_at-equal (parent_of one a) b).1 e)));
    }
