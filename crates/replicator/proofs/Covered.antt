-- What was asked for is answered, and what is answered and taken is covered.
use Rattle.std.proofs.Common.{◌≡◌, zero, suc, List, [], ◌∷◌, ◌++◌, get_or, map, refl, ap, sym, subst, ◌∙◌, arith, Bool, true, false, inl, inr}
use Rattle.std.specs.Prelude.{All, Contains, Result, Ok, Err, ◌&&◌, ◌||◌}
use Rattle.std.specs.List.{Any, list_all, list_any}
use Rattle.std.proofs.lemmas.List.Elements.{All-nil, All-cons, All-head, All-tail, Contains-append_left, Contains-append_right}
use Rattle.model.specs.Map.{same_key, same_key-equal}
use Rattle.model.specs.Command.{Id, Merge, names}
use Rattle.model.specs.Query.{Difference}
use Rattle.model.specs.Revision.{Rev, same_rev, same_rev-equal}
use Rattle.model.proofs.ListLaws.{Contains-map}
use Rattle.replicator.specs.Readable.{path_of, tells_of, is_of}
use Rattle.replicator.specs.Wanted.{absent_in, given_in, wanted_in}
use Rattle.replicator.specs.Passing.{IsAnswered}
use Rattle.replicator.specs.Stage.{IsLacking}

-- ---- what the target lacks is wanted

pub lacking_wanted : (ds : List (Id × Difference)) (id : Id) (rev : Rev) → IsLacking ds id rev → Contains (wanted_in ds) (id, rev)
lacking_wanted [] id rev (k, d, h, is, p) = absurd (omega arith)
lacking_wanted (e ∷ ds) id rev (zero, d, h, is, p) =
    let here : Contains {X = Id × Rev} (map (λ (r : Rev). (d.0, r)) d.1.missing) (d.0, rev) = Contains-map (λ (r : Rev). (d.0, r)) d.1.missing rev p.1 in
    let there : Contains {X = Id × Rev} (map (λ (r : Rev). (e.0, r)) e.1.missing) (e.0, rev) = subst (λ (x : Id × Difference). Contains {X = Id × Rev} (map (λ (r : Rev). (x.0, r)) x.1.missing) (x.0, rev)) (sym is) here in
    let named : e.0 ≡ id = ap (λ (x : Id × Difference). x.0) is ∙ p.0 in
    Contains-append_left (map (λ (r : Rev). (e.0, r)) e.1.missing) (wanted_in ds) (id, rev)
    (subst (λ (i : Id). Contains {X = Id × Rev} (map (λ (r : Rev). (e.0, r)) e.1.missing) (i, rev)) named there)
lacking_wanted (e ∷ ds) id rev (suc k, d, h, is, p) =
    Contains-append_right (map (λ (r : Rev). (e.0, r)) e.1.missing) (wanted_in ds) (id, rev) (lacking_wanted ds id rev (k, d, omega arith, is, p))

-- ---- more documents, and more that is missing

Any-left : {X : Type 0} {P : X → Type 0} (xs ys : List X) → Any P xs → Any P (xs ++ ys)
Any-left {P = P} [] ys (k, y, h, is, p) = absurd (omega arith)
Any-left {P = P} (x ∷ xs) ys (zero, y, h, is, p) = (zero, y, omega arith, is, p)
Any-left {P = P} (x ∷ xs) ys (suc k, y, h, is, p) = let later : Any P (xs ++ ys) = Any-left {P = P} xs ys (k, y, omega arith, is, p) in (suc later.0, later.1, omega arith, later.3, later.4)

Any-right : {X : Type 0} {P : X → Type 0} (xs ys : List X) → Any P ys → Any P (xs ++ ys)
Any-right {P = P} [] ys h = h
Any-right {P = P} (x ∷ xs) ys h = let later : Any P (xs ++ ys) = Any-right {P = P} xs ys h in (suc later.0, later.1, omega arith, later.3, later.4)

answered-left : (gs hs : List Merge) (cs bs : List (Id × Rev)) (w : Id × Rev) → IsAnswered gs cs w → IsAnswered (gs ++ hs) (cs ++ bs) w
answered-left gs hs cs bs w h = elim h [ inl a ↦ inl (Any-left gs hs a) | inr c ↦ inr (Contains-append_left cs bs w c) ]

answered-right : (gs hs : List Merge) (cs bs : List (Id × Rev)) (w : Id × Rev) → IsAnswered hs bs w → IsAnswered (gs ++ hs) (cs ++ bs) w
answered-right gs hs cs bs w h = elim h [ inl a ↦ inl (Any-right gs hs a) | inr c ↦ inr (Contains-append_right cs bs w c) ]

pub all-left : (gs hs : List Merge) (cs bs : List (Id × Rev)) (ws : List (Id × Rev)) → All (IsAnswered gs cs) ws → All (IsAnswered (gs ++ hs) (cs ++ bs)) ws
all-left gs hs cs bs ws all k d h = answered-left gs hs cs bs (get_or ws k d) (all k d h)

pub all-right : (gs hs : List Merge) (cs bs : List (Id × Rev)) (ws : List (Id × Rev)) → All (IsAnswered hs bs) ws → All (IsAnswered (gs ++ hs) (cs ++ bs)) ws
all-right gs hs cs bs ws all k d h = answered-right gs hs cs bs (get_or ws k d) (all k d h)

-- ---- a readable answer

both-true : (a b : Bool) → (a && b) ≡ true → (a ≡ true) × (b ≡ true)
both-true true b e = (refl, e)
both-true false b e = absurd (cc)

Contains-head : {X : Type 0} (x : X) (xs : List X) → Contains (x ∷ xs) x
Contains-head x xs = (zero, omega arith, refl)

Contains-later : {X : Type 0} (x y : X) (xs : List X) → Contains xs y → Contains (x ∷ xs) y
Contains-later x y xs h = Contains-append_right (x ∷ []) xs y h

rev-found : (revs : List Rev) (rev : Rev) → list_any (λ r. same_rev r rev) revs ≡ true → Contains revs rev
rev-found [] rev e = absurd (cc)
rev-found (r ∷ rs) rev e =
    elim (same_rev r rev) as (λ b. same_rev r rev ≡ b → (b || list_any (λ s. same_rev s rev) rs) ≡ true → Contains (r ∷ rs) rev) [
      | true ↦ λ is _. subst (λ (x : Rev). Contains (r ∷ rs) x) ((same_rev-equal r rev).0 is) (Contains-head r rs)
      | false ↦ λ _ later. Contains-later r rev rs (rev-found rs rev later)
    ] refl e

told-answered : (opened : List (Result Merge Rev)) (id : Id) (rev : Rev) → list_any (tells_of rev) opened ≡ true → list_all (is_of id) opened ≡ true
    → IsAnswered (given_in opened) (absent_in id opened) (id, rev)
told-answered [] id rev told of = absurd (cc)
told-answered (Ok m ∷ opened) id rev told of =
    let ofs = both-true (same_key names m.id id) (list_all (is_of id) opened) of in
    elim (list_any (λ r. same_rev r rev) (path_of m)) as (λ b. list_any (λ r. same_rev r rev) (path_of m) ≡ b → (b || list_any (tells_of rev) opened) ≡ true
    → IsAnswered (m ∷ given_in opened) (absent_in id opened) (id, rev)) [
      | true ↦ λ is _. inl (zero, m, omega arith, refl, (same_key-equal names m.id id ofs.0, rev-found (path_of m) rev is))
      | false ↦ λ _ later. answered-right (m ∷ []) (given_in opened) [] (absent_in id opened) (id, rev) (told-answered opened id rev later ofs.1)
    ] refl told
told-answered (Err m ∷ opened) id rev told of =
    elim (same_rev m rev) as (λ b. same_rev m rev ≡ b → (b || list_any (tells_of rev) opened) ≡ true
    → IsAnswered (given_in opened) ((id, m) ∷ absent_in id opened) (id, rev)) [
      | true ↦ λ is _. inr (subst (λ (x : Rev). Contains {X = Id × Rev} ((id, m) ∷ absent_in id opened) (id, x)) ((same_rev-equal m rev).0 is) (Contains-head (id, m) (absent_in id opened)))
      | false ↦ λ _ later. answered-right [] (given_in opened) ((id, m) ∷ []) (absent_in id opened) (id, rev) (told-answered opened id rev later of)
    ] refl told

-- a run of one document's revisions that are all reported
pub run-answered : (run : List (Id × Rev)) (opened : List (Result Merge Rev)) (id : Id) → All (λ w. same_key names w.0 id ≡ true) run
    → list_all (λ rev. list_any (tells_of rev) opened) (map (λ w. w.1) run) ≡ true → list_all (is_of id) opened ≡ true
    → All (IsAnswered (given_in opened) (absent_in id opened)) run
run-answered [] opened id same told of = All-nil (IsAnswered (given_in opened) (absent_in id opened))
run-answered (w ∷ run) opened id same told of =
    let tolds = both-true (list_any (tells_of w.1) opened) (list_all (λ rev. list_any (tells_of rev) opened) (map (λ v. v.1) run)) told in
    let named : w.0 ≡ id = same_key-equal names w.0 id (All-head (λ v. same_key names v.0 id ≡ true) w run same) in
    All-cons (IsAnswered (given_in opened) (absent_in id opened)) w run
    (subst (λ (i : Id). IsAnswered (given_in opened) (absent_in id opened) (i, w.1)) (sym named) (told-answered opened id w.1 tolds.0 of))
    (run-answered run opened id (All-tail (λ v. same_key names v.0 id ≡ true) w run same) tolds.1 of)
