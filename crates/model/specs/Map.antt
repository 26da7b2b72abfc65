-- A finite map as the list of its entries in the order of their keys. Equal where all look-ups are equal.
--     Order      a type of keys with a total order, in which only equal keys tie.   same_key O a b      whether two keys are equal
--     empty, get, put, without, from_list, entries      refine f m has f k x at each key k where m has x, and nothing where f gives none
--     IsRising O ks      each key comes before all later ones, so each is there once
--     get-.., same_map      what `get` answers after each, and that two maps that answer alike are equal
use Rattle.std.specs.Prelude.{◌≡◌, Bool, true, false, cond, T, List, [], ◌∷◌, map, AllPairs, Option, Some, None, option_and_then, if◌then◌else◌, refl}
use Rattle.std.specs.declared.cmp.Ordering.{Ordering}
use Rattle.std.specs.declared.cmp.Ordering.TheVariants.{Less, Equal, Greater}
use Rattle.std.specs.Ordering.{is_eq, is_lt, eq_by_cmp}
use Rattle.std.specs.Cmp.{IsTotalOrder, Equal-is, tied_itself}
use Rattle.std.specs.FinMap.{IsAntisymmetric}
use Rattle.std.specs.FinMap.Entries as es
use Rattle.std.specs.FinMap.Entries.{find, is_sorted, below_all, is_sorted-put, find-put, same_entries}
use Rattle.std.specs.Coded.{Coded, coded×, coded_list}
use Rattle.model.specs.Truth.{both, first, second}
use base.Stored.{coded_via}
use lib.Dec.{T_prop}
use mathlib.Core.Path.{sym, ap, subst, ◌∙◌}
use mathlib.Core.HLevel.{Σ_prop_path}

pub record Order : Type 1 where
  pub key : Type 0
  pub cmp : key → key → Ordering
  pub total : IsTotalOrder cmp
  pub exact : IsAntisymmetric cmp

abbrev pub same_key : (O : Order) → O.key → O.key → Bool
same_key O = eq_by_cmp O.cmp

abbrev pub IsRising : (O : Order) → List O.key → Type 0
IsRising O = AllPairs (λ a b. O.cmp a b ≡ Less)

pub record Map (O : Order) (X : Type 0) : Type 0 where
  pub list : List (O.key × X)
  pub sorted : T (is_sorted O.cmp list)

module _ {O : Order} {X : Type 0} where
  abbrev pub entries : Map O X → List (O.key × X)
  entries m = m.list

  abbrev pub keys : Map O X → List O.key
  keys m = map (λ e. e.0) m.list

  abbrev pub empty : Map O X
  empty = record { list = []; sorted = tt }

  abbrev pub get : Map O X → O.key → Option X
  get m q = find O.cmp q m.list

  abbrev pub put : Map O X → O.key → X → Map O X
  put m k x = record { list = es.put O.cmp k x m.list; sorted = is_sorted-put O.cmp O.total k x m.list m.sorted }

  -- of a key that is there twice, the first
  abbrev pub from_list : List (O.key × X) → Map O X
  from_list [] = empty
  from_list (e ∷ es) = put (from_list es) e.0 e.1

  pub same_list : (m n : Map O X) → m.list ≡ n.list → m ≡ n
  same_list m n e =
      let pairs : ◌≡◌ {A = (es : List (O.key × X)) × T (is_sorted O.cmp es)} (m.list, m.sorted) (n.list, n.sorted) = Σ_prop_path (λ es. T_prop _) e in
      λ i. record { list = (pairs i).0; sorted = (pairs i).1 }

  abbrev pub coded_map : Coded O.key → Coded X → Coded (Map O X)
  coded_map k x = coded_via (coded_list (coded× k x)) (λ m. m.list) same_list

  pub same_map : (m n : Map O X) → ((q : O.key) → get m q ≡ get n q) → m ≡ n
  same_map m n is = same_list m n (same_entries O.cmp O.total O.exact m.list n.list m.sorted n.sorted is)

  pub get-put : (m : Map O X) (k : O.key) (x : X) (q : O.key) → get (put m k x) q ≡ cond (same_key O q k) (Some x) (get m q)
  get-put m k x q = find-put O.cmp O.total q k x m.list

pub get-from_list : (O : Order) {X : Type 0} (es : List (O.key × X)) (q : O.key) → get {O = O} (from_list es) q ≡ find O.cmp q es
get-from_list O [] q = refl
get-from_list O (e ∷ es) q = get-put {O = O} (from_list es) e.0 e.1 q ∙ ap (cond (same_key O q e.0) (Some e.1)) (get-from_list O es q)

module _ (O : Order) where
  pub same_key_itself : (q : O.key) → same_key O q q ≡ true
  same_key_itself q = ap is_eq (tied_itself O.total q)

  pub same_key-equal : (a b : O.key) → same_key O a b ≡ true → a ≡ b
  same_key-equal a b e = O.exact a b ((Equal-is (O.cmp a b)).0 e)

module _ (O : Order) {X Y : Type 0} (f : O.key → X → Option Y) where
  abbrev pub kept : O.key × X → List (O.key × Y) → List (O.key × Y)
  kept e es = elim (f e.0 e.1) [ None ↦ es | Some y ↦ (e.0, y) ∷ es ]

  abbrev pub refine_list : List (O.key × X) → List (O.key × Y)
  refine_list [] = []
  refine_list (e ∷ es) = kept e (refine_list es)

  below_refined : (k : O.key) (es : List (O.key × X)) → T (below_all O.cmp k es) → T (below_all O.cmp k (refine_list es))
  below_refined k [] h = tt
  below_refined k (e ∷ es) h =
      let rest = below_refined k es (second _ _ h) in
      elim (f e.0 e.1) as (λ o. T (below_all O.cmp k (elim o [ None ↦ refine_list es | Some y ↦ (e.0, y) ∷ refine_list es ]))) [ None ↦ rest | Some y ↦ both _ _ (first _ _ h) rest ]

  pub sorted-refined : (es : List (O.key × X)) → T (is_sorted O.cmp es) → T (is_sorted O.cmp (refine_list es))
  sorted-refined [] h = tt
  sorted-refined (e ∷ es) h =
      let rest = sorted-refined es (second _ _ h) in
      elim (f e.0 e.1) as (λ o. T (is_sorted O.cmp (elim o [ None ↦ refine_list es | Some y ↦ (e.0, y) ∷ refine_list es ]))) [ None ↦ rest | Some y ↦ both _ _ (below_refined e.0 es (first _ _ h)) rest ]

  missed : (q : O.key) (es : List (O.key × X)) → T (below_all O.cmp q es) → find O.cmp q (refine_list es) ≡ None
  missed q [] h = refl
  missed q (e ∷ es) h =
      let rest = missed q es (second _ _ h) in
      let less = above q e.0 (first _ _ h) in
      elim (f e.0 e.1) as (λ o. find O.cmp q (elim o [ None ↦ refine_list es | Some y ↦ (e.0, y) ∷ refine_list es ]) ≡ None) [ None ↦ rest | Some y ↦ ap (λ b. cond b (Some y) (find O.cmp q (refine_list es))) less ∙ rest ]
    where
      above : (a b : O.key) → T (is_lt (O.cmp a b)) → same_key O a b ≡ false
      above a b h = elim (O.cmp a b) as (λ r. T (is_lt r) → is_eq r ≡ false) [ Less ↦ λ _. refl | Equal ↦ λ h. absurd h | Greater ↦ λ h. absurd h ] h

  at_head : (e : O.key × X) (es : List (O.key × X)) → T (below_all O.cmp e.0 es) → find O.cmp e.0 (kept e (refine_list es)) ≡ f e.0 e.1
  at_head e es h =
      elim (f e.0 e.1) as (λ o. find O.cmp e.0 (elim o [ None ↦ refine_list es | Some y ↦ (e.0, y) ∷ refine_list es ]) ≡ o) [
        | None ↦ missed e.0 es h
        | Some y ↦ ap (λ b. cond b (Some y) (find O.cmp e.0 (refine_list es))) (same_key_itself O e.0)
      ]

  find-refine_list : (es : List (O.key × X)) (q : O.key) → T (is_sorted O.cmp es) → find O.cmp q (refine_list es) ≡ option_and_then (f q) (find O.cmp q es)
  find-refine_list [] q h = refl
  find-refine_list (e ∷ es) q h =
      let rest = find-refine_list es q (second _ _ h) in
      elim (same_key O q e.0) as (λ t. same_key O q e.0 ≡ t → find O.cmp q (kept e (refine_list es)) ≡ option_and_then (f q) (cond t (Some e.1) (find O.cmp q es))) [
        | true ↦ λ t. subst (λ k. find O.cmp k (kept e (refine_list es)) ≡ f k e.1) (sym (same_key-equal O q e.0 t)) (at_head e es (first _ _ h))
        | false ↦ λ t. elim (f e.0 e.1) as (λ o. find O.cmp q (elim o [ None ↦ refine_list es | Some y ↦ (e.0, y) ∷ refine_list es ]) ≡ option_and_then (f q) (find O.cmp q es)) [
          | None ↦ rest
          | Some y ↦ ap (λ b. cond b (Some y) (find O.cmp q (refine_list es))) t ∙ rest
        ]
      ] refl

abbrev pub refine : {O : Order} {X Y : Type 0} → (O.key → X → Option Y) → Map O X → Map O Y
refine {O} f m = record { list = refine_list O f m.list; sorted = sorted-refined O f m.list m.sorted }

pub get-refine : {O : Order} {X Y : Type 0} (f : O.key → X → Option Y) (m : Map O X) (q : O.key) → get {O = O} (refine f m) q ≡ option_and_then (f q) (get m q)
get-refine {O} f m q = find-refine_list O f m.list q m.sorted

-- with nothing at the key
abbrev pub without : {O : Order} {X : Type 0} → Map O X → O.key → Map O X
without {O} m k = refine (λ q x. if same_key O q k then None else Some x) m
