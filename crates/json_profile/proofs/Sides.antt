-- The members on both sides of `_`, and the text of all of them by the texts of both.
use Rattle.std.proofs.Common.{◌≡◌, ◌≤◌, ℕ, suc, List, [], ◌∷◌, ◌++◌, length, take, drop, ◌-◌, Bool, true, false, if◌then◌else◌, Some, unwrap_or, slice_get, is_some, String, Global, string_bytes, nat_cmp, true≢false, refl, sym, ap, ◌∙◌, subst, arith}
use Rattle.std.proofs.lemmas.Bool.{and_parts, and_from, eqb-true}
use Rattle.std.proofs.lemmas.Cmp.{nat_list_cmp_total}
use Rattle.std.proofs.lemmas.List.Elements.{All-head, All-tail}
use Rattle.std.proofs.Math.Seq.{take-append_seam}
use Rattle.std.specs.Cmp.Lexicographic.{slice_cmp}
use Rattle.std.specs.List.{All}
use Rattle.std.specs.Map.{keys_of}
use Rattle.std.specs.Ordering.{is_gt, ordering_reverse}
use Rattle.serde_json.specs.Data.{Data, object, Members, no_members, member, depth}
use Rattle.serde_json.specs.Read.{read, max_depth}
use Rattle.serde_json.specs.View.{view, members_view}
use Rattle.serde_json.specs.Written.{compact_text}
use Rattle.serde_json.proofs.Views.{Entry}
use Rattle.model.specs.Profile.{is_whole, is_special, members_whole}
use Rattle.model.proofs.ProfileLaws.{IsTextOf-compact_text}
use Rattle.json_profile.specs.Joined.{join, has_member, bare_text, is_front, front_of, all_front, split_of}
use Rattle.json_profile.specs.Profiled.{ArePlain}
use Rattle.json_profile.proofs.Joined.{front-below, back-above, members_text-bare, text-plain, behind}

-- ---- `_` comes after the names in front alone

above_none : (r : List ℕ) → is_gt (slice_cmp nat_cmp [] r) ≡ false
above_none [] = refl
above_none (c ∷ r) = refl

not_above : (k : List ℕ) → is_front k ≡ false → is_gt (slice_cmp nat_cmp (95 ∷ []) k) ≡ false
not_above [] back = absurd (true≢false back)
not_above (c ∷ r) back = at (is_special (c ∷ r)) refl
  where
    at : (b : Bool) → is_special (c ∷ r) ≡ b → is_gt (slice_cmp nat_cmp (95 ∷ []) (c ∷ r)) ≡ false
    at true is = rw (eqb-true c 95 is) (above_none r)
    at false is = ap is_gt (back-above (95 ∷ []) (c ∷ r) refl back is)

above-front : (k : List ℕ) → is_gt (slice_cmp nat_cmp (95 ∷ []) k) ≡ is_front k
above-front k = at (is_front k) refl
  where
    at : (b : Bool) → is_front k ≡ b → is_gt (slice_cmp nat_cmp (95 ∷ []) k) ≡ is_front k
    at true is = ap is_gt (nat_list_cmp_total.antisymm (95 ∷ []) k ∙ ap ordering_reverse (front-below (95 ∷ []) k refl is)) ∙ sym is
    at false is = not_above k is ∙ sym is

abbrev Answers : Bool → String Global → Type 0
Answers b k = is_gt (slice_cmp nat_cmp (95 ∷ []) (string_bytes k)) ≡ b

abbrev IsAbove : Bool → List Entry → Type 0
IsAbove b es = All (Answers b) (keys_of es)

all_front-above : (es : List Entry) → IsAbove true es → all_front (members_view es) ≡ true
all_front-above [] above = refl
all_front-above (e ∷ es) above = and_from (is_front (string_bytes e.0)) _ (sym (above-front (string_bytes e.0)) ∙ All-head (Answers true) e.0 (keys_of es) above) (all_front-above es (All-tail (Answers true) e.0 (keys_of es) above))

front_of-not_above : (es : List Entry) → IsAbove false es → front_of (members_view es) ≡ no_members
front_of-not_above [] above = refl
front_of-not_above (e ∷ es) above = rw (sym (above-front (string_bytes e.0)) ∙ All-head (Answers false) e.0 (keys_of es) above) refl

-- ---- the two sides

members_view-append : (es fs : List Entry) → members_view (es ++ fs) ≡ join (members_view es) (members_view fs)
members_view-append [] fs = refl
members_view-append (e ∷ es) fs = ap (member (string_bytes e.0) (view e.1)) (members_view-append es fs)

front_of-join : (front back : Members) → all_front front ≡ true → front_of back ≡ no_members → front_of (join front back) ≡ front
front_of-join no_members back all none = none
front_of-join (member k d front) back all none =
    let both = and_parts (is_front k) (all_front front) all in
    rw both.0 (ap (member k d) (front_of-join front back both.1 none))

whole-join : (front back : Members) → members_whole (join front back) ≡ true → (members_whole front ≡ true) × (members_whole back ≡ true)
whole-join no_members back whole = (refl, whole)
whole-join (member k d front) back whole =
    let here = and_parts (is_whole d) (members_whole (join front back)) whole in
    let later = whole-join front back here.1 in
    (and_from (is_whole d) (members_whole front) here.0 later.0, later.1)

pub join-none : (ms : Members) → join ms no_members ≡ ms
join-none no_members = refl
join-none (member k d ms) = ap (member k d) (join-none ms)

-- the members before `_` and the others
pub record Sides (ms front back : Members) : Type 0 where
  pub all : ms ≡ join front back
  pub front_is : front_of ms ≡ front
  pub whole : (members_whole front ≡ true) × (members_whole back ≡ true)

pub sides : {es : List Entry} (before after : List Entry) → es ≡ before ++ after → IsAbove true before → IsAbove false after → members_whole (members_view es) ≡ true → Sides (members_view es) (members_view before) (members_view after)
sides {es} before after is above below whole =
    let all : members_view es ≡ join (members_view before) (members_view after) = ap members_view is ∙ members_view-append before after in
    record {
      all = all;
      front_is = ap front_of all ∙ front_of-join (members_view before) (members_view after) (all_front-above before above) (front_of-not_above after below);
      whole = whole-join (members_view before) (members_view after) (subst (λ ms. members_whole ms ≡ true) all whole);
    }

pub some_member : (ms : Members) → (ms ≡ no_members → ⊥) → has_member ms ≡ true
some_member no_members some = absurd (some refl)
some_member (member k d ms) some = refl

no_member : (ms : Members) → has_member ms ≡ false → ms ≡ no_members
no_member no_members none = refl
no_member (member k d ms) none = absurd (true≢false none)

-- ---- the split

length-last : (xs : List ℕ) (x : ℕ) → length (xs ++ x ∷ []) ≡ suc (length xs)
length-last [] x = refl
length-last (y ∷ ys) x = ap suc (length-last ys x)

member_if : (b : Bool) (k : List ℕ) (d : Data) (ms : Members) → has_member (if b then member k d ms else no_members) ≡ b
member_if true k d ms = refl
member_if false k d ms = refl

-- the first name says whether some come before `_`
pub first_front : (es : List Entry) (e : Entry) → slice_get es 0 ≡ Some e → is_front (string_bytes e.0) ≡ has_member (front_of (members_view es))
first_front [] e is = absurd (true≢false (sym (ap is_some is)))
first_front (x ∷ es) e is =
    ap (λ y. is_front (string_bytes (unwrap_or y e).0)) (sym is) ∙ sym (member_if (is_front (string_bytes x.0)) (string_bytes x.0) (view x.1) (front_of (members_view es)))

pub split-back : (ms : Members) → false ≡ has_member (front_of ms) → 1 ≡ split_of ms
split-back ms none = sym (ap (λ f. suc (length (bare_text false f))) (no_member (front_of ms) (sym none)))

pub split-front : {text : List ℕ} {ms front back : Members} → Sides ms front back → text ≡ compact_text (object front) → length text - 1 ≡ split_of ms
split-front {text} {ms} {front} s is =
    let long : length text ≡ suc (suc (length (bare_text false front))) = ap length (is ∙ ap (λ t. 123 ∷ t) (members_text-bare false front)) ∙ ap suc (length-last (bare_text false front) 125) in
    let ends : length text - 1 ≡ suc (length (bare_text false front)) = omega (arith, long) in
    ends ∙ sym (ap (λ f. suc (length (bare_text false f))) s.front_is)

-- ---- the text

ends_with : (xs : List ℕ) (x : ℕ) → take (length (xs ++ x ∷ []) - 1) (xs ++ x ∷ []) ≡ xs
ends_with xs x =
    let long = length-last xs x in
    let one : length (xs ++ x ∷ []) - 1 ≡ length xs = omega (arith, long) in
    ap (λ n. take n (xs ++ x ∷ [])) one ∙ take-append_seam xs (x ∷ [])

joined : (front back : Members) → has_member front ≡ true → has_member back ≡ true
    → take (length (compact_text (object front)) - 1) (compact_text (object front)) ++ 44 ∷ drop 1 (compact_text (object back)) ≡ compact_text (object (join front back))
joined front back some others =
    let first : compact_text (object front) ≡ 123 ∷ (bare_text false front ++ 125 ∷ []) = ap (λ t. 123 ∷ t) (members_text-bare false front) in
    let cut : take (length (compact_text (object front)) - 1) (compact_text (object front)) ≡ 123 ∷ bare_text false front =
    ap (λ t. take (length t - 1) t) first ∙ ends_with (123 ∷ bare_text false front) 125 in
    let later : 44 ∷ (bare_text false back ++ 125 ∷ []) ≡ bare_text (has_member front) back ++ 125 ∷ [] =
    ap (λ t. t ++ 125 ∷ []) (sym (ap (λ b. bare_text b back) some ∙ behind true back others)) in
    ap (λ t. t ++ 44 ∷ drop 1 (compact_text (object back))) cut
    ∙ ap (λ t. 123 ∷ (bare_text false front ++ 44 ∷ t)) (members_text-bare false back)
    ∙ ap (λ t. 123 ∷ (bare_text false front ++ t)) later
    ∙ sym (text-plain front back)

pub text-both : {first second : List ℕ} {ms front back : Members} → Sides ms front back → has_member front ≡ true → has_member back ≡ true
    → first ≡ compact_text (object front) → second ≡ compact_text (object back)
    → take (length first - 1) first ++ 44 ∷ drop 1 second ≡ compact_text (object ms)
text-both {first} {second} {ms} {front} {back} s some others is_first is_second =
    rw (is_first, is_second) (joined front back some others) ∙ sym (ap (λ os. compact_text (object os)) s.all)

pub read-plain : {text : List ℕ} {ms : Members} → ArePlain ms → depth (object ms) ≤ max_depth → text ≡ compact_text (object ms) → read text ≡ Some (object ms)
read-plain {text} {ms} plain shallow is = ap read is ∙ (IsTextOf-compact_text (object ms) plain.whole plain.utf8 plain.ordered shallow).1
