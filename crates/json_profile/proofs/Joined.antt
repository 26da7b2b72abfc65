-- The text of an object, by the texts of parts of its members, and where a special member goes.
use Rattle.std.proofs.Common.{◌≡◌, ℕ, suc, subst, ◌<◌, ◌≤◌, ◌==◌, List, [], ◌∷◌, ◌++◌, length, take, drop, ◌+◌, ◌-◌, Bool, true, false, ◌||◌, ◌&&◌, cond, nat_lt, nat_cmp, Less, Equal, Greater, Ordering, true≢false, refl, sym, ap, ◌∙◌, arith, append_assoc}
use Rattle.std.specs.Prelude.{◌≢◌, not}
use Rattle.std.proofs.lemmas.Bool.{and_parts, and_from, or_parts, ltb-false, ltb-true, lt-ltb, eqb-true, eq-eqb}
use Rattle.std.proofs.lemmas.Cmp.{nat_list_cmp_total, nat_cmp_total}
use Rattle.std.specs.Cmp.Lexicographic.{slice_cmp}
use Rattle.std.specs.Ordering.{is_lt, ordering_reverse, ordering_then, match_ordering}
use Rattle.std.proofs.Math.Dec.{eqb-suc-zero}
use Rattle.std.proofs.Math.Seq.{take-append_seam, drop-append_seam, get_or-append_seam}
use Rattle.std.proofs.lemmas.List.{length-append}
use Rattle.std.proofs.lemmas.Str.{IsCharBoundary-before_ascii}
use Rattle.std.specs.Str.{IsCharBoundary}
use Rattle.json.specs.Print.{quoted}
use Rattle.serde_json.specs.Events.{members_len as members_count}
use Rattle.serde_json.specs.Data.{Data, object, Members, no_members, member, put}
use Rattle.serde_json.specs.Written.{comma_if, compact_text, members_text}
use Rattle.model.specs.Profile.{is_special, is_before, members_ordered, without_specials}
use Rattle.json_profile.specs.Joined.{between, join, has_member, bare_text, is_front, front_of, back_of, all_front, all_back}
use Rattle.json_profile.specs.Objects.{has_special}
use Rattle.model.proofs.ProfileLaws.{first_of, rest_of}
use Rattle.json_profile.specs.Profiled.{ArePlain}
use Rattle.json_profile.specs.Texts.{IsSplit}

-- ---- texts

regroup : (q a b c d : List ℕ) → q ++ (a ++ 58 ∷ (b ++ (c ++ d))) ≡ (q ++ (a ++ 58 ∷ (b ++ c))) ++ d
regroup q a b c d = simp append_assoc

pub members_text-bare : (later : Bool) (ms : Members) → members_text later ms ≡ bare_text later ms ++ 125 ∷ []
members_text-bare later no_members = refl
members_text-bare later (member k d ms) =
    ap (λ s. comma_if later ++ (quoted k ++ 58 ∷ (compact_text d ++ s))) (members_text-bare true ms) ∙ regroup (comma_if later) (quoted k) (compact_text d) (bare_text true ms) (125 ∷ [])

pub bare_text-join : (later : Bool) (ms ns : Members) → bare_text later (join ms ns) ≡ bare_text later ms ++ bare_text (later || has_member ms) ns
bare_text-join true no_members ns = refl
bare_text-join false no_members ns = refl
bare_text-join true (member k d ms) ns =
    ap (λ s. comma_if true ++ (quoted k ++ 58 ∷ (compact_text d ++ s))) (bare_text-join true ms ns) ∙ regroup (comma_if true) (quoted k) (compact_text d) (bare_text true ms) (bare_text true ns)
bare_text-join false (member k d ms) ns =
    ap (λ s. comma_if false ++ (quoted k ++ 58 ∷ (compact_text d ++ s))) (bare_text-join true ms ns) ∙ regroup (comma_if false) (quoted k) (compact_text d) (bare_text true ms) (bare_text true ns)

-- the text of front, special and back members, where there is a special one
pub text-joined : (front special back : Members) → has_member special ≡ true
    → compact_text (object (join front (join special back))) ≡ 123 ∷ (bare_text false front ++ (bare_text (has_member front) special ++ (bare_text true back ++ 125 ∷ [])))
text-joined front special back some =
    let inner = bare_text-join (has_member front) special back in
    let later : (b : Bool) → b || has_member special ≡ true = λ b. rw some (or-true b) in
    let all = bare_text-join false front (join special back) ∙ ap (λ s. bare_text false front ++ s) (inner ∙ ap (λ b. bare_text (has_member front) special ++ bare_text b back) (later (has_member front))) in
    ap (λ s. 123 ∷ s) (members_text-bare false (join front (join special back)) ∙ ap (λ s. s ++ 125 ∷ []) all ∙ append_assoc (bare_text false front) _ _ ∙ ap (λ s. bare_text false front ++ s) (append_assoc (bare_text (has_member front) special) (bare_text true back) (125 ∷ [])))
  where
    or-true : (b : Bool) → b || true ≡ true
    or-true true = refl
    or-true false = refl

-- the text of plain members, by the same parts
pub text-plain : (front back : Members) → compact_text (object (join front back)) ≡ 123 ∷ (bare_text false front ++ (bare_text (has_member front) back ++ 125 ∷ []))
text-plain front back =
    ap (λ s. 123 ∷ s) (members_text-bare false (join front back) ∙ ap (λ s. s ++ 125 ∷ []) (bare_text-join false front back) ∙ append_assoc (bare_text false front) (bare_text (has_member front) back) (125 ∷ []))

-- ---- the parts

pub parts : (ms : Members) → join (front_of ms) (back_of ms) ≡ ms
parts no_members = refl
parts (member k d ms) = at (is_front k) (parts ms)
  where
    at : (b : Bool) → join (front_of ms) (back_of ms) ≡ ms → join (cond b (member k d (front_of ms)) no_members) (cond b (back_of ms) (member k d ms)) ≡ member k d ms
    at true h = ap (member k d) h
    at false h = refl

pub all_front-front_of : (ms : Members) → all_front (front_of ms) ≡ true
all_front-front_of no_members = refl
all_front-front_of (member k d ms) = at (is_front k) refl (all_front-front_of ms)
  where
    at : (b : Bool) → is_front k ≡ b → all_front (front_of ms) ≡ true → all_front (cond b (member k d (front_of ms)) no_members) ≡ true
    at true is h = and_from (is_front k) (all_front (front_of ms)) is h
    at false is h = refl

-- ---- where a special name is

pub front-below : (n k : List ℕ) → is_special n ≡ true → is_front k ≡ true → slice_cmp nat_cmp k n ≡ Less
front-below [] k special front = absurd (true≢false (sym special))
front-below (c ∷ r) [] special front = refl
front-below (c ∷ r) (e ∷ q) special front = rw (eqb-true c 95 special, front) refl

pub back-above : (n k : List ℕ) → is_special n ≡ true → is_front k ≡ false → is_special k ≡ false → slice_cmp nat_cmp n k ≡ Less
back-above [] k special back plain = absurd (true≢false (sym special))
back-above (c ∷ r) [] special back plain = absurd (true≢false back)
back-above (c ∷ r) (e ∷ q) special back plain =
    let high : 95 ≤ e = ltb-false e 95 back in
    let apart : e ≢ 95 = λ is. true≢false (sym (eq-eqb e 95 is) ∙ plain) in
    let above : 95 < e = omega (arith, high, apart) in
    rw (eqb-true c 95 special, lt-ltb 95 e above) refl

-- ---- a special member goes between the parts

put-front : (n : List ℕ) (v : Data) (front ms : Members) → is_special n ≡ true → all_front front ≡ true → put n v (join front ms) ≡ join front (put n v ms)
put-front n v no_members ms special all = refl
put-front n v (member k d front) ms special all =
    let both = and_parts (is_front k) (all_front front) all in
    let above : slice_cmp nat_cmp n k ≡ Greater = nat_list_cmp_total.antisymm n k ∙ ap ordering_reverse (front-below n k special both.0) in
    rw above (ap (member k d) (put-front n v front ms special both.1))

put-at : (o : Ordering) (n l : List ℕ) (v e : Data) (special back : Members) → put n v (join special back) ≡ join (put n v special) back
    → match_ordering o (member n v (member l e (join special back))) (member l v (join special back)) (member l e (put n v (join special back)))
    ≡ join (match_ordering o (member n v (member l e special)) (member l v special) (member l e (put n v special))) back
put-at Less n l v e special back h = refl
put-at Equal n l v e special back h = refl
put-at Greater n l v e special back h = ap (member l e) h

negated : (b : Bool) → not b ≡ true → b ≡ false
negated true h = absurd (true≢false (sym h))
negated false h = refl

put-back : (n : List ℕ) (v : Data) (special back : Members) → is_special n ≡ true → all_back back ≡ true → put n v (join special back) ≡ join (put n v special) back
put-back n v no_members no_members is all = refl
put-back n v no_members (member k d back) is all =
    let both = and_parts (not (is_front k) && not (is_special k)) (all_back back) all in
    let name = and_parts (not (is_front k)) (not (is_special k)) both.0 in
    rw (back-above n k is (negated _ name.0) (negated _ name.1)) refl
put-back n v (member l e special) back is all = put-at (slice_cmp nat_cmp n l) n l v e special back (put-back n v special back is all)

pub put-joined : (n : List ℕ) (v : Data) (front special back : Members) → is_special n ≡ true → all_front front ≡ true → all_back back ≡ true
    → put n v (join front (join special back)) ≡ join front (join (put n v special) back)
put-joined n v front special back is below above = put-front n v front (join special back) is below ∙ ap (join front) (put-back n v special back is above)

-- ---- all that come after a name that is not in front are not in front

greater_less : Greater ≡ Less → ⊥
greater_less h = cc

lt : (o : Ordering) → is_lt o ≡ true → o ≡ Less
lt Less h = refl
lt Equal h = absurd (true≢false (sym h))
lt Greater h = absurd (true≢false (sym h))

pub front-closed : (k l : List ℕ) → slice_cmp nat_cmp k l ≡ Less → is_front l ≡ true → is_front k ≡ true
front-closed [] l low front = refl
front-closed (c ∷ r) [] low front = absurd (cc)
front-closed (c ∷ r) (e ∷ q) low front = at (nat_lt c 95) refl
  where
    at : (b : Bool) → nat_lt c 95 ≡ b → nat_lt c 95 ≡ true
    at true is = is
    at false is =
        let high : 95 ≤ c = ltb-false c 95 is in
        let low' : e < 95 = ltb-true e 95 front in
        let above : e < c = omega (arith, high, low') in
        let bigger : nat_cmp e c ≡ Less = rw (lt-ltb e c above) refl in
        let turned : nat_cmp c e ≡ Greater = nat_cmp_total.antisymm c e ∙ ap ordering_reverse bigger in
        absurd (greater_less (sym (ap (λ o. ordering_then o (slice_cmp nat_cmp r q)) turned) ∙ low))

pub all_back-of : (ms : Members) → members_ordered ms ≡ true → has_special ms ≡ false → all_back (back_of ms) ≡ true
all_back-of no_members ordered plain = refl
all_back-of (member k d ms) ordered plain =
    let p = or_parts (is_special k) (has_special ms) plain in
    at (is_front k) refl p.0 p.1 (all_back-of ms (rest_of k d ms ordered) p.1)
  where
    later : (l : List ℕ) (ns : Members) → is_front l ≡ false → is_before l ns ≡ true → members_ordered ns ≡ true → has_special ns ≡ false → all_back ns ≡ true
    later l no_members back before ordered plain = refl
    later l (member m e ns) back before ordered plain =
        let p = or_parts (is_special m) (has_special ns) plain in
        let up : is_front m ≡ false = turned (is_front m) refl in
        and_from (not (is_front m) && not (is_special m)) (all_back ns) (rw (up, p.0) refl) (later m ns up (first_of m e ns ordered) (rest_of m e ns ordered) p.1)
      where
        turned : (b : Bool) → is_front m ≡ b → b ≡ false
        turned true is = sym (front-closed l m (lt _ before) is) ∙ back
        turned false is = refl

    at : (b : Bool) → is_front k ≡ b → is_special k ≡ false → has_special ms ≡ false → all_back (back_of ms) ≡ true → all_back (cond b (back_of ms) (member k d ms)) ≡ true
    at true is plain others h = h
    at false is plain others h = and_from (not (is_front k) && not (is_special k)) (all_back ms) (rw (is, plain) refl) (later k ms is (first_of k d ms ordered) (rest_of k d ms ordered) others)

-- ---- plain members

-- no special name is among plain members
plain_grows : (k : List ℕ) (d : Data) (ms ns : Members) → without_specials ns ≡ member k d ms → members_count (member k d ms) ≤ members_count ns
plain_grows k d ms no_members is = absurd (cc)
plain_grows k d ms (member l e ns) is = subst (λ os. members_count os ≤ members_count (member l e ns)) is (fewer (member l e ns))
  where
    fewer : (os : Members) → members_count (without_specials os) ≤ members_count os
    fewer no_members = omega arith
    fewer (member m f os) = at (is_special m) (fewer os)
      where
        at : (b : Bool) → members_count (without_specials os) ≤ members_count os → members_count (cond b (without_specials os) (member m f (without_specials os))) ≤ suc (members_count os)
        at true h = omega (arith, h)
        at false h = omega (arith, h)

abbrev tail_of : Members → Members
tail_of no_members = no_members
tail_of (member k d ms) = ms

pub no_special : (ms : Members) → without_specials ms ≡ ms → has_special ms ≡ false
no_special no_members plain = refl
no_special (member k d ms) plain = at (is_special k) plain (no_special ms)
  where
    at : (b : Bool) → cond b (without_specials ms) (member k d (without_specials ms)) ≡ member k d ms → (without_specials ms ≡ ms → has_special ms ≡ false) → b || has_special ms ≡ false
    at true is later = let grown : suc (members_count ms) ≤ members_count ms = plain_grows k d ms ms is in absurd (omega (arith, grown))
    at false is later = later (ap tail_of is)

-- ---- the text of plain members

pub plain-text : (ms : Members) → compact_text (object ms) ≡ 123 ∷ (bare_text false (front_of ms) ++ (bare_text (has_member (front_of ms)) (back_of ms) ++ 125 ∷ []))
plain-text ms = ap (λ os. compact_text (object os)) (sym (parts ms)) ∙ text-plain (front_of ms) (back_of ms)

-- ---- the text is cut at the split

-- a character of one byte is first
abbrev Begins : List ℕ → Type 0
Begins [] = ⊥
Begins (c ∷ rest) = c < 128

begins-bare : (later : Bool) (ms : Members) (rest : List ℕ) → Begins rest → Begins (bare_text later ms ++ rest)
begins-bare later no_members rest begins = begins
begins-bare true (member k d ms) rest begins = omega arith
begins-bare false (member k d ms) rest begins = omega arith

at_seam : (xs ys : List ℕ) → Begins ys → IsCharBoundary (xs ++ ys) (length xs)
at_seam xs [] begins = absurd begins
at_seam xs (c ∷ ys) begins =
    let long : length (xs ++ c ∷ ys) ≡ length xs + length (c ∷ ys) = length-append xs (c ∷ ys) in
    IsCharBoundary-before_ascii (xs ++ c ∷ ys) (length xs) (omega (arith, long)) (rw (get_or-append_seam xs c ys 0) begins)

pub record Cuts (text : List ℕ) (split : ℕ) (F B : List ℕ) : Type 0 where
  pub front : take (split - 1) (drop 1 text) ≡ F
  pub back : take ((length text - 1) - split) (drop split text) ≡ B
  pub order : split ≤ length text - 1
  pub first : IsCharBoundary text 1
  pub middle : IsCharBoundary text split
  pub last : IsCharBoundary text (length text - 1)

seam : (F B : List ℕ) (n : ℕ) → n ≡ length B → take n (drop (length F) (F ++ (B ++ 125 ∷ []))) ≡ B
seam F B n is = ap (λ s. take n s) (drop-append_seam F (B ++ 125 ∷ [])) ∙ ap (λ m. take m (B ++ 125 ∷ [])) is ∙ take-append_seam B (125 ∷ [])

cuts : (F B : List ℕ) → Begins (F ++ (B ++ 125 ∷ [])) → Begins (B ++ 125 ∷ []) → Cuts (123 ∷ (F ++ (B ++ 125 ∷ []))) (suc (length F)) F B
cuts F B whole rest =
    let long : length (F ++ (B ++ 125 ∷ [])) ≡ length F + (length B + 1) = length-append F (B ++ 125 ∷ []) ∙ ap (λ n. length F + n) (length-append B (125 ∷ [])) in
    let both : length (F ++ B) ≡ length F + length B = length-append F B in
    let one : suc (length F) - 1 ≡ length F = omega arith in
    let after : (suc (length (F ++ (B ++ 125 ∷ []))) - 1) - suc (length F) ≡ length B = omega (arith, long) in
    let closing : length (123 ∷ (F ++ B)) ≡ suc (length (F ++ (B ++ 125 ∷ []))) - 1 = omega (arith, long, both) in
    record {
      front = ap (λ n. take n (F ++ (B ++ 125 ∷ []))) one ∙ take-append_seam F (B ++ 125 ∷ []);
      back = seam F B _ after;
      order = omega (arith, long);
      first = at_seam (123 ∷ []) (F ++ (B ++ 125 ∷ [])) whole;
      middle = at_seam (123 ∷ F) (B ++ 125 ∷ []) rest;
      last = subst (λ s. IsCharBoundary (123 ∷ s) (suc (length (F ++ (B ++ 125 ∷ []))) - 1)) (append_assoc F B (125 ∷ [])) (subst (IsCharBoundary (123 ∷ ((F ++ B) ++ 125 ∷ []))) closing (at_seam (123 ∷ (F ++ B)) (125 ∷ []) (omega arith)));
    }

pub cut : (text : List ℕ) (split : ℕ) (ms ns : Members) → IsSplit split text ms → ms ≡ ns → (length text ≡ 0 → ⊥) → Cuts text split (bare_text false (front_of ns)) (bare_text (has_member (front_of ns)) (back_of ns))
cut text split no_members ns is same some = absurd (some (ap length is.whole.kept))
cut text split (member k d ms) ns is same some =
    let P : Members → Type 0 = λ os. Cuts text split (bare_text false (front_of os)) (bare_text (has_member (front_of os)) (back_of os)) in
    let front = front_of (member k d ms) in
    let back = back_of (member k d ms) in
    let rest : Begins (bare_text (has_member front) back ++ 125 ∷ []) = begins-bare (has_member front) back (125 ∷ []) (omega arith) in
    let whole = is.whole.kept ∙ plain-text (member k d ms) in
    subst P same (rw (whole, is.at) (cuts (bare_text false front) (bare_text (has_member front) back) (begins-bare false front _ rest) rest))

-- ---- an object's text without its brackets

pub record Inside (text inside : List ℕ) : Type 0 where
  pub value : take ((length text - 1) - 1) (drop 1 text) ≡ inside
  pub order : 1 ≤ length text - 1
  pub first : IsCharBoundary text 1
  pub last : IsCharBoundary text (length text - 1)

pub inside : (ms : Members) → Inside (compact_text (object ms)) (bare_text false ms)
inside ms =
    let text = bare_text false ms in
    let rest : Begins (text ++ 125 ∷ []) = begins-bare false ms (125 ∷ []) (omega arith) in
    let all = cuts text [] rest (omega arith) in
    let long : length (text ++ 125 ∷ []) ≡ length text + 1 = length-append text (125 ∷ []) in
    let ends : (suc (length (text ++ 125 ∷ [])) - 1) - 1 ≡ suc (length text) - 1 = omega (arith, long) in
    rw (ap (λ s. 123 ∷ s) (members_text-bare false ms)) (record {
      value = ap (λ n. take n (text ++ 125 ∷ [])) ends ∙ all.front;
      order = omega (arith, long);
      first = all.first;
      last = all.last;
    })

-- ---- special members between the others

-- a special member that is put into a body and others goes to the others
pub put-between : (n : List ℕ) (v : Data) (ms special : Members) → ArePlain ms → is_special n ≡ true → put n v (between ms special) ≡ between ms (put n v special)
put-between n v ms special plain is = put-joined n v (front_of ms) special (back_of ms) is (all_front-front_of ms) (all_back-of ms plain.ordered (no_special ms plain.plain))

-- a body has none
pub between-none : (ms : Members) → between ms no_members ≡ ms
between-none ms = parts ms

-- ---- the commas between the parts

pub has_member-length : (later : Bool) (ms : Members) → not (length (bare_text later ms) == 0) ≡ has_member ms
has_member-length later no_members = refl
has_member-length true (member k d ms) = ap not (eqb-suc-zero _)
has_member-length false (member k d ms) = ap not (eqb-suc-zero _)

-- the comma that is missing where none is in front
later-text : (later : Bool) (ms : Members) → bare_text true ms ≡ comma_if (not later && has_member ms) ++ bare_text later ms
later-text true no_members = refl
later-text false no_members = refl
later-text true (member k d ms) = refl
later-text false (member k d ms) = refl

pub behind : (later : Bool) (ms : Members) → has_member ms ≡ true → bare_text later ms ≡ comma_if later ++ bare_text false ms
behind later no_members some = absurd (true≢false (sym some))
behind true (member k d ms) some = refl
behind false (member k d ms) some = refl

-- the text of a body with special members, by what the body lends and their own text
pub between-text : (ms special : Members) → has_member special ≡ true
    → compact_text (object (between ms special))
    ≡ 123 ∷ (bare_text false (front_of ms) ++ ((comma_if (has_member (front_of ms)) ++ bare_text false special)
    ++ ((comma_if (not (has_member (front_of ms)) && has_member (back_of ms)) ++ bare_text (has_member (front_of ms)) (back_of ms)) ++ 125 ∷ [])))
between-text ms special some =
    text-joined (front_of ms) special (back_of ms) some
    ∙ ap (λ s. 123 ∷ (bare_text false (front_of ms) ++ (s ++ (bare_text true (back_of ms) ++ 125 ∷ [])))) (behind (has_member (front_of ms)) special some)
    ∙ ap (λ s. 123 ∷ (bare_text false (front_of ms) ++ ((comma_if (has_member (front_of ms)) ++ bare_text false special) ++ (s ++ 125 ∷ [])))) (later-text (has_member (front_of ms)) (back_of ms))
