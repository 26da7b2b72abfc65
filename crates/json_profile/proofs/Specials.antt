-- The members without the special ones.
use Rattle.std.proofs.Common.{◌≡◌, ℕ, List, [], ◌∷◌, ◌++◌, Bool, true, false, not, ◌&&◌, ◌||◌, cond, true≢false, Less, Greater, string_bytes, string_cmp, nat_cmp, refl, ap, ◌∙◌}
use Rattle.std.proofs.lemmas.Bool.{and_parts, or_parts}
use Rattle.std.proofs.lemmas.Cmp.{nat_list_cmp_total}
use Rattle.std.specs.Cmp.Lexicographic.{slice_cmp}
use Rattle.std.specs.List.{AllByRecursion, filter}
use Rattle.std.specs.List.Sorted.{IsStrictlySortedBy}
use Rattle.std.specs.Map.{keys_of}
use Rattle.std.specs.Ordering.{is_lt, ordering_reverse}
use Rattle.serde_json.specs.Data.{Data, object, Members, no_members, member, put}
use Rattle.serde_json.specs.View.{view, members_view}
use Rattle.serde_json.proofs.Views.{Entry}
use Rattle.model.specs.Profile.{is_special, without_specials, is_whole, members_whole, members_have_utf8, is_before, members_ordered}
use Rattle.json_profile.specs.Objects.{has_special}
use Rattle.json_profile.specs.Profiled.{IsProfiled, ArePlain}
use Rattle.model.proofs.ProfileLaws.{is_before-trans, first_of, value_of, rest_of}
use Rattle.json_profile.proofs.Order.{ordered_from}
use Rattle.json_profile.proofs.Texts.{utf8_name, utf8_of, utf8_after, utf8_from}

-- ---- the walk over an object's members

below_middle : (first : Entry) (es : List Entry) (e : Entry) (more : List Entry) → AllByRecursion (λ y. string_cmp first.0 y ≡ Less) (keys_of (es ++ e ∷ more)) → string_cmp first.0 e.0 ≡ Less
below_middle first [] e more h = h.0
below_middle first (x ∷ es) e more h = below_middle first es e more h.1

put_kept : (b : Bool) (k l : List ℕ) (d e : Data) (ms after : Members) → slice_cmp nat_cmp k l ≡ Greater → put k d ms ≡ after
    → put k d (cond b ms (member l e ms)) ≡ cond b after (member l e after)
put_kept true k l d e ms after above h = h
put_kept false k l d e ms after above h = rw above (ap (member l e) h)

-- a plain member above the others goes last
pub put_plain : (done : List Entry) (e : Entry) (more : List Entry) → IsStrictlySortedBy string_cmp (keys_of (done ++ e ∷ more))
    → is_special (string_bytes e.0) ≡ false
    → put (string_bytes e.0) (view e.1) (without_specials (members_view done)) ≡ without_specials (members_view (done ++ e ∷ []))
unfolding IsStrictlySortedBy
put_plain [] e more h plain = rw plain
put_plain (first ∷ done) e more h plain =
    let above : slice_cmp nat_cmp (string_bytes e.0) (string_bytes first.0) ≡ Greater =
    nat_list_cmp_total.antisymm (string_bytes e.0) (string_bytes first.0) ∙ ap ordering_reverse (below_middle first done e more h.0) in
    put_kept (is_special (string_bytes first.0)) _ _ _ _ _ _ above (put_plain done e more h.1 plain)

-- a special member is left out
pub skip_special : (done : List Entry) (e : Entry) → is_special (string_bytes e.0) ≡ true
    → without_specials (members_view done) ≡ without_specials (members_view (done ++ e ∷ []))
skip_special [] e special = rw special
skip_special (first ∷ done) e special =
    ap (λ ms. cond (is_special (string_bytes first.0)) ms (member (string_bytes first.0) (view first.1) ms)) (skip_special done e special)

-- where none is special, all stay
pub all_stay : (ms : Members) → has_special ms ≡ false → without_specials ms ≡ ms
all_stay no_members none = refl
all_stay (member k d ms) none =
    let both = or_parts (is_special k) (has_special ms) none in
    rw both.0 (ap (member k d) (all_stay ms both.1))

-- ---- what is left is a body, if it nests no deeper than one may

whole_if : (b w : Bool) (k : List ℕ) (d : Data) (ms : Members) → (is_whole d && w) ≡ true → members_whole ms ≡ true
    → members_whole (cond b ms (member k d ms)) ≡ true
whole_if true w k d ms h rest = rest
whole_if false w k d ms h rest = rw ((and_parts (is_whole d) w h).0) rest

pub without_specials-whole : (ms : Members) → members_whole ms ≡ true → members_whole (without_specials ms) ≡ true
without_specials-whole no_members h = refl
without_specials-whole (member k d ms) h =
    whole_if (is_special k) (members_whole ms) k d _ h (without_specials-whole ms (and_parts (is_whole d) (members_whole ms) h).1)

utf8_if : (b : Bool) (k : List ℕ) (d : Data) (ms : Members) → members_have_utf8 ms ≡ true → members_have_utf8 (member k d ms) ≡ true → members_have_utf8 (cond b ms (member k d ms)) ≡ true
utf8_if true k d ms rest all = rest
utf8_if false k d ms rest all = all

pub without_specials-utf8 : (ms : Members) → members_have_utf8 ms ≡ true → members_have_utf8 (without_specials ms) ≡ true
without_specials-utf8 no_members h = refl
without_specials-utf8 (member k d ms) h =
    let later = without_specials-utf8 ms (utf8_after k d ms h) in
    utf8_if (is_special k) k d (without_specials ms) later (utf8_from k d (without_specials ms) (utf8_name k d ms h) (utf8_of k d ms h) later)

plain_if : (b : Bool) (k : List ℕ) (d : Data) (ms : Members) → is_special k ≡ b → without_specials ms ≡ ms
    → without_specials (cond b ms (member k d ms)) ≡ cond b ms (member k d ms)
plain_if true k d ms is h = h
plain_if false k d ms is h = rw is (ap (member k d) h)

pub without_specials-twice : (ms : Members) → without_specials (without_specials ms) ≡ without_specials ms
without_specials-twice no_members = refl
without_specials-twice (member k d ms) = plain_if (is_special k) k d _ refl (without_specials-twice ms)

is_before-if : (b : Bool) (k l : List ℕ) (d : Data) (ms : Members) → is_lt (slice_cmp nat_cmp k l) ≡ true → is_before k ms ≡ true → is_before k (cond b ms (member l d ms)) ≡ true
is_before-if true k l d ms new old = old
is_before-if false k l d ms new old = new

is_before-without : (k : List ℕ) (ms : Members) → is_before k ms ≡ true → members_ordered ms ≡ true → is_before k (without_specials ms) ≡ true
is_before-without k no_members low h = refl
is_before-without k (member l d ms) low h =
    is_before-if (is_special l) k l d (without_specials ms) low (is_before-without k ms (is_before-trans k l ms low (first_of l d ms h)) (rest_of l d ms h))

ordered_if : (b : Bool) (k : List ℕ) (d : Data) (ms : Members) → members_ordered ms ≡ true → members_ordered (member k d ms) ≡ true → members_ordered (cond b ms (member k d ms)) ≡ true
ordered_if true k d ms rest all = rest
ordered_if false k d ms rest all = all

pub without_specials-ordered : (ms : Members) → members_ordered ms ≡ true → members_ordered (without_specials ms) ≡ true
without_specials-ordered no_members h = refl
without_specials-ordered (member k d ms) h =
    let later = without_specials-ordered ms (rest_of k d ms h) in
    ordered_if (is_special k) k d (without_specials ms) later
    (ordered_from k d (without_specials ms) (is_before-without k ms (first_of k d ms h) (rest_of k d ms h)) (value_of k d ms h) later)

pub plain_rest : (ms : Members) → IsProfiled (object ms) → ArePlain (without_specials ms)
plain_rest ms h = record { whole = without_specials-whole ms h.whole; utf8 = without_specials-utf8 ms h.utf8; ordered = without_specials-ordered ms h.ordered; plain = without_specials-twice ms }

-- ---- the entries whose names are plain

filter_if : (b : Bool) (e : Entry) (es : List Entry) (ms : Members) → members_view es ≡ ms → members_view (cond (not b) (e ∷ es) es) ≡ cond b ms (member (string_bytes e.0) (view e.1) ms)
filter_if true e es ms h = h
filter_if false e es ms h = ap (member (string_bytes e.0) (view e.1)) h

pub filter_plain : (es : List Entry) → members_view (filter (λ e. not (is_special (string_bytes e.0))) es) ≡ without_specials (members_view es)
filter_plain [] = refl
filter_plain (e ∷ es) = filter_if (is_special (string_bytes e.0)) e _ _ (filter_plain es)

-- ---- for callers

plain_or : (b h : Bool) (k : List ℕ) (d : Data) (ms : Members) → (b || h) ≡ false → (h ≡ false → without_specials ms ≡ ms) → cond b (without_specials ms) (member k d (without_specials ms)) ≡ member k d ms
plain_or true h k d ms none rest = absurd (true≢false none)
plain_or false h k d ms none rest = ap (member k d) (rest none)

-- where no name begins with `_`, nothing is left out
pub without_specials-none : (ms : Members) → has_special ms ≡ false → without_specials ms ≡ ms
without_specials-none no_members h = refl
without_specials-none (member k d ms) h = plain_or (is_special k) (has_special ms) k d ms h (without_specials-none ms)
