-- A member that is taken out of an object.
use Rattle.std.proofs.Common.{◌≡◌, ◌≤◌, ℕ, List, [], ◌∷◌, Bool, true, false, cond, Option, Some, unwrap_or, Ordering, Less, Equal, Greater, true≢false, string_bytes, nat_cmp, refl, sym, ap, ◌∙◌, subst, arith}
use Rattle.std.proofs.lemmas.Bool.{and_parts, and_from}
use Rattle.std.proofs.lemmas.Map.Text.{is_eq-slice_cmp}
use Rattle.std.proofs.lemmas.Slice.Eq.{bytes_eq-Decides}
use Rattle.std.specs.Cmp.Lexicographic.{slice_cmp}
use Rattle.std.specs.Map.{remove_entry}
use Rattle.std.specs.BTreeMap.{is_at}
use Rattle.std.specs.Ordering.{is_lt, is_eq, match_ordering}
use Rattle.serde_json.specs.Data.{Data, object, Members, no_members, member, depth, members_depth}
use Rattle.serde_json.specs.Find.{get_member}
use Rattle.serde_json.specs.View.{view, members_view}
use Rattle.serde_json.proofs.Views.{Entry}
use Rattle.model.specs.Profile.{is_special, without_specials, max_nesting, is_whole, members_whole, members_have_utf8, is_before, members_ordered}
use Rattle.json_profile.specs.Objects.{without}
use Rattle.json_profile.specs.Profiled.{IsProfiled}
use Rattle.model.proofs.ProfileLaws.{is_before-trans, first_of, value_of, rest_of}
use Rattle.json_profile.proofs.Order.{ordered_from}
use Rattle.json_profile.proofs.Texts.{utf8_name, utf8_of, utf8_after, utf8_from}
use Rattle.json_profile.proofs.Parts.{first_member, later_members}

-- ---- the one that goes out

taken_at : (o : Ordering) (d : Data) (ms : Members) (name : List ℕ) (x : Data) → (get_member name ms ≡ Some x → IsProfiled x) → IsProfiled d → match_ordering o (get_member name ms) (Some d) (get_member name ms) ≡ Some x → IsProfiled x
taken_at Less d ms name x later now is = later is
taken_at Equal d ms name x later now is = subst IsProfiled (ap (λ o. unwrap_or o d) is) now
taken_at Greater d ms name x later now is = later is

pub profiled_member : (name : List ℕ) (ms : Members) (x : Data) → get_member name ms ≡ Some x → IsProfiled (object ms) → IsProfiled x
profiled_member name no_members x is h = cc is
profiled_member name (member k d ms) x is h = taken_at (slice_cmp nat_cmp name k) d ms name x (λ e. profiled_member name ms x e (later_members k d ms h)) (first_member k d ms h) is

-- ---- the others

before_if : (b : Bool) (k l : List ℕ) (d : Data) (ms rest : Members) → is_lt (slice_cmp nat_cmp k l) ≡ true → is_before k ms ≡ true → is_before k (cond b ms (member l d rest)) ≡ true
before_if true k l d ms rest low later = later
before_if false k l d ms rest low later = low

is_before-without : (name k : List ℕ) (ms : Members) → is_before k ms ≡ true → members_ordered ms ≡ true → is_before k (without name ms) ≡ true
is_before-without name k no_members low h = refl
is_before-without name k (member l d ms) low h = before_if (is_eq (slice_cmp nat_cmp name l)) k l d ms (without name ms) low (is_before-trans k l ms low (first_of l d ms h))

either : (P : Members → Type 0) (b : Bool) (ms ns : Members) → P ms → P ns → P (cond b ms ns)
either P true ms ns p q = p
either P false ms ns p q = q

without-ordered : (name : List ℕ) (ms : Members) → members_ordered ms ≡ true → members_ordered (without name ms) ≡ true
without-ordered name no_members h = refl
without-ordered name (member k d ms) h =
    either (λ ns. members_ordered ns ≡ true) (is_eq (slice_cmp nat_cmp name k)) ms (member k d (without name ms)) (rest_of k d ms h)
    (ordered_from k d (without name ms) (is_before-without name k ms (first_of k d ms h) (rest_of k d ms h)) (value_of k d ms h) (without-ordered name ms (rest_of k d ms h)))

without-whole : (name : List ℕ) (ms : Members) → members_whole ms ≡ true → members_whole (without name ms) ≡ true
without-whole name no_members h = refl
without-whole name (member k d ms) h =
    let parts = and_parts (is_whole d) (members_whole ms) h in
    either (λ ns. members_whole ns ≡ true) (is_eq (slice_cmp nat_cmp name k)) ms (member k d (without name ms)) parts.1
    (and_from (is_whole d) (members_whole (without name ms)) parts.0 (without-whole name ms parts.1))

without-utf8 : (name : List ℕ) (ms : Members) → members_have_utf8 ms ≡ true → members_have_utf8 (without name ms) ≡ true
without-utf8 name no_members h = refl
without-utf8 name (member k d ms) h =
    either (λ ns. members_have_utf8 ns ≡ true) (is_eq (slice_cmp nat_cmp name k)) ms (member k d (without name ms)) (utf8_after k d ms h)
    (utf8_from k d (without name ms) (utf8_name k d ms h) (utf8_of k d ms h) (without-utf8 name ms (utf8_after k d ms h)))

without-nests : (name : List ℕ) (ms : Members) (n : ℕ) → members_depth ms ≤ n → members_depth (without name ms) ≤ n
without-nests name no_members n h = h
without-nests name (member k d ms) n h =
    let later : members_depth (without name ms) ≤ n = without-nests name ms n (omega arith) in
    either (λ ns. members_depth ns ≤ n) (is_eq (slice_cmp nat_cmp name k)) ms (member k d (without name ms)) (omega arith) (omega arith)

pub profiled_others : (name : List ℕ) (ms : Members) → IsProfiled (object ms) → IsProfiled (object (without name ms))
profiled_others name ms h =
    let deep : depth (object ms) ≤ max_nesting = h.nests in
    let low : members_depth ms ≤ 71 = omega (arith, deep) in
    let left : members_depth (without name ms) ≤ 71 = without-nests name ms 71 low in
    record { whole = without-whole name ms h.whole; utf8 = without-utf8 name ms h.utf8; ordered = without-ordered name ms h.ordered; nests = omega (arith, left) }

-- ---- in the map

view_if : (b : Bool) (e : Entry) (es rest : List Entry) (ms : Members) → members_view rest ≡ ms → members_view (cond b es (e ∷ rest)) ≡ cond b (members_view es) (member (string_bytes e.0) (view e.1) ms)
view_if true e es rest ms h = refl
view_if false e es rest ms h = ap (member (string_bytes e.0) (view e.1)) h

pub members_view-remove_entry : (name : List ℕ) (es : List Entry) → members_view (remove_entry (is_at (λ k. slice_cmp nat_cmp name (string_bytes k))) es) ≡ without name (members_view es)
members_view-remove_entry name [] = refl
members_view-remove_entry name (e ∷ es) = view_if (is_eq (slice_cmp nat_cmp name (string_bytes e.0))) e es _ _ (members_view-remove_entry name es)

-- ---- for callers

same_name : (b : Bool) (name k : List ℕ) → is_eq (slice_cmp nat_cmp name k) ≡ b → b ≡ true → name ≡ k
same_name b name k is h = (bytes_eq-Decides name k).0 (sym (is_eq-slice_cmp name k) ∙ is ∙ h)

without_special_at : (b s : Bool) (name k : List ℕ) (d : Data) (ms rest : Members) → is_eq (slice_cmp nat_cmp name k) ≡ b → is_special name ≡ true → without_specials rest ≡ without_specials ms
    → without_specials (cond b ms (member k d rest)) ≡ without_specials (member k d ms)
without_special_at true s name k d ms rest is special later =
    let special_too : is_special k ≡ true = subst (λ l. is_special l ≡ true) (same_name true name k is refl) special in
    rw special_too refl
without_special_at false s name k d ms rest is special later = ap (λ ns. cond (is_special k) ns (member k d ns)) later

-- a special member that goes out is one of those that a body leaves out
pub without_specials-without : (name : List ℕ) (ms : Members) → is_special name ≡ true → without_specials (without name ms) ≡ without_specials ms
without_specials-without name no_members h = refl
without_specials-without name (member k d ms) h = without_special_at _ true name k d ms (without name ms) refl h (without_specials-without name ms h)

differs : (b : Bool) (name k : List ℕ) → is_eq (slice_cmp nat_cmp name k) ≡ b → (name ≡ k → ⊥) → b ≡ false
differs true name k is other = absurd (other (same_name true name k is refl))
differs false name k is other = refl

passed_over : (o : Ordering) (found later : Option Data) → is_eq o ≡ false → later ≡ match_ordering o later found later
passed_over Less found later h = refl
passed_over Equal found later h = absurd (true≢false h)
passed_over Greater found later h = refl

other_at : (b : Bool) (other name k : List ℕ) (d : Data) (ms rest : Members) → is_eq (slice_cmp nat_cmp name k) ≡ b → (other ≡ name → ⊥) → get_member other rest ≡ get_member other ms
    → get_member other (cond b ms (member k d rest)) ≡ get_member other (member k d ms)
other_at true other name k d ms rest is apart later =
    passed_over (slice_cmp nat_cmp other k) (Some d) (get_member other ms) (differs _ other k refl (λ e. apart (e ∙ sym (same_name true name k is refl))))
other_at false other name k d ms rest is apart later = ap (λ r. match_ordering (slice_cmp nat_cmp other k) r (Some d) r) later

-- the others stay
pub get_member-without_other : (other name : List ℕ) (ms : Members) → (other ≡ name → ⊥) → get_member other (without name ms) ≡ get_member other ms
get_member-without_other other name no_members apart = refl
get_member-without_other other name (member k d ms) apart = other_at _ other name k d ms (without name ms) refl apart (get_member-without_other other name ms apart)
