-- The members whose names begin with `_`, apart from the others.
use Rattle.std.proofs.Common.{◌≡◌, ℕ, Bool, true, false, ◌||◌, List, [], ◌∷◌, Option, Some, Ordering, Less, Equal, Greater, nat_cmp, true≢false, refl, sym, ap, ◌∙◌}
use Rattle.std.specs.Prelude.{if◌then◌else◌}
use Rattle.std.specs.Cmp.Lexicographic.{slice_cmp}
use Rattle.std.specs.List.{list_all}
use Rattle.std.specs.Ordering.{is_eq, match_ordering}
use Rattle.std.proofs.lemmas.Bool.{and_parts, false_from_ne_true, or_parts}
use Rattle.std.proofs.lemmas.Map.Text.{is_eq-slice_cmp}
use Rattle.std.proofs.lemmas.Slice.Eq.{bytes_eq-Decides}
use Rattle.serde_json.specs.Data.{Data, Members, no_members, member}
use Rattle.serde_json.specs.Find.{get_member}
use Rattle.json_profile.specs.Joined.{back_of, between, front_of, join}
use Rattle.json_profile.specs.Objects.{has_special, without}
use Rattle.json_profile.proofs.Joined.{no_special, parts}
use Rattle.json_profile.proofs.Specials.{without_specials-none}
use Rattle.model.specs.Profile.{is_special, without_specials}
use Rattle.document_json.specs.Document.{without_all}

abbrev pub specials : Members → Members
specials no_members = no_members
specials (member k d ms) = if is_special k then member k d (specials ms) else specials ms

-- ---- of parts

specials-join : (ms ns : Members) → specials (join ms ns) ≡ join (specials ms) (specials ns)
specials-join no_members ns = refl
specials-join (member k d ms) ns = at (is_special k) (specials-join ms ns)
  where
    at : (b : Bool) → specials (join ms ns) ≡ join (specials ms) (specials ns)
        → (if b then member k d (specials (join ms ns)) else specials (join ms ns)) ≡ join (if b then member k d (specials ms) else specials ms) (specials ns)
    at true h = ap (member k d) h
    at false h = h

specials-none : (ms : Members) → has_special ms ≡ false → specials ms ≡ no_members
specials-none no_members h = refl
specials-none (member k d ms) h =
    let both = or_parts (is_special k) (has_special ms) h in
    ap (λ b. if b then member k d (specials ms) else specials ms) both.0 ∙ specials-none ms both.1

has_special-join : (ms ns : Members) → has_special (join ms ns) ≡ (has_special ms || has_special ns)
has_special-join no_members ns = refl
has_special-join (member k d ms) ns = at (is_special k) (has_special-join ms ns)
  where
    at : (b : Bool) → has_special (join ms ns) ≡ (has_special ms || has_special ns) → (b || has_special (join ms ns)) ≡ ((b || has_special ms) || has_special ns)
    at true h = refl
    at false h = h

without_specials-join : (ms ns : Members) → without_specials (join ms ns) ≡ join (without_specials ms) (without_specials ns)
without_specials-join no_members ns = refl
without_specials-join (member k d ms) ns = at (is_special k) (without_specials-join ms ns)
  where
    at : (b : Bool) → without_specials (join ms ns) ≡ join (without_specials ms) (without_specials ns)
        → (if b then without_specials (join ms ns) else member k d (without_specials (join ms ns))) ≡ join (if b then without_specials ms else member k d (without_specials ms)) (without_specials ns)
    at true h = h
    at false h = ap (member k d) h

-- ---- of what is between the members of a body

join-none : (ms : Members) → join ms no_members ≡ ms
join-none no_members = refl
join-none (member k d ms) = ap (member k d) (join-none ms)

halves : (body : Members) → without_specials body ≡ body → (has_special (front_of body) ≡ false) × (has_special (back_of body) ≡ false)
halves body plain =
    or_parts (has_special (front_of body)) (has_special (back_of body))
    (sym (has_special-join (front_of body) (back_of body)) ∙ ap has_special (parts body) ∙ no_special body plain)

pub specials-between : (body special : Members) → without_specials body ≡ body → specials (between body special) ≡ specials special
specials-between body special plain =
    let none = halves body plain in
    specials-join (front_of body) (join special (back_of body))
    ∙ ap (λ ms. join ms (specials (join special (back_of body)))) (specials-none (front_of body) none.0)
    ∙ specials-join special (back_of body)
    ∙ ap (join (specials special)) (specials-none (back_of body) none.1)
    ∙ join-none (specials special)

pub plain-between : (body special : Members) → without_specials body ≡ body → without_specials special ≡ no_members → without_specials (between body special) ≡ body
plain-between body special plain none =
    let apart = halves body plain in
    without_specials-join (front_of body) (join special (back_of body))
    ∙ ap (λ ms. join ms (without_specials (join special (back_of body)))) (without_specials-none (front_of body) apart.0)
    ∙ ap (join (front_of body)) (without_specials-join special (back_of body) ∙ ap (λ ms. join ms (without_specials (back_of body))) none ∙ without_specials-none (back_of body) apart.1)
    ∙ parts body

-- ---- what is found and what is left

one_name : (name k : List ℕ) → is_eq (slice_cmp nat_cmp name k) ≡ true → name ≡ k
one_name name k h = (bytes_eq-Decides name k).0 (sym (is_eq-slice_cmp name k) ∙ h)

apart : (name k : List ℕ) → is_special name ≡ true → is_special k ≡ false → is_eq (slice_cmp nat_cmp name k) ≡ false
apart name k h g = false_from_ne_true _ (λ e. true≢false (sym h ∙ ap is_special (one_name name k e) ∙ g))

skipped : (o : Ordering) (found : Option Data) (d : Data) → is_eq o ≡ false → match_ordering o found (Some d) found ≡ found
skipped Less found d h = refl
skipped Greater found d h = refl
skipped Equal found d h = absurd (true≢false h)

pub get-specials : (name : List ℕ) (ms : Members) → is_special name ≡ true → get_member name ms ≡ get_member name (specials ms)
get-specials name no_members h = refl
get-specials name (member k d ms) h = at (is_special k) refl (get-specials name ms h)
  where
    at : (b : Bool) → is_special k ≡ b → get_member name ms ≡ get_member name (specials ms)
        → get_member name (member k d ms) ≡ get_member name (if b then member k d (specials ms) else specials ms)
    at true p r = ap (λ found. match_ordering (slice_cmp nat_cmp name k) found (Some d) found) r
    at false p r = skipped (slice_cmp nat_cmp name k) (get_member name ms) d (apart name k h p) ∙ r

specials-without : (name : List ℕ) (ms : Members) → is_special name ≡ true → specials (without name ms) ≡ without name (specials ms)
specials-without name no_members h = refl
specials-without name (member k d ms) h = at (is_special k) (is_eq (slice_cmp nat_cmp name k)) refl refl (specials-without name ms h)
  where
    at : (b c : Bool) → is_special k ≡ b → is_eq (slice_cmp nat_cmp name k) ≡ c → specials (without name ms) ≡ without name (specials ms)
        → specials (if c then ms else member k d (without name ms)) ≡ without name (if b then member k d (specials ms) else specials ms)
    at true true p e r = sym (ap (λ t. if t then specials ms else member k d (without name (specials ms))) e)
    at true false p e r =
        ap (λ t. if t then member k d (specials (without name ms)) else specials (without name ms)) p
        ∙ ap (member k d) r
        ∙ sym (ap (λ t. if t then specials ms else member k d (without name (specials ms))) e)
    at false true p e r = absurd (true≢false (sym e ∙ apart name k h p))
    at false false p e r = ap (λ t. if t then member k d (specials (without name ms)) else specials (without name ms)) p ∙ r

specials-without_all : (names : List (List ℕ)) (ms : Members) → list_all is_special names ≡ true → specials (without_all names ms) ≡ without_all names (specials ms)
specials-without_all [] ms h = refl
specials-without_all (name ∷ names) ms h =
    let both = and_parts _ _ h in
    specials-without_all names (without name ms) both.1 ∙ ap (without_all names) (specials-without name ms both.0)

has_special-specials : (ms : Members) → has_special ms ≡ has_special (specials ms)
has_special-specials no_members = refl
has_special-specials (member k d ms) = at (is_special k) refl (has_special-specials ms)
  where
    at : (b : Bool) → is_special k ≡ b → has_special ms ≡ has_special (specials ms) → (b || has_special ms) ≡ has_special (if b then member k d (specials ms) else specials ms)
    at true p r = sym (ap (λ t. t || has_special (specials ms)) p)
    at false p r = r

pub left-specials : (names : List (List ℕ)) (ms : Members) → list_all is_special names ≡ true → has_special (without_all names ms) ≡ has_special (without_all names (specials ms))
left-specials names ms h = has_special-specials (without_all names ms) ∙ ap has_special (specials-without_all names ms h)
