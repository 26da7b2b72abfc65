-- Members that were taken out.
use Rattle.std.proofs.Common.{◌≡◌, ℕ, List, Option, Some, Bool, true, false, true≢false, Ordering, Less, Equal, Greater, nat_cmp, refl, sym, ap, ◌∙◌}
use Rattle.std.specs.Prelude.{◌||◌, None, if◌then◌else◌}
use Rattle.std.specs.Cmp.Lexicographic.{slice_cmp}
use Rattle.std.specs.Ordering.{is_eq, match_ordering}
use Rattle.std.specs.Str.{bytes_eq}
use Rattle.std.proofs.lemmas.Map.Text.{is_eq-slice_cmp}
use Rattle.std.proofs.lemmas.Slice.Eq.{bytes_eq-Decides}
use Rattle.serde_json.specs.Data.{Data, Members, no_members, member}
use Rattle.serde_json.specs.Find.{get_member}
use Rattle.json_profile.specs.Objects.{without, has_special}
use Rattle.model.specs.Profile.{is_special, without_specials}

-- the comparison says that the names are one
one_name : (name k : List ℕ) → is_eq (slice_cmp nat_cmp name k) ≡ true → name ≡ k
one_name name k h = (bytes_eq-Decides name k).0 (sym (is_eq-slice_cmp name k) ∙ h)

-- ---- a special member does not matter to the rest

pub without_specials-without : (name : List ℕ) (ms : Members) → is_special name ≡ true → without_specials (without name ms) ≡ without_specials ms
without_specials-without name no_members h = refl
without_specials-without name (member k d ms) h = at (is_eq (slice_cmp nat_cmp name k)) refl (without_specials-without name ms h)
  where
    at : (b : Bool) → is_eq (slice_cmp nat_cmp name k) ≡ b → without_specials (without name ms) ≡ without_specials ms
        → without_specials (if b then ms else member k d (without name ms)) ≡ without_specials (member k d ms)
    at true p _ =
        let same : is_special k ≡ true = ap is_special (sym (one_name name k p)) ∙ h in
        sym (ap (λ s. if s then without_specials ms else member k d (without_specials ms)) same)
    at false p rest = ap (λ kept. if is_special k then kept else member k d kept) rest

-- ---- nor another one to what is found

skipped : (o : Ordering) (found : Option Data) (d : Data) → is_eq o ≡ false → match_ordering o found (Some d) found ≡ found
skipped Less found d h = refl
skipped Greater found d h = refl
skipped Equal found d h = absurd (true≢false h)

pub get_member-without : (wanted name : List ℕ) (ms : Members) → bytes_eq wanted name ≡ false → get_member wanted (without name ms) ≡ get_member wanted ms
get_member-without wanted name no_members h = refl
get_member-without wanted name (member k d ms) h = at (is_eq (slice_cmp nat_cmp name k)) refl (get_member-without wanted name ms h)
  where
    at : (b : Bool) → is_eq (slice_cmp nat_cmp name k) ≡ b → get_member wanted (without name ms) ≡ get_member wanted ms
        → get_member wanted (if b then ms else member k d (without name ms)) ≡ get_member wanted (member k d ms)
    at true p _ =
        let other : is_eq (slice_cmp nat_cmp wanted k) ≡ false = is_eq-slice_cmp wanted k ∙ ap (bytes_eq wanted) (sym (one_name name k p)) ∙ h in
        sym (skipped (slice_cmp nat_cmp wanted k) (get_member wanted ms) d other)
    at false p rest = ap (λ found. match_ordering (slice_cmp nat_cmp wanted k) found (Some d) found) rest

-- ---- where nothing special is left

not_this : (name k : List ℕ) (ms : Members) → is_special name ≡ true → (is_special k || has_special ms) ≡ false → is_eq (slice_cmp nat_cmp name k) ≡ false
not_this name k ms special none = at (is_eq (slice_cmp nat_cmp name k)) refl (is_special k) refl none
  where
    at : (b : Bool) → is_eq (slice_cmp nat_cmp name k) ≡ b → (s : Bool) → is_special k ≡ s → (s || has_special ms) ≡ false → b ≡ false
    at false p s q h = refl
    at true p true q h = absurd (true≢false h)
    at true p false q h = absurd (true≢false (sym special ∙ ap is_special (one_name name k p) ∙ q))

plain_rest : (k : List ℕ) (ms : Members) → (is_special k || has_special ms) ≡ false → has_special ms ≡ false
plain_rest k ms none = at (is_special k) none
  where
    at : (s : Bool) → (s || has_special ms) ≡ false → has_special ms ≡ false
    at true h = absurd (true≢false h)
    at false h = h

pub get_member-none : (name : List ℕ) (ms : Members) → is_special name ≡ true → has_special ms ≡ false → get_member name ms ≡ None
get_member-none name no_members special none = refl
get_member-none name (member k d ms) special none =
    skipped (slice_cmp nat_cmp name k) (get_member name ms) d (not_this name k ms special none)
    ∙ get_member-none name ms special (plain_rest k ms none)

pub without-none : (name : List ℕ) (ms : Members) → is_special name ≡ true → has_special ms ≡ false → without name ms ≡ ms
without-none name no_members special none = refl
without-none name (member k d ms) special none =
    ap (λ b. if b then ms else member k d (without name ms)) (not_this name k ms special none)
    ∙ ap (member k d) (without-none name ms special (plain_rest k ms none))
