-- The revisions of documents, as a body names them.
use Rattle.std.proofs.Common.{◌≡◌, ℕ, List, [], ◌∷◌, Ok, Err, Bool, true, false, ◌&&◌, T, map, refl, sym, ap, ◌∙◌, subst}
use Rattle.std.specs.Prelude.{◌==◌, ◌||◌, Some, None, is_some, length, nat_lt, option_map, option_and_then, unwrap_or, if◌then◌else◌}
use Rattle.std.specs.FinMap.Entries.{below_all, by_order, is_sorted, put}
use Rattle.std.specs.Ordering.{is_lt, nat_cmp}
use Rattle.std.specs.declared.cmp.Ordering.{Ordering}
use Rattle.std.specs.declared.cmp.Ordering.TheVariants.{Less, Equal, Greater}
use Rattle.std.specs.Cmp.Lexicographic.{slice_cmp}
use Rattle.std.proofs.lemmas.Bool.{and_parts}
use Rattle.serde_json.specs.Data.{Data, null, boolean, number, string, array, object, Members, no_members, member}
use Rattle.serde_json.specs.Find.{as_array, as_object}
use Rattle.serde_json.specs.View.{items_of, members_of}
use Rattle.json_profile.specs.declared.object.Member.{Member}
use Rattle.model.specs.Command.{Id, names}
use Rattle.model.specs.Map.{Map, entries, from_list, same_list}
use Rattle.model.specs.Profile.{is_ordered, is_special, members_ordered}
use Rattle.model.specs.Revision.{Rev}
use Rattle.commands.proofs.Rising.{rises-cons}
use Rattle.document_json.specs.Steps.{Checked, and_then, or_refused, refused}
use Rattle.document_json.specs.Each.{each}
use Rattle.document_json.specs.Identity.{id_named}
use Rattle.api_json.specs.TextLists.{are_texts, rev_in, texts_in}
use Rattle.document_json.specs.Lists.{values_of}
use Rattle.api_json.specs.NamedRevisions.{asked_in, member_pair, pairs_in, revs_named, texts_listed, texts_named}
use Rattle.document_json.proofs.Listings.{values_of-items_of}
use Rattle.document_json.specs.declared.fault.Reason.TheVariants as reason

-- ---- a check of each, of what a value says

pub listed-texts : (d : Data) (values : List Data) → Some (items_of values) ≡ as_array d → texts_in d ≡ (if are_texts values then Some values else None)
listed-texts d values h =
    ap (λ found. option_and_then (λ vs. if are_texts vs then Some vs else None) (option_map values_of found)) (sym h)
    ∙ ap (λ vs. if are_texts vs then Some vs else None) (values_of-items_of values)

pub each-map : {X Y Z : Type 0} (check : Y → Checked Z) (f : X → Y) (xs : List X) → each (λ x. check (f x)) xs ≡ each check (map f xs)
each-map check f [] = refl
each-map check f (x ∷ xs) = ap (λ rest. and_then (check (f x)) (λ z. and_then rest (λ zs. Ok (z ∷ zs)))) (each-map check f xs)

pub pairs_in-members_of : (ms : List Member) → pairs_in (members_of (map (λ m. (m.name, m.value)) ms)) ≡ map member_pair ms
pairs_in-members_of [] = refl
pairs_in-members_of (m ∷ ms) = ap (λ ps. member_pair m ∷ ps) (pairs_in-members_of ms)

-- ---- what is kept by a check of each

abbrev value_or : {X : Type 0} → X → Checked X → X
value_or x (Ok y) = y
value_or x (Err why) = x

pub same_ok : {X : Type 0} (x y : X) → ◌≡◌ {A = Checked X} (Ok x) (Ok y) → x ≡ y
same_ok x y h = ap (λ c. value_or x c) h

abbrev is_ok : {X : Type 0} → Checked X → Bool
is_ok (Ok x) = true
is_ok (Err why) = false

-- what was found first, where all is found
pub parts : {X Y : Type 0} (first : Checked X) (next : X → Checked Y) (y : Y) → and_then first next ≡ Ok y → (x : X) × ((first ≡ Ok x) × (next x ≡ Ok y))
parts (Ok x) next y h = (x, (refl, h))
parts (Err why) next y h = absurd (subst T (sym (ap is_ok h)) tt)

pub each-keys : {K X Y : Type 0} (check : X → Checked Y) (of_x : X → K) (of_y : Y → K) → ((x : X) (y : Y) → check x ≡ Ok y → of_y y ≡ of_x x)
    → (xs : List X) (ys : List Y) → each check xs ≡ Ok ys → map of_y ys ≡ map of_x xs
each-keys check of_x of_y keeps [] ys h = ap (λ zs. map of_y zs) (sym (same_ok [] ys h))
each-keys check of_x of_y keeps (x ∷ xs) ys h =
    let first = parts (check x) (λ y. and_then (each check xs) (λ zs. Ok (y ∷ zs))) ys h in
    let rest = parts (each check xs) (λ zs. Ok (first.0 ∷ zs)) ys first.1.1 in
    ap (λ zs. map of_y zs) (sym (same_ok (first.0 ∷ rest.0) ys rest.1.1))
    ∙ ap (λ k. k ∷ map of_y rest.0) (keeps x first.0 first.1.0)
    ∙ ap (λ ks. of_x x ∷ ks) (each-keys check of_x of_y keeps xs rest.0 rest.1.0)

listed-key : (pair : List ℕ × Data) (listed : List ℕ × List Data) → texts_listed pair ≡ Ok listed → listed.0 ≡ pair.0
listed-key pair listed h =
    let found = parts (or_refused (texts_in pair.1) reason.Shape) (λ texts. Ok (pair.0, texts)) listed h in
    ap (λ l. l.0) (sym (same_ok (pair.0, found.0) listed found.1.1))

pub id-text : (text id : List ℕ) → id_named text ≡ Ok id → id ≡ text
id-text text id h = at ((length text == 0) || nat_lt 512 (length text) || is_special text) h
  where
    at : (test : Bool) → ◌≡◌ {A = Checked (List ℕ)} (if test then refused reason.Id else Ok text) (Ok id) → id ≡ text
    at true h = absurd (subst T (sym (ap is_ok h)) tt)
    at false h = sym (same_ok text id h)

named-key : (listed : List ℕ × List Data) (named : Id × List Data) → texts_named listed ≡ Ok named → named.0 ≡ listed.0
named-key listed named h =
    let found = parts (id_named listed.0) (λ id. Ok (id, listed.1)) named h in
    ap (λ n. n.0) (sym (same_ok (found.0, listed.1) named found.1.1)) ∙ id-text listed.0 found.0 found.1.0

revs-key : (named : Id × List Data) (asked : Id × List Rev) → revs_named named ≡ Ok asked → asked.0 ≡ named.0
revs-key named asked h =
    let found = parts (each rev_in named.1) (λ revs. Ok (named.0, revs)) asked h in
    ap (λ a. a.0) (sym (same_ok (named.0, found.0) asked found.1.1))

asked-keys : (pairs : List (List ℕ × Data)) (asked : List (Id × List Rev)) → asked_in pairs ≡ Ok asked → map (λ a. a.0) asked ≡ map (λ p. p.0) pairs
unfolding asked_in
asked-keys pairs asked h =
    let listed = parts (each texts_listed pairs) (λ listed. and_then (each texts_named listed) (λ named. each revs_named named)) asked h in
    let named = parts (each texts_named listed.0) (λ named. each revs_named named) asked listed.1.1 in
    each-keys revs_named (λ n. n.0) (λ a. a.0) revs-key named.0 asked named.1.1
    ∙ each-keys texts_named (λ l. l.0) (λ n. n.0) named-key listed.0 named.0 named.1.0
    ∙ each-keys texts_listed (λ p. p.0) (λ l. l.0) listed-key pairs listed.0 listed.1.0

-- ---- an object in order

pub object-ordered : (d : Data) (ms : Members) → is_ordered d ≡ true → Some ms ≡ as_object d → members_ordered ms ≡ true
object-ordered null ms h is = absurd (subst T (ap is_some is) tt)
object-ordered (boolean b) ms h is = absurd (subst T (ap is_some is) tt)
object-ordered (number n) ms h is = absurd (subst T (ap is_some is) tt)
object-ordered (string s) ms h is = absurd (subst T (ap is_some is) tt)
object-ordered (array ds) ms h is = absurd (subst T (ap is_some is) tt)
object-ordered (object inside) ms h is = ap members_ordered (ap (λ found. unwrap_or found ms) is) ∙ h

-- ---- ids that rise

abbrev pub below_ids : Id → List Id → Bool
below_ids id [] = true
below_ids id (next ∷ ids) = is_lt (names.cmp id next) && below_ids id ids

abbrev pub rising_ids : List Id → Bool
rising_ids [] = true
rising_ids (id ∷ ids) = below_ids id ids && rising_ids ids

below-ids : {X : Type 0} (id : Id) (es : List (Id × X)) → below_all names.cmp id es ≡ below_ids id (map (λ e. e.0) es)
below-ids id [] = refl
below-ids id (e ∷ es) = ap (λ rest. is_lt (names.cmp id e.0) && rest) (below-ids id es)

pub sorted-ids : {X : Type 0} (es : List (Id × X)) → is_sorted names.cmp es ≡ rising_ids (map (λ e. e.0) es)
sorted-ids [] = refl
sorted-ids (e ∷ es) = ap (λ first. first && is_sorted names.cmp es) (below-ids e.0 es) ∙ ap (λ rest. below_ids e.0 (map (λ e. e.0) es) && rest) (sorted-ids es)

is_less : (o : Ordering) → is_lt o ≡ true → o ≡ Less
is_less Less h = refl
is_less Equal h = absurd (subst T (sym h) tt)
is_less Greater h = absurd (subst T (sym h) tt)

pub pairs-rise : (ms : Members) → members_ordered ms ≡ true → T (is_sorted names.cmp (pairs_in ms))
pairs-rise no_members h = tt
pairs-rise (member k d no_members) h = tt
pairs-rise (member k d (member l e ms)) h =
    let last = and_parts _ _ h in
    let first = and_parts _ _ last.0 in
    rises-cons (k, d) (l, e) (pairs_in ms) (is_less (slice_cmp nat_cmp k l) first.0) (pairs-rise (member l e ms) last.1)

-- the members of an object come in order, and so do the documents
pub asked-rises : (ms : Members) (asked : List (Id × List Rev)) → members_ordered ms ≡ true → asked_in (pairs_in ms) ≡ Ok asked → T (is_sorted names.cmp asked)
asked-rises ms asked ordered h =
    subst T (sorted-ids (pairs_in ms) ∙ ap (λ ids. rising_ids ids) (sym (asked-keys (pairs_in ms) asked h)) ∙ sym (sorted-ids asked)) (pairs-rise ms ordered)

-- ---- the map of what rises

first_of : (a b : Bool) → T (a && b) → T a
first_of true b p = tt
first_of false b p = p

second_of : (a b : Bool) → T (a && b) → T b
second_of true b p = p
second_of false b p = absurd p

lt_less : (o : Ordering) → T (is_lt o) → o ≡ Less
lt_less Less p = refl
lt_less Equal p = absurd p
lt_less Greater p = absurd p

put-below : {X : Type 0} (e : Id × X) (es : List (Id × X)) → T (below_all names.cmp e.0 es) → put names.cmp e.0 e.1 es ≡ e ∷ es
put-below e [] h = refl
put-below e (f ∷ fs) h = ap (λ o. by_order o (e ∷ f ∷ fs) ((f.0, e.1) ∷ fs) (f ∷ put names.cmp e.0 e.1 fs)) (lt_less _ (first_of _ _ h))

pub rising-list : {X : Type 0} (es : List (Id × X)) → T (is_sorted names.cmp es) → entries {O = names} (from_list es) ≡ es
rising-list [] h = refl
rising-list (e ∷ es) h = ap (λ rest. put names.cmp e.0 e.1 rest) (rising-list es (second_of _ _ h)) ∙ put-below e es (first_of _ _ h)

pub rising-map : (asked : List (Id × List Rev)) (named : Map names (List Rev)) → T (is_sorted names.cmp asked) → entries named ≡ asked → from_list asked ≡ named
rising-map asked named rises is = same_list (from_list asked) named (rising-list asked rises ∙ sym is)
