-- What is read is in order, and stays so without the special members.
use Rattle.std.proofs.Common.{◌≡◌, ℕ, List, Bool, true, ◌&&◌, Option, Some, None, option_map, option_and_then, Ordering, Less, Equal, Greater, nat_cmp, refl, ap, ◌∙◌, subst}
use Rattle.std.specs.Prelude.{⊤}
use Rattle.std.proofs.lemmas.Bool.{and_from}
use Rattle.std.proofs.lemmas.Cmp.{nat_list_cmp_total}
use Rattle.std.specs.Ordering.{is_lt, match_ordering, ordering_reverse}
use Rattle.std.specs.Cmp.Lexicographic.{slice_cmp}
use Rattle.json.specs.Lex.{tokens}
use Rattle.json.specs.Json as json
use Rattle.serde_json.specs.Data.{Data, item, number, object, array, Members, no_members, member, put}
use Rattle.serde_json.specs.Read.{read, of_json, of_items, of_members, number_of, max_depth}
use Rattle.model.specs.Profile.{is_before, is_ordered, items_ordered, members_ordered}
use Rattle.model.proofs.ProfileLaws.{first_of, value_of, rest_of}

-- ---- a member that is put into its place

is_before-put_at : (o : Ordering) (l k m : List ℕ) (d e : Data) (ms : Members) → is_lt (slice_cmp nat_cmp l k) ≡ true → is_lt (slice_cmp nat_cmp l m) ≡ true
    → is_before l (match_ordering o (member k d (member m e ms)) (member m d ms) (member m e (put k d ms))) ≡ true
is_before-put_at Less l k m d e ms new old = new
is_before-put_at Equal l k m d e ms new old = old
is_before-put_at Greater l k m d e ms new old = old

is_before-put : (l k : List ℕ) (d : Data) (ms : Members) → is_lt (slice_cmp nat_cmp l k) ≡ true → is_before l ms ≡ true → is_before l (put k d ms) ≡ true
is_before-put l k d no_members new old = new
is_before-put l k d (member m e ms) new old = is_before-put_at (slice_cmp nat_cmp k m) l k m d e ms new old

pub ordered_from : (k : List ℕ) (d : Data) (ms : Members) → is_before k ms ≡ true → is_ordered d ≡ true → members_ordered ms ≡ true → members_ordered (member k d ms) ≡ true
ordered_from k d ms p q r = and_from (is_before k ms && is_ordered d) (members_ordered ms) (and_from (is_before k ms) (is_ordered d) p q) r

members_ordered-put_at : (o : Ordering) (k l : List ℕ) (d e : Data) (ms : Members) → slice_cmp nat_cmp k l ≡ o → is_ordered d ≡ true → members_ordered (member l e ms) ≡ true
    → members_ordered (put k d ms) ≡ true
    → members_ordered (match_ordering o (member k d (member l e ms)) (member l d ms) (member l e (put k d ms))) ≡ true
members_ordered-put_at Less k l d e ms is new old later = ordered_from k d (member l e ms) (ap is_lt is) new old
members_ordered-put_at Equal k l d e ms is new old later = ordered_from l d ms (first_of l e ms old) new (rest_of l e ms old)
members_ordered-put_at Greater k l d e ms is new old later =
    let above : slice_cmp nat_cmp l k ≡ Less = nat_list_cmp_total.antisymm l k ∙ ap ordering_reverse is in
    ordered_from l e (put k d ms) (is_before-put l k d ms (ap is_lt above) (first_of l e ms old)) (value_of l e ms old) later

pub members_ordered-put : (k : List ℕ) (d : Data) (ms : Members) → is_ordered d ≡ true → members_ordered ms ≡ true → members_ordered (put k d ms) ≡ true
members_ordered-put k d no_members new old = ordered_from k d no_members refl new refl
members_ordered-put k d (member l e ms) new old = members_ordered-put_at _ k l d e ms refl new old (members_ordered-put k d ms new (rest_of l e ms old))

-- ---- a text is read in order

abbrev Keeps : {A : Type 0} → (A → Bool) → Option A → Type 0
Keeps f None = ⊤
Keeps f (Some a) = f a ≡ true

Keeps-map : {A B : Type 0} (f : A → Bool) (g : B → Bool) (h : A → B) → ((a : A) → f a ≡ true → g (h a) ≡ true) → (o : Option A) → Keeps f o → Keeps g (option_map h o)
Keeps-map f g h k None x = tt
Keeps-map f g h k (Some a) x = k a x

Keeps-and_then : {A B : Type 0} (f : A → Bool) (g : B → Bool) (h : A → Option B) → ((a : A) → f a ≡ true → Keeps g (h a)) → (o : Option A) → Keeps f o → Keeps g (option_and_then h o)
Keeps-and_then f g h k None x = tt
Keeps-and_then f g h k (Some a) x = k a x

any : {A : Type 0} (o : Option A) → Keeps (λ _. true) o
any None = tt
any (Some a) = refl

mutual
  ordered-of_json : (j : json.Json) → Keeps is_ordered (of_json j)
  ordered-of_json json.null = refl
  ordered-of_json (json.boolean b) = refl
  ordered-of_json (json.number s) = Keeps-map (λ _. true) is_ordered number (λ a x. refl) (number_of s) (any _)
  ordered-of_json (json.string s) = refl
  ordered-of_json (json.array js) = Keeps-map items_ordered is_ordered array (λ a x. x) _ (ordered-of_items js)
  ordered-of_json (json.object ms) = Keeps-map members_ordered is_ordered object (λ a x. x) _ (ordered-of_members ms no_members refl)

  ordered-of_items : (js : json.Items) → Keeps items_ordered (of_items js)
  ordered-of_items json.no_items = refl
  ordered-of_items (json.item j js) =
      Keeps-and_then is_ordered items_ordered _ (λ d x. Keeps-map items_ordered items_ordered (item d) (λ ds y. and_from (is_ordered d) (items_ordered ds) x y) _ (ordered-of_items js)) _ (ordered-of_json j)

  ordered-of_members : (ms : json.Members) (found : Members) → members_ordered found ≡ true → Keeps members_ordered (of_members ms found)
  ordered-of_members json.no_members found h = h
  ordered-of_members (json.member name j ms) found h =
      Keeps-and_then is_ordered members_ordered _ (λ d x. ordered-of_members ms (put name d found) (members_ordered-put name d found x h)) _ (ordered-of_json j)

pub read_in_order : (text : List ℕ) (d : Data) → read text ≡ Some d → is_ordered d ≡ true
read_in_order text d is = subst (Keeps is_ordered) is (Keeps-and_then (λ _. true) is_ordered of_json (λ j x. ordered-of_json j) (option_and_then (λ p. json.if_last p.0 p.1) (json.value max_depth (tokens text))) (any _))
