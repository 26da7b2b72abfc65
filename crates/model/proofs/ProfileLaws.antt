-- Values of the profile: members in order, and texts that read back.
use Rattle.std.proofs.Common.{◌≡◌, ℕ, suc, ◌^◌, ◌<◌, ◌≤◌, pos, negsuc, List, [], ◌∷◌, ◌++◌, Bool, true, false, ◌&&◌, Option, Some, option_map, option_and_then, decimal, IsUtf8, Ordering, Less, Equal, Greater, nat_cmp, max, true≢false, refl, sym, ap, ap₂, ◌∙◌, subst, arith, append-nil}
use Rattle.std.proofs.lemmas.Bool.{and_parts, ltb-true}
use Rattle.std.proofs.lemmas.Cmp.{nat_list_cmp_total}
use Rattle.std.proofs.lemmas.Fmt.{IsAscii-decimal}
use Rattle.std.proofs.lemmas.Str.{IsUtf8-append, IsUtf8-from_is_utf8, IsUtf8-from_ascii}
use Rattle.std.specs.Cmp.Lexicographic.{slice_cmp}
use Rattle.std.specs.Ordering.{is_lt, ordering_reverse}
use Rattle.std.specs.Str.{is_utf8}
use Rattle.json.specs.Lex.{tokens}
use Rattle.json.specs.Json as json
use Rattle.json.specs.Print.{quoted, IsNumber}
use Rattle.json.specs.Token.{Token}
use Rattle.json.specs.Tree as tree
use Rattle.json.proofs.Printed.Decimals.{IsNumber-decimal, IsNumber-signed_decimal}
use Rattle.json.proofs.Printed.Tokens.{tokens-print}
use Rattle.json.proofs.Printed.Trees.{value-json_tokens, ArePrintable-json_tokens}
use Rattle.json.proofs.Printed.Utf8.{IsUtf8-are_ascii, IsUtf8-quoted, IsUtf8-boolean}
use Rattle.serde_json.specs.Data.{Num, unsigned, negative, float, Data, null, boolean, number, string, array, object, Items, no_items, item, Members, no_members, member, put, depth, items_depth, members_depth}
use Rattle.serde_json.specs.Read.{read, of_json, of_items, of_members, number_of, max_depth}
use Rattle.serde_json.specs.Written.{number_text, outline, items_outline, members_outline, comma_if, compact_text, items_text, members_text}
use Rattle.serde_json.proofs.Numbers.{number_of-decimal, number_of-negative}
use Rattle.serde_json.proofs.Texts.{print-outline}
use Rattle.model.specs.Profile.{IsTextOf, is_whole_number, is_whole, items_whole, members_whole, has_utf8, items_have_utf8, members_have_utf8, is_before, is_ordered, items_ordered, members_ordered}

-- ---- members in order

lt : (o : Ordering) → is_lt o ≡ true → o ≡ Less
lt Less h = refl
lt Equal h = absurd (true≢false (sym h))
lt Greater h = absurd (true≢false (sym h))

pub first_of : (k : List ℕ) (d : Data) (ms : Members) → members_ordered (member k d ms) ≡ true → is_before k ms ≡ true
first_of k d ms h = (and_parts (is_before k ms) (is_ordered d) (and_parts (is_before k ms && is_ordered d) (members_ordered ms) h).0).0

pub value_of : (k : List ℕ) (d : Data) (ms : Members) → members_ordered (member k d ms) ≡ true → is_ordered d ≡ true
value_of k d ms h = (and_parts (is_before k ms) (is_ordered d) (and_parts (is_before k ms && is_ordered d) (members_ordered ms) h).0).1

pub rest_of : (k : List ℕ) (d : Data) (ms : Members) → members_ordered (member k d ms) ≡ true → members_ordered ms ≡ true
rest_of k d ms h = (and_parts (is_before k ms && is_ordered d) (members_ordered ms) h).1

pub is_before-trans : (k l : List ℕ) (ms : Members) → is_lt (slice_cmp nat_cmp k l) ≡ true → is_before l ms ≡ true → is_before k ms ≡ true
is_before-trans k l no_members low h = refl
is_before-trans k l (member m e ms) low h = ap is_lt (nat_list_cmp_total.trans k l m (lt _ low) (lt _ h))

-- ---- members one after another

abbrev joined : Members → Members → Members
joined no_members ms = ms
joined (member k d found) ms = member k d (joined found ms)

joined_one : (found : Members) (k : List ℕ) (d : Data) (ms : Members) → joined (joined found (member k d no_members)) ms ≡ joined found (member k d ms)
joined_one no_members k d ms = refl
joined_one (member l e found) k d ms = ap (member l e) (joined_one found k d ms)

joined_none : (found : Members) → joined found no_members ≡ found
joined_none no_members = refl
joined_none (member k d found) = ap (member k d) (joined_none found)

-- the first comes before one in the middle
before_middle : (l : List ℕ) (found : Members) (k : List ℕ) (d : Data) (ms : Members) → is_before l (joined found (member k d ms)) ≡ true → members_ordered (joined found (member k d ms)) ≡ true
    → is_lt (slice_cmp nat_cmp l k) ≡ true
before_middle l no_members k d ms low h = low
before_middle l (member m e found) k d ms low h =
    before_middle l found k d ms (is_before-trans l m (joined found (member k d ms)) low (first_of m e (joined found (member k d ms)) h)) (rest_of m e (joined found (member k d ms)) h)

-- the next member goes last
put_next : (found : Members) (k : List ℕ) (d : Data) (ms : Members) → members_ordered (joined found (member k d ms)) ≡ true → put k d found ≡ joined found (member k d no_members)
put_next no_members k d ms h = refl
put_next (member l e found) k d ms h =
    let later = rest_of l e (joined found (member k d ms)) h in
    let low = before_middle l found k d ms (first_of l e (joined found (member k d ms)) h) later in
    let above : slice_cmp nat_cmp k l ≡ Greater = nat_list_cmp_total.antisymm k l ∙ ap ordering_reverse (lt _ low) in
    rw above (ap (member l e) (put_next found k d ms later))

value_in : (found : Members) (k : List ℕ) (d : Data) (ms : Members) → members_ordered (joined found (member k d ms)) ≡ true → is_ordered d ≡ true
value_in no_members k d ms o = value_of k d ms o
value_in (member l e found) k d ms o = value_in found k d ms (rest_of l e (joined found (member k d ms)) o)

-- ---- what is written reads back

reads_number : (n : Num) → is_whole_number n ≡ true → number_of (number_text n) ≡ Some n
reads_number (unsigned n) h = let low : n < 2 ^ 63 = ltb-true _ _ h in number_of-decimal n (omega arith)
reads_number (negative (pos n)) h = absurd (true≢false (sym h))
reads_number (negative (negsuc n)) h = number_of-negative n (ltb-true _ _ h)
reads_number (float x) h = absurd (true≢false (sym h))

mutual
  of_json-outline : (d : Data) → is_whole d ≡ true → is_ordered d ≡ true → of_json (outline d) ≡ Some d
  of_json-outline null w o = refl
  of_json-outline (boolean b) w o = refl
  of_json-outline (number n) w o = ap (option_map number) (reads_number n w)
  of_json-outline (string s) w o = refl
  of_json-outline (array ds) w o = ap (option_map array) (of_items-outline ds w o)
  of_json-outline (object ms) w o = ap (option_map object) (of_members-outline no_members ms w o)

  of_items-outline : (ds : Items) → items_whole ds ≡ true → items_ordered ds ≡ true → of_items (items_outline ds) ≡ Some ds
  of_items-outline no_items w o = refl
  of_items-outline (item d ds) w o =
      let whole_parts = and_parts (is_whole d) (items_whole ds) w in
      let order_parts = and_parts (is_ordered d) (items_ordered ds) o in
      rw (of_json-outline d whole_parts.0 order_parts.0, of_items-outline ds whole_parts.1 order_parts.1) refl

  of_members-outline : (found ms : Members) → members_whole ms ≡ true → members_ordered (joined found ms) ≡ true → of_members (members_outline ms) found ≡ Some (joined found ms)
  of_members-outline found no_members w o = ap Some (sym (joined_none found))
  of_members-outline found (member k d ms) w o =
      let whole_parts = and_parts (is_whole d) (members_whole ms) w in
      let read = of_json-outline d whole_parts.0 (value_in found k d ms o) in
      let next = subst (λ ns. members_ordered ns ≡ true) (sym (joined_one found k d ms)) o in
      ap (option_and_then (λ e. of_members (members_outline ms) (put k e found))) read
      ∙ ap (of_members (members_outline ms)) (put_next found k d ms o)
      ∙ of_members-outline (joined found (member k d no_members)) ms whole_parts.1 next
      ∙ ap Some (joined_one found k d ms)

writes_number : (n : Num) → is_whole_number n ≡ true → IsNumber (number_text n)
writes_number (unsigned n) h = let low : n < 2 ^ 63 = ltb-true _ _ h in IsNumber-decimal n (omega arith)
writes_number (negative (pos n)) h = absurd (true≢false (sym h))
writes_number (negative (negsuc n)) h = let low : n < 2 ^ 63 = ltb-true _ _ h in IsNumber-signed_decimal (negsuc n) (omega arith)
writes_number (float x) h = absurd (true≢false (sym h))

mutual
  HasNumbers-outline : (d : Data) → is_whole d ≡ true → tree.HasNumbers (outline d)
  HasNumbers-outline null w = tt
  HasNumbers-outline (boolean b) w = tt
  HasNumbers-outline (number n) w = writes_number n w
  HasNumbers-outline (string s) w = tt
  HasNumbers-outline (array ds) w = ItemsHaveNumbers-outline ds w
  HasNumbers-outline (object ms) w = MembersHaveNumbers-outline ms w

  ItemsHaveNumbers-outline : (ds : Items) → items_whole ds ≡ true → tree.ItemsHaveNumbers (items_outline ds)
  ItemsHaveNumbers-outline no_items w = tt
  ItemsHaveNumbers-outline (item d ds) w =
      let parts = and_parts (is_whole d) (items_whole ds) w in
      (HasNumbers-outline d parts.0, ItemsHaveNumbers-outline ds parts.1)

  MembersHaveNumbers-outline : (ms : Members) → members_whole ms ≡ true → tree.MembersHaveNumbers (members_outline ms)
  MembersHaveNumbers-outline no_members w = tt
  MembersHaveNumbers-outline (member k d ms) w =
      let parts = and_parts (is_whole d) (members_whole ms) w in
      (HasNumbers-outline d parts.0, MembersHaveNumbers-outline ms parts.1)

mutual
  depth-outline : (d : Data) → tree.depth (outline d) ≡ depth d
  depth-outline null = refl
  depth-outline (boolean b) = refl
  depth-outline (number n) = refl
  depth-outline (string s) = refl
  depth-outline (array ds) = ap suc (items_depth-outline ds)
  depth-outline (object ms) = ap suc (members_depth-outline ms)

  items_depth-outline : (ds : Items) → tree.items_depth (items_outline ds) ≡ items_depth ds
  items_depth-outline no_items = refl
  items_depth-outline (item d ds) = ap₂ max (depth-outline d) (items_depth-outline ds)

  members_depth-outline : (ms : Members) → tree.members_depth (members_outline ms) ≡ members_depth ms
  members_depth-outline no_members = refl
  members_depth-outline (member k d ms) = ap₂ max (depth-outline d) (members_depth-outline ms)

-- what a value and the tokens after it are read as
abbrev read_whole : Option (json.Json × List Token) → Option Data
read_whole o = option_and_then of_json (option_and_then (λ p. json.if_last p.0 p.1) o)

reads_back : (d : Data) → is_whole d ≡ true → is_ordered d ≡ true → depth d ≤ max_depth → read (compact_text d) ≡ Some d
reads_back d w o shallow =
    let written = tree.json_tokens (outline d) in
    let lexed : tokens (compact_text d) ≡ written = ap tokens (sym (print-outline d)) ∙ tokens-print written (ArePrintable-json_tokens (outline d) (HasNumbers-outline d w)) in
    ap read_whole (ap (json.value max_depth) (lexed ∙ sym (append-nil written)) ∙ value-json_tokens (outline d) max_depth [] (omega (arith, shallow, depth-outline d)))
    ∙ of_json-outline d w o

-- ---- in UTF-8

IsUtf8-comma_if : (later : Bool) → IsUtf8 (comma_if later)
IsUtf8-comma_if true = IsUtf8-are_ascii (44 ∷ []) refl
IsUtf8-comma_if false = IsUtf8-are_ascii [] refl

IsUtf8-number : (n : Num) → is_whole_number n ≡ true → IsUtf8 (number_text n)
IsUtf8-number (unsigned n) h = let low : n < 2 ^ 63 = ltb-true _ _ h in IsUtf8-from_ascii (decimal n) (IsAscii-decimal n (omega arith))
IsUtf8-number (negative (pos n)) h = absurd (true≢false (sym h))
IsUtf8-number (negative (negsuc n)) h =
    let low : n < 2 ^ 63 = ltb-true _ _ h in
    IsUtf8-append (45 ∷ []) (decimal (suc n)) (IsUtf8-are_ascii (45 ∷ []) refl) (IsUtf8-from_ascii (decimal (suc n)) (IsAscii-decimal (suc n) (omega arith)))
IsUtf8-number (float x) h = absurd (true≢false (sym h))

mutual
  IsUtf8-compact_text : (d : Data) → is_whole d ≡ true → has_utf8 d ≡ true → IsUtf8 (compact_text d)
  IsUtf8-compact_text null w u = IsUtf8-are_ascii _ refl
  IsUtf8-compact_text (boolean b) w u = IsUtf8-boolean b
  IsUtf8-compact_text (number n) w u = IsUtf8-number n w
  IsUtf8-compact_text (string s) w u = IsUtf8-quoted s (IsUtf8-from_is_utf8 s u)
  IsUtf8-compact_text (array ds) w u = IsUtf8-append (91 ∷ []) (items_text false ds) (IsUtf8-are_ascii (91 ∷ []) refl) (IsUtf8-items_text false ds w u)
  IsUtf8-compact_text (object ms) w u = IsUtf8-append (123 ∷ []) (members_text false ms) (IsUtf8-are_ascii (123 ∷ []) refl) (IsUtf8-members_text false ms w u)

  IsUtf8-items_text : (later : Bool) (ds : Items) → items_whole ds ≡ true → items_have_utf8 ds ≡ true → IsUtf8 (items_text later ds)
  IsUtf8-items_text later no_items w u = IsUtf8-are_ascii (93 ∷ []) refl
  IsUtf8-items_text later (item d ds) w u =
      let whole_parts = and_parts (is_whole d) (items_whole ds) w in
      let utf8_parts = and_parts (has_utf8 d) (items_have_utf8 ds) u in
      IsUtf8-append (comma_if later) (compact_text d ++ items_text true ds) (IsUtf8-comma_if later)
      (IsUtf8-append (compact_text d) (items_text true ds) (IsUtf8-compact_text d whole_parts.0 utf8_parts.0) (IsUtf8-items_text true ds whole_parts.1 utf8_parts.1))

  IsUtf8-members_text : (later : Bool) (ms : Members) → members_whole ms ≡ true → members_have_utf8 ms ≡ true → IsUtf8 (members_text later ms)
  IsUtf8-members_text later no_members w u = IsUtf8-are_ascii (125 ∷ []) refl
  IsUtf8-members_text later (member k d ms) w u =
      let whole_parts = and_parts (is_whole d) (members_whole ms) w in
      let utf8_parts = and_parts (is_utf8 k && has_utf8 d) (members_have_utf8 ms) u in
      let here = and_parts (is_utf8 k) (has_utf8 d) utf8_parts.0 in
      let value = IsUtf8-append (compact_text d) (members_text true ms) (IsUtf8-compact_text d whole_parts.0 here.1) (IsUtf8-members_text true ms whole_parts.1 utf8_parts.1) in
      IsUtf8-append (comma_if later) (quoted k ++ 58 ∷ (compact_text d ++ members_text true ms)) (IsUtf8-comma_if later)
      (IsUtf8-append (quoted k) (58 ∷ (compact_text d ++ members_text true ms)) (IsUtf8-quoted k (IsUtf8-from_is_utf8 k here.0))
      (IsUtf8-append (58 ∷ []) (compact_text d ++ members_text true ms) (IsUtf8-are_ascii (58 ∷ []) refl) value))

-- a value of the profile is what its text is read as
pub IsTextOf-compact_text : (d : Data) → is_whole d ≡ true → has_utf8 d ≡ true → is_ordered d ≡ true → depth d ≤ max_depth → IsTextOf d (compact_text d)
IsTextOf-compact_text d w u o shallow = (IsUtf8-compact_text d w u, reads_back d w o shallow)
