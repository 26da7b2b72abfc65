-- How long the texts of documents are.
use Rattle.std.proofs.Common.{◌≡◌, ℕ, suc, ◌+◌, ◌^◌, ◌<◌, ◌≤◌, ◌/◌, ◌%◌, ◌==◌, Bool, true, false, List, [], ◌∷◌, ◌++◌, length, map, decimal, true≢false, rules, length-append, refl, sym, ap, ◌∙◌, arith}
use Rattle.std.specs.Prelude.{codes, slice_index}
use Rattle.std.specs.Char.{is_ascii_digit}
use Rattle.std.specs.List.{list_all}
use Rattle.std.proofs.lemmas.Bool.{agree_below, agree_below_at, and_from}
use Rattle.std.proofs.lemmas.Bool.Decides.{nat_tests}
use Rattle.std.proofs.lemmas.List.Elements.{All-weaker}
use Rattle.std.proofs.lemmas.List.Folds.{list_all-append}
use Rattle.std.proofs.lemmas.List.Sums.{list_all-from_AllPass, AllPass-from_list_all}
use Rattle.std.proofs.Math.Dec.{eqb-suc-zero}
use Rattle.std.proofs.lemmas.Fmt.{digits_decimal}
use Rattle.std.proofs.lemmas.Str.Parse.{IsNumeralModel, numerals_by_value}
use Rattle.std.specs.Str.Parse.{digits_value}
use Rattle.hex.specs.Hex.{IsBytes, encode_lower, encode_with, lower_digits}
use Rattle.hex.proofs.HexLemmas.{length-encode_with}
use Rattle.json.specs.Print.{escape, quoted}
use Rattle.json_profile.specs.Joined.{bare_text, between, front_of, back_of, has_member, join}
use Rattle.json_profile.proofs.Joined.{bare_text-join, members_text-bare, parts}
use Rattle.serde_json.specs.Data.{Data, Members, no_members, member, array, object, string}
use Rattle.serde_json.specs.View.{items_of}
use Rattle.serde_json.specs.Written.{compact_text, items_text}
use Rattle.serde_json.proofs.OnLiterals.{serde_json_on_literals}
use Rattle.model.specs.Body.{IsBody}
use Rattle.model.specs.Query.{Document}
use Rattle.model.specs.Revision.{Rev, IsRev, rev_text}
use Rattle.model.specs.declared.status.Status.{Status}
use Rattle.model.specs.declared.status.Status.TheVariants as status
use Rattle.document_json.specs.Lengths.{ancestor_members, conflict_members, naming_members}
use Rattle.document_json.specs.Text.{is_unescaped}
use Rattle.document_json.specs.Written.{document_data, flag_member, hash_data, info_data, rev_data, revisions_data, revs_member, special_members, start_of, status_name}
use Rattle.document_json.proofs.Specials.{document-special, has_member-special}
use Rattle.document_json.proofs.Strings.{quoted-unescaped}

-- ---- lists

-- each text with the comma or bracket behind it
abbrev pub closed_len : List Data → ℕ
closed_len [] = 0
closed_len (d ∷ ds) = (length (compact_text d) + 1) + closed_len ds

pub closed_len-push : (ds : List Data) (d : Data) → closed_len (ds ++ d ∷ []) ≡ closed_len ds + (length (compact_text d) + 1)
closed_len-push [] d = omega arith
closed_len-push (e ∷ ds) d = let more = closed_len-push ds d in omega (arith, more)

length-rest : (ds : List Data) → length (items_text true (items_of ds)) ≡ 1 + closed_len ds
length-rest [] = refl
length-rest (d ∷ ds) =
    let later = length-rest ds in
    let size = length-append (compact_text d) (items_text true (items_of ds)) in
    omega (arith, later, size)

pub length-list : (ds : List Data) → length ds == 0 ≡ false → length (compact_text (array (items_of ds))) ≡ 1 + closed_len ds
length-list [] some = absurd (true≢false some)
length-list (d ∷ ds) some =
    let later = length-rest ds in
    let size = length-append (compact_text d) (items_text true (items_of ds)) in
    omega (arith, later, size)

pub list-length-empty : {X : Type 0} (of : X → Data) (xs : List X) → length xs == 0 ≡ true → 2 ≡ length (compact_text (array (items_of (map of xs))))
list-length-empty of [] none = refl
list-length-empty of (x ∷ xs) none = absurd (true≢false (sym none ∙ eqb-suc-zero (length xs)))

-- ---- members

-- the comma, the name and the colon, and the value
pub length-member : (k : List ℕ) (d : Data) → length (bare_text true (member k d no_members)) ≡ (length (quoted k) + length (compact_text d)) + 2
length-member k d =
    let value = length-append (compact_text d) [] in
    let name = length-append (quoted k) (58 ∷ (compact_text d ++ [])) in
    omega (arith, value, name)

pub length-join : (ms ns : Members) → length (bare_text true (join ms ns)) ≡ length (bare_text true ms) + length (bare_text true ns)
length-join ms ns = ap length (bare_text-join true ms ns) ∙ length-append (bare_text true ms) (bare_text true ns)

-- one comma less stands before the first
length-first : (ms : Members) → has_member ms ≡ true → length (bare_text true ms) ≡ 1 + length (bare_text false ms)
length-first no_members some = absurd (true≢false (sym some))
length-first (member k d ms) some = omega arith

length-object : (ms : Members) → has_member ms ≡ true → length (compact_text (object ms)) ≡ 1 + length (bare_text true ms)
length-object ms some =
    let closed = ap length (members_text-bare false ms) in
    let size = length-append (bare_text false ms) (125 ∷ []) in
    let first = length-first ms some in
    omega (arith, closed, size, first)

-- ---- a document

has_member-join : (ms ns : Members) → has_member ns ≡ true → has_member (join ms ns) ≡ true
has_member-join no_members ns some = some
has_member-join (member k d ms) ns some = refl

has_member-before : (ms ns : Members) → has_member ms ≡ true → has_member (join ms ns) ≡ true
has_member-before no_members ns some = absurd (true≢false (sym some))
has_member-before (member k d ms) ns some = refl

pub document-length : (d : Document) → IsBody d.body → length (compact_text (document_data d)) ≡ length (bare_text true (special_members d)) + (1 + length (bare_text true d.body))
document-length d is =
    let s = special_members d in
    let f = front_of d.body in
    let b = back_of d.body in
    let text = ap (λ v. length (compact_text v)) (document-special d is) in
    let some : has_member (between d.body s) ≡ true = has_member-join f (join s b) (has_member-before s b (has_member-special d)) in
    let whole = length-object (between d.body s) some in
    let outer = length-join f (join s b) in
    let inner = length-join s b in
    let body = length-join f b in
    let same = ap (λ ms. length (bare_text true ms)) (parts d.body) in
    omega (arith, text, whole, outer, inner, body, same)

-- the groups of the special members
pub special-length : (d : Document) → length (bare_text true (special_members d))
    ≡ (length (bare_text true (conflict_members d)) + length (bare_text true (naming_members d))) + length (bare_text true (ancestor_members d))
special-length d =
    let c = revs_member (codes "_conflicts") d.conflicts in
    let x = flag_member d.deleted in
    let e = revs_member (codes "_deleted_conflicts") d.deleted_conflicts in
    let n = naming_members d in
    let a = ancestor_members d in
    let whole = length-join c (join x (join e (join n a))) in
    let second = length-join x (join e (join n a)) in
    let third = length-join e (join n a) in
    let fourth = length-join n a in
    let conflicts = length-join c (join e x) in
    let deleted = length-join e x in
    omega (arith, whole, second, third, fourth, conflicts, deleted)

pub length-naming : (d : Document) → length (bare_text true (naming_members d))
    ≡ length (bare_text true (member (codes "_id") (string d.id) no_members)) + length (bare_text true (member (codes "_rev") (rev_data d.rev) no_members))
length-naming d = length-join (member (codes "_id") (string d.id) no_members) (member (codes "_rev") (rev_data d.rev) no_members)

pub length-conflicts : (d : Document) → length (bare_text true (conflict_members d))
    ≡ length (bare_text true (revs_member (codes "_conflicts") d.conflicts)) + (length (bare_text true (revs_member (codes "_deleted_conflicts") d.deleted_conflicts)) + length (bare_text true (flag_member d.deleted)))
length-conflicts d =
    let e = revs_member (codes "_deleted_conflicts") d.deleted_conflicts in
    let x = flag_member d.deleted in
    let outer = length-join (revs_member (codes "_conflicts") d.conflicts) (join e x) in
    let inner = length-join e x in
    omega (arith, outer, inner)

-- `,"_deleted":true`
pub length-deleted : (deleted : Bool) → deleted ≡ true → 16 ≡ length (bare_text true (flag_member deleted))
unfolding serde_json_on_literals
length-deleted true is = refl
length-deleted false is = absurd (true≢false (sym is))

pub length-not_deleted : (deleted : Bool) → deleted ≡ false → 0 ≡ length (bare_text true (flag_member deleted))
length-not_deleted true is = absurd (true≢false is)
length-not_deleted false is = refl

-- ---- a body

length-quoted : (k : List ℕ) → 2 ≤ length (quoted k)
length-quoted k = omega (arith, length-append (escape k) (34 ∷ []))

pub body-length : (body : Members) → (length (compact_text (object body)) ≡ 2 → 1 ≡ 1 + length (bare_text true body))
    × ((length (compact_text (object body)) ≡ 2 → ⊥) → length (compact_text (object body)) ≡ 1 + length (bare_text true body))
body-length no_members = (λ two. refl, λ not_two. absurd (not_two refl))
body-length (member k d ms) =
    let whole = length-object (member k d ms) refl in
    let name = length-append (quoted k) (58 ∷ (compact_text d ++ bare_text true ms)) in
    let some = length-quoted k in
    (λ two. absurd (omega (arith, whole, name, some, two)), λ not_two. whole)

-- ---- revisions

digit_unescaped : (b : ℕ) → is_ascii_digit b ≡ true → is_unescaped b ≡ true
digit_unescaped b h = grind (arith, nat_tests)

hex_below : agree_below (λ d. is_unescaped (slice_index lower_digits d)) (λ d. true) 16 ≡ true
hex_below = refl

pub hex_unescaped : (hash : List ℕ) → IsBytes hash → list_all is_unescaped (encode_lower hash) ≡ true
unfolding encode_with
hex_unescaped [] bytes = refl
hex_unescaped (b ∷ hash) bytes =
    let small = bytes 0 in
    let high = agree_below_at (λ d. is_unescaped (slice_index lower_digits d)) (λ d. true) 16 (b / 16) hex_below (omega (arith, small)) in
    let low = agree_below_at (λ d. is_unescaped (slice_index lower_digits d)) (λ d. true) 16 (b % 16) hex_below (omega arith) in
    and_from _ _ high (and_from _ _ low (hex_unescaped hash (λ i. bytes (suc i))))

own : IsNumeralModel (λ ds. list_all is_ascii_digit ds ≡ true) (digits_value 10)
own = numerals_by_value _ (search rules)

pub number_unescaped : (n : ℕ) → n < 2 ^ 64 → list_all is_unescaped (decimal n) ≡ true
number_unescaped n small =
    list_all-from_AllPass is_unescaped (decimal n) (All-weaker (λ b. is_ascii_digit b ≡ true) (λ b. is_unescaped b ≡ true) digit_unescaped (decimal n)
    (AllPass-from_list_all is_ascii_digit (decimal n) (digits_decimal own n small)))

pub rev_unescaped : (rev : Rev) → IsRev rev → list_all is_unescaped (rev_text rev) ≡ true
rev_unescaped rev h =
    let top = h.in_range in
    let small : rev.generation < 2 ^ 64 = omega arith in
    list_all-append is_unescaped (decimal rev.generation) (45 ∷ encode_lower rev.hash)
    ∙ and_from _ _ (number_unescaped rev.generation small) (hex_unescaped rev.hash h.bytes)

-- nothing is escaped, so only the quotes come to it
pub length-unescaped : (s : List ℕ) → list_all is_unescaped s ≡ true → length (quoted s) ≡ length s + 2
length-unescaped s h =
    let size = length-append s (34 ∷ []) in
    let whole = ap length (quoted-unescaped s h) in
    omega (arith, size, whole)

pub length-hash : (rev : Rev) → IsRev rev → length (compact_text (hash_data rev)) ≡ 34
length-hash rev h =
    let whole = length-unescaped (encode_lower rev.hash) (hex_unescaped rev.hash h.bytes) in
    let hex = length-encode_with lower_digits rev.hash in
    let size = h.size in
    omega (arith, whole, hex, size)

pub length-rev : (rev : Rev) → IsRev rev → length (compact_text (rev_data rev)) ≡ length (decimal rev.generation) + 35
length-rev rev h =
    let whole = length-unescaped (rev_text rev) (rev_unescaped rev h) in
    let text = length-append (decimal rev.generation) (45 ∷ encode_lower rev.hash) in
    let hex = length-encode_with lower_digits rev.hash in
    let size = h.size in
    omega (arith, whole, text, hex, size)

path-parts : (revs : List Rev)
    → codes "{\"ids\":" ++ (compact_text (array (items_of (map hash_data revs))) ++ (codes ",\"start\":" ++ (decimal (start_of revs) ++ codes "}"))) ≡ compact_text (revisions_data revs)
unfolding serde_json_on_literals
path-parts revs = refl

pub length-path : (revs : List Rev) → length (compact_text (revisions_data revs)) ≡ length (compact_text (array (items_of (map hash_data revs)))) + (length (decimal (start_of revs)) + 17)
length-path revs =
    let hashes = compact_text (array (items_of (map hash_data revs))) in
    let digits = decimal (start_of revs) in
    let whole = ap length (path-parts revs) in
    let behind = length-append hashes (codes ",\"start\":" ++ (digits ++ codes "}")) in
    let last = length-append digits (codes "}") in
    omega (arith, whole, behind, last)

-- no byte of a name of a status is escaped
status-unescaped : (s : Status) → list_all is_unescaped (status_name s) ≡ true
status-unescaped status.Available = refl
status-unescaped status.IsDeleted = refl
status-unescaped status.NoBody = refl

info-parts : (info : Rev × Status)
    → codes "{\"rev\":" ++ (compact_text (rev_data info.0) ++ (codes ",\"status\":" ++ (quoted (status_name info.1) ++ codes "}"))) ≡ compact_text (info_data info)
unfolding serde_json_on_literals
info-parts info = refl

pub length-info : (info : Rev × Status) → length (compact_text (info_data info)) ≡ length (compact_text (rev_data info.0)) + (length (status_name info.1) + 20)
length-info info =
    let rev = compact_text (rev_data info.0) in
    let name = quoted (status_name info.1) in
    let whole = ap length (info-parts info) in
    let behind = length-append rev (codes ",\"status\":" ++ (name ++ codes "}")) in
    let last = length-append name (codes "}") in
    let own = length-unescaped (status_name info.1) (status-unescaped info.1) in
    omega (arith, whole, behind, last, own)

pub short_status : (s : Status) → length (status_name s) ≤ 9
short_status status.Available = omega arith
short_status status.IsDeleted = omega arith
short_status status.NoBody = omega arith
