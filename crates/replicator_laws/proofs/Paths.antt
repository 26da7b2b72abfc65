-- Paths, and the ids in them.
use Rattle.std.proofs.Common.{◌≡◌, ◌≢◌, ℕ, ◌+◌, ◌-◌, ◌<◌, ◌≤◌, true, false, List, [], ◌∷◌, ◌++◌, length, get_or, drop, refl, sym, ap, ◌∙◌, arith, All, IsUtf8, length-append, suc}
use Rattle.std.specs.Prelude.{cond, not, ◌==◌, Some, None}
use Rattle.std.specs.List.{list_all}
use Rattle.std.specs.Str.{is_utf8}
use Rattle.std.proofs.lemmas.Bool.{and_from, lt-ltb, ne_eqb, not_from_false}
use Rattle.std.proofs.lemmas.Bool.Decides.{nat_tests}
use Rattle.std.proofs.Math.Seq.{drop-append-add, get_or-append_seam}
use Rattle.std.proofs.lemmas.List.{get_or-append_right}
use Rattle.std.proofs.lemmas.List.Elements.{All-get_or, All-weaker}
use Rattle.std.proofs.lemmas.List.Folds.{list_any_none}
use Rattle.std.proofs.lemmas.List.Sums.{AllPass-from_list_all, suffix_len_is}
use Rattle.std.proofs.lemmas.Str.{is_utf8-from_IsUtf8}
use Rattle.percent_encoding.specs.Percent.{percent_encode}
use Rattle.percent_encoding.proofs.PercentLemmas.{percent_encode_nonempty}
use Rattle.form_urlencoded.proofs.FormLemmas.{split_once_before_at, split_once_after_at, split_once_before_none, split_once_after_none}
use Rattle.http_routing.specs.Target.{path_of, query_of, last_segment, segment_text}
use Rattle.http_routing.specs.Routes.{is_segment}
use Rattle.http_client.specs.declared.target.TheConstants.{SEGMENT}
use Rattle.replicator_laws.proofs.Bytes.{IsPart, KeepsUnreserved, decoded-segment, segment_parts}

-- ---- where a path ends

pub path_before : (path query : List ℕ) → All (λ b. b ≢ 63) path → path_of (path ++ 63 ∷ query) ≡ path
path_before path query none = split_once_before_at 63 path query none

pub query_behind : (path query : List ℕ) → All (λ b. b ≢ 63) path → query_of (path ++ 63 ∷ query) ≡ query
query_behind path query none = split_once_after_at 63 path query none

pub path_alone : (path : List ℕ) → All (λ b. b ≢ 63) path → path_of path ≡ path
path_alone path none = split_once_before_none 63 path none

pub query_none : (path : List ℕ) → All (λ b. b ≢ 63) path → query_of path ≡ []
query_none path none = split_once_after_none 63 path none

other : (s b : ℕ) → not (b == s) ≡ true → b ≢ s
other s b h = λ e. grind (arith, nat_tests)

pub none_of : (s : ℕ) (bs : List ℕ) → list_all (λ b. not (b == s)) bs ≡ true → All (λ b. b ≢ s) bs
none_of s bs h = All-weaker (λ b. not (b == s) ≡ true) (λ b. b ≢ s) (other s) bs (AllPass-from_list_all (λ b. not (b == s)) bs h)

-- ---- the last segment

pub last-behind : (front segment : List ℕ) → All (λ b. b ≢ 47) segment → last_segment (front ++ 47 ∷ segment) ≡ segment
last-behind front segment none =
    let path = front ++ 47 ∷ segment in
    let n = length front + 1 in
    let size = length-append front (47 ∷ segment) in
    let inside : (k : ℕ) → n ≤ k → k < length path → not (get_or path k 0 == 47) ≡ true = λ k beyond within.
    let here : get_or path k 0 ≡ get_or (47 ∷ segment) (k - length front) 0 = get_or-append_right front (47 ∷ segment) (length front) k 0 refl (omega arith) in
    let place : k - length front ≡ suc (k - n) = omega arith in
    let byte : get_or path k 0 ≢ 47 = λ e. All-get_or (λ b. b ≢ 47) segment (k - n) 0 (omega (arith, size)) none (sym (here ∙ ap (λ (m : ℕ). get_or (47 ∷ segment) m 0) place) ∙ e) in
    ap not (ne_eqb (get_or path k 0) 47 byte) in
    let stop : 0 < n → not (get_or path (n - 1) 0 == 47) ≡ false = λ _.
    let place : n - 1 ≡ length front = omega arith in
    ap (λ (m : ℕ). not (get_or path m 0 == 47)) place ∙ ap (λ (b : ℕ). not (b == 47)) (get_or-append_seam front 47 segment 0) in
    let count = suffix_len_is (λ b. not (b == 47)) path n 0 (omega (arith, size)) inside stop in
    let start : length path - (length path - n) ≡ n = omega (arith, size) in
    ap (λ (m : ℕ). drop (length path - m) path) count ∙ ap (λ (m : ℕ). drop m path) start ∙ drop-append-add front (47 ∷ segment) 1

-- ---- the segment of an id

pub no_question : KeepsUnreserved → (id : List ℕ) → All (λ b. b ≢ 63) (percent_encode SEGMENT id)
no_question keeps id = All-weaker IsPart (λ b. b ≢ 63) (λ b h. h.question) (percent_encode SEGMENT id) (segment_parts keeps id)

pub no_slash : KeepsUnreserved → (id : List ℕ) → All (λ b. b ≢ 47) (percent_encode SEGMENT id)
no_slash keeps id = All-weaker IsPart (λ b. b ≢ 47) (λ b h. h.slash) (percent_encode SEGMENT id) (segment_parts keeps id)

pub segment-text : (id : List ℕ) → IsUtf8 id → segment_text (percent_encode SEGMENT id) ≡ Some id
segment-text id text =
    ap (λ t. cond (is_utf8 t) (Some t) None) (decoded-segment id text) ∙ ap (λ b. cond b (Some id) None) (is_utf8-from_IsUtf8 id text)

pub is_one_segment : KeepsUnreserved → (id : List ℕ) → 0 < length id → is_segment (percent_encode SEGMENT id) ≡ true
is_one_segment keeps id some =
    let segment = percent_encode SEGMENT id in
    and_from _ _ (lt-ltb 0 (length segment) (percent_encode_nonempty SEGMENT id some))
    (not_from_false _ (list_any_none (λ b. b == 47) segment (All-weaker (λ b. b ≢ 47) (λ b. (b == 47) ≡ false) (λ b h. ne_eqb b 47 h) segment (no_slash keeps id))))
