-- The targets of the requests, and what is read of them.
use Rattle.std.proofs.Common.{◌≡◌, ℕ, ◌^◌, ◌<◌, ◌≤◌, true, List, [], ◌∷◌, ◌++◌, length, decimal, refl, sym, ap, ◌∙◌, arith, All, IsUtf8, length-append, append_assoc, subst, lit<, lit≤, ◌≢◌}
use Rattle.std.specs.Prelude.{codes, nat_le, nat_lt, ◌&&◌}
use Rattle.std.specs.Char.{is_ascii_digit}
use Rattle.std.specs.List.{list_all, AllPass}
use Rattle.std.proofs.lemmas.Bool.{and_parts, cond-true, leb-true, lt-ltb, ltb-true}
use Rattle.std.proofs.lemmas.Bool.Decides.{nat_tests}
use Rattle.std.proofs.lemmas.Fmt.{IsAscii-decimal, length-decimal-le}
use Rattle.std.proofs.lemmas.List.Elements.{All-append, All-cons, All-head, All-nil, All-tail, All-weaker}
use Rattle.std.proofs.lemmas.List.Sums.{AllPass-from_list_all}
use Rattle.std.proofs.lemmas.Str.{IsUtf8-from_ascii}
use Rattle.std.proofs.lemmas.Str.Ascii.{IsAscii-from_all}
use Rattle.percent_encoding.specs.Percent.{percent_encode}
use Rattle.form_urlencoded.specs.Form.{byte_serialize, extend_pairs, is_unchanged, separator}
use Rattle.form_urlencoded.proofs.FormLemmas.{byte_serialize-cons, byte_serialize-nil}
use Rattle.http_routing.specs.Query.{parameters_of}
use Rattle.http_routing.specs.Target.{path_of, query_of}
use Rattle.http_client.specs.Target.{changes_target, local_target, open_revs_query, open_revs_target}
use Rattle.http_client.specs.declared.target.TheConstants.{SEGMENT}
use Rattle.replicator_laws.specs.Framing.{IsTarget}
use Rattle.replicator_laws.proofs.Bytes.{IsInk, IsPart, KeepsUnreserved, bytes_of_text, length-segment, length-serialized, part_ink, segment_parts, serialized_all, target_of}
use Rattle.replicator_laws.proofs.Heads.{digits}
use Rattle.replicator_laws.proofs.Paths.{no_question, none_of, path_alone, path_before, query_behind, query_none}
use Rattle.replicator_laws.proofs.Queries.{AreTexts, read_pairs}

-- ---- the bytes of literals and numbers

in_range : (b : ℕ) → (nat_le 33 b && nat_le b 126) ≡ true → IsInk b
in_range b h = let parts = and_parts _ _ h in (leb-true 33 b parts.0, leb-true b 126 parts.1)

pub ink : (bs : List ℕ) → list_all (λ b. nat_le 33 b && nat_le b 126) bs ≡ true → All IsInk bs
ink bs h = All-weaker (λ b. (nat_le 33 b && nat_le b 126) ≡ true) IsInk in_range bs (AllPass-from_list_all (λ b. nat_le 33 b && nat_le b 126) bs h)

digit_ink : (b : ℕ) → is_ascii_digit b ≡ true → IsInk b
digit_ink b h = (grind (arith, nat_tests), grind (arith, nat_tests))

pub decimal_ink : (n : ℕ) → n < 2 ^ 64 → All IsInk (decimal n)
decimal_ink n small = All-weaker (λ b. is_ascii_digit b ≡ true) IsInk digit_ink (decimal n) (digits n small)

-- ---- texts

pub ascii : (bs : List ℕ) → list_all (λ b. nat_lt b 128) bs ≡ true → IsUtf8 bs
ascii bs h = IsUtf8-from_ascii bs (IsAscii-from_all bs (All-weaker (λ b. nat_lt b 128 ≡ true) (λ b. b < 128) (λ b t. ltb-true b 128 t) bs (AllPass-from_list_all (λ b. nat_lt b 128) bs h)))

pub decimal_text : (n : ℕ) → n < 2 ^ 64 → IsUtf8 (decimal n)
decimal_text n small = IsUtf8-from_ascii (decimal n) (IsAscii-decimal n small)

-- ---- the changes

abbrev pub changes_pairs : ℕ → ℕ → List (List ℕ × List ℕ)
changes_pairs since limit = (codes "style", codes "all_docs") ∷ (codes "since", decimal since) ∷ (codes "limit", decimal limit) ∷ []

pub unchanged : (bs : List ℕ) → AllPass is_ascii_digit bs → byte_serialize bs ≡ bs
unchanged [] h = byte_serialize-nil
unchanged (b ∷ bs) h =
    byte_serialize-cons b bs
    ∙ ap (λ x. x ++ byte_serialize bs) (cond-true _ _ _ (kept b (All-head (λ d. is_ascii_digit d ≡ true) b bs h)))
    ∙ ap (λ (l : List ℕ). b ∷ l) (unchanged bs (All-tail (λ d. is_ascii_digit d ≡ true) b bs h))
  where
    kept : (d : ℕ) → is_ascii_digit d ≡ true → is_unchanged d ≡ true
    kept d digit = grind (arith, nat_tests)

pub joined : (form : List ℕ) → 0 < length form → separator form ≡ 38 ∷ []
joined form some = cond-true _ _ _ (lt-ltb 0 _ some)

written : (s l : List ℕ) → extend_pairs [] ((codes "style", codes "all_docs") ∷ (codes "since", s) ∷ (codes "limit", l) ∷ [])
    ≡ codes "style=all_docs&since=" ++ (byte_serialize s ++ (codes "&limit=" ++ byte_serialize l))
unfolding byte_serialize
written s l =
    let form = codes "style=all_docs&since=" ++ byte_serialize s in
    ap (λ x. (form ++ x) ++ (codes "limit=" ++ byte_serialize l)) (joined form (omega arith))
    ∙ ap (λ t. codes "style=all_docs&since=" ++ t) (append_assoc (byte_serialize s) (38 ∷ []) (codes "limit=" ++ byte_serialize l))

changes_query : (since limit : ℕ) → since < 2 ^ 64 → limit < 2 ^ 64
    → extend_pairs [] (changes_pairs since limit) ≡ codes "style=all_docs&since=" ++ (decimal since ++ (codes "&limit=" ++ decimal limit))
changes_query since limit p q =
    written (decimal since) (decimal limit)
    ∙ ap (λ t. codes "style=all_docs&since=" ++ (t ++ (codes "&limit=" ++ byte_serialize (decimal limit)))) (unchanged (decimal since) (digits since p))
    ∙ ap (λ t. codes "style=all_docs&since=" ++ (decimal since ++ (codes "&limit=" ++ t))) (unchanged (decimal limit) (digits limit q))

changes_texts : (since limit : ℕ) → since < 2 ^ 64 → limit < 2 ^ 64 → All AreTexts (changes_pairs since limit)
changes_texts since limit p q =
    All-cons AreTexts (codes "style", codes "all_docs") ((codes "since", decimal since) ∷ (codes "limit", decimal limit) ∷ []) (ascii (codes "style") refl, ascii (codes "all_docs") refl)
    (All-cons AreTexts (codes "since", decimal since) ((codes "limit", decimal limit) ∷ []) (ascii (codes "since") refl, decimal_text since p)
    (All-cons AreTexts (codes "limit", decimal limit) [] (ascii (codes "limit") refl, decimal_text limit q) (All-nil AreTexts)))

pub changes_path : (since limit : ℕ) → path_of (changes_target since limit) ≡ codes "/db/_changes"
changes_path since limit = path_before (codes "/db/_changes") (codes "style=all_docs&since=" ++ (decimal since ++ (codes "&limit=" ++ decimal limit))) (none_of 63 (codes "/db/_changes") refl)

pub changes_read : (since limit : ℕ) → since < 2 ^ 64 → limit < 2 ^ 64 → parameters_of (query_of (changes_target since limit)) ≡ changes_pairs since limit
changes_read since limit p q =
    ap parameters_of (query_behind (codes "/db/_changes") (codes "style=all_docs&since=" ++ (decimal since ++ (codes "&limit=" ++ decimal limit))) (none_of 63 (codes "/db/_changes") refl) ∙ sym (changes_query since limit p q))
    ∙ read_pairs (changes_pairs since limit) (changes_texts since limit p q)

pub is_changes_target : (since limit : ℕ) → since < 2 ^ 64 → limit < 2 ^ 64 → IsTarget (changes_target since limit)
is_changes_target since limit p q =
    let behind = codes "&limit=" ++ decimal limit in
    let first = length-decimal-le 20 since (lit< tt) (omega arith) p in
    let second = length-decimal-le 20 limit (lit< tt) (omega arith) q in
    let size = length-append (decimal since) behind in
    target_of (changes_target since limit)
    (All-append IsInk (codes "/db/_changes?style=all_docs&since=") (decimal since ++ behind) (ink (codes "/db/_changes?style=all_docs&since=") refl)
    (All-append IsInk (decimal since) behind (decimal_ink since p)
    (All-append IsInk (codes "&limit=") (decimal limit) (ink (codes "&limit=") refl) (decimal_ink limit q))))
    (omega arith) (omega (arith, first, second, size))

-- ---- the revisions of a document

abbrev pub opened_pairs : List ℕ → List (List ℕ × List ℕ)
opened_pairs list = (codes "revs", codes "true") ∷ (codes "latest", codes "true") ∷ (codes "open_revs", list) ∷ []

opened_texts : (list : List ℕ) → IsUtf8 list → All AreTexts (opened_pairs list)
opened_texts list text =
    All-cons AreTexts (codes "revs", codes "true") ((codes "latest", codes "true") ∷ (codes "open_revs", list) ∷ []) (ascii (codes "revs") refl, ascii (codes "true") refl)
    (All-cons AreTexts (codes "latest", codes "true") ((codes "open_revs", list) ∷ []) (ascii (codes "latest") refl, ascii (codes "true") refl)
    (All-cons AreTexts (codes "open_revs", list) [] (ascii (codes "open_revs") refl, text) (All-nil AreTexts)))

opened_query : (list : List ℕ) → open_revs_query list ≡ codes "revs=true&latest=true&open_revs=" ++ byte_serialize list
unfolding byte_serialize
opened_query list = refl

module _ (keeps : KeepsUnreserved) (id list : List ℕ) (id_text : IsUtf8 id) (text : IsUtf8 list) where
  abbrev segment : List ℕ
  segment = percent_encode SEGMENT id

  no_mark : All (λ b. b ≢ 63) (codes "/db/" ++ segment)
  no_mark = All-append (λ b. b ≢ 63) (codes "/db/") segment (none_of 63 (codes "/db/") refl) (no_question keeps id)

  pub opened_path : path_of (open_revs_target SEGMENT id list) ≡ codes "/db/" ++ segment
  opened_path = path_before (codes "/db/" ++ segment) (open_revs_query list) no_mark

  pub opened_read : parameters_of (query_of (open_revs_target SEGMENT id list)) ≡ opened_pairs list
  opened_read = ap parameters_of (query_behind (codes "/db/" ++ segment) (open_revs_query list) no_mark) ∙ read_pairs (opened_pairs list) (opened_texts list text)

  pub is_opened_target : length id ≤ 512 → length list ≤ 4602 → IsTarget (open_revs_target SEGMENT id list)
  is_opened_target short few =
      let query = open_revs_query list in
      let behind = codes "?" ++ query in
      let first = length-segment id id_text in
      let second = length-serialized list (bytes_of_text list text) in
      let size = length-append segment behind in
      let rest = ap length (opened_query list) in
      target_of (open_revs_target SEGMENT id list)
      (All-append IsInk (codes "/db/") (segment ++ behind) (ink (codes "/db/") refl)
      (All-append IsInk segment behind (All-weaker IsPart IsInk part_ink segment (segment_parts keeps id))
      (All-cons IsInk 63 query (lit≤ tt, lit≤ tt)
      (subst (All IsInk) (sym (opened_query list)) (All-append IsInk (codes "revs=true&latest=true&open_revs=") (byte_serialize list) (ink (codes "revs=true&latest=true&open_revs=") refl) (serialized_all list))))))
      (omega arith) (omega (arith, first, second, size, rest, short, few))

-- ---- a local document

module _ (keeps : KeepsUnreserved) (id : List ℕ) (text : IsUtf8 id) where
  abbrev local : List ℕ
  local = percent_encode SEGMENT id

  unmarked : All (λ b. b ≢ 63) (local_target SEGMENT id)
  unmarked = All-append (λ b. b ≢ 63) (codes "/db/_local/") local (none_of 63 (codes "/db/_local/") refl) (no_question keeps id)

  pub local_path : path_of (local_target SEGMENT id) ≡ codes "/db/_local/" ++ local
  local_path = path_alone (local_target SEGMENT id) unmarked

  pub local_query : query_of (local_target SEGMENT id) ≡ []
  local_query = query_none (local_target SEGMENT id) unmarked

  pub is_local_target : length id ≤ 512 → IsTarget (local_target SEGMENT id)
  is_local_target short =
      let size = length-segment id text in
      target_of (local_target SEGMENT id)
      (All-append IsInk (codes "/db/_local/") local (ink (codes "/db/_local/") refl) (All-weaker IsPart IsInk part_ink local (segment_parts keeps id)))
      (omega arith) (omega (arith, size, short))

-- ---- targets with no parameter

pub is_bulk_target : IsTarget (codes "/db/_bulk_docs")
is_bulk_target = target_of (codes "/db/_bulk_docs") (ink (codes "/db/_bulk_docs") refl) (lit< tt) (lit≤ tt)

pub is_diff_target : IsTarget (codes "/db/_revs_diff")
is_diff_target = target_of (codes "/db/_revs_diff") (ink (codes "/db/_revs_diff") refl) (lit< tt) (lit≤ tt)
