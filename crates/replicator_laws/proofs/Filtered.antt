-- The changes of some documents, as they are taken.
use Rattle.std.proofs.Common.{◌≡◌, ℕ, ◌^◌, ◌<◌, ◌≤◌, Bool, true, false, List, [], ◌∷◌, ◌++◌, length, map, decimal, Option, Some, None, Ok, refl, sym, ap, subst, ◌∙◌, arith, All, length-append, append_assoc, lit<}
use Rattle.std.specs.Prelude.{◌↔◌, Contains, codes, filter, unwrap_or, if◌then◌else◌}
use Rattle.std.specs.List.{filter_map}
use Rattle.std.specs.Str.{bytes_eq}
use Rattle.std.proofs.lemmas.Bool.{lt-ltb}
use Rattle.std.proofs.lemmas.Fmt.{length-decimal-le}
use Rattle.std.proofs.lemmas.List.Elements.{All-append, All-cons, All-head, All-nil, All-tail}
use Rattle.form_urlencoded.specs.Form.{byte_serialize, extend_pairs}
use Rattle.decimals.specs.Number.{number}
use Rattle.serde_json.specs.Data.{array, string, no_members}
use Rattle.serde_json.specs.Find.{as_str}
use Rattle.serde_json.specs.View.{items_of}
use Rattle.serde_json.specs.Written.{compact_text}
use Rattle.http_framing.specs.Body.{body_limit}
use Rattle.http_routing.specs.Query.{parameters_of}
use Rattle.http_routing.specs.Target.{path_of, query_of}
use Rattle.http_routing.specs.declared.routes.Route.TheVariants as route
use Rattle.http_routing.specs.declared.routes.Method.TheVariants as method
use Rattle.http_client.specs.Target.{filtered_changes_target}
use Rattle.model.specs.Changes.{ids_named}
use Rattle.model.specs.Command.{Id, IsId, has_id_length, names}
use Rattle.model.specs.Map.{entries, from_list}
use Rattle.model.specs.declared.style.Style.TheVariants.{AllDocs}
use Rattle.model.proofs.MapLaws.{Contains-keys-from_list, IsRising-keys, same_rising}
use Rattle.document_id.specs.Ids.{AreIds}
use Rattle.document_json.specs.Steps.{Checked, and_then, or_refused}
use Rattle.document_json.specs.Text.{json_of}
use Rattle.document_json.specs.declared.fault.Reason.TheVariants as reason
use Rattle.document_json.proofs.JsonTexts.{json_of-value}
use Rattle.api_json.specs.DocIds.{doc_ids_of, ids_in, texts_listed}
use Rattle.api_json.specs.TextLists.{are_texts}
use Rattle.api_json.proofs.NamedRevisions.{listed-texts}
use Rattle.history_json.proofs.InProfile.{sound_id, sound_named}
use Rattle.history_json.proofs.Sound.{Sound, sound_array, sound_items, sound_none, sound_object, sound_text}
use Rattle.http_request.specs.Feeds.{changes_of}
use Rattle.http_request.specs.Rejections.{decided}
use Rattle.http_request.specs.declared.asked.Asked.{Asked}
use Rattle.http_request.specs.declared.asked.Asked.TheVariants as asked
use Rattle.http_request.specs.declared.changes.Feed.TheVariants.{Normal}
use Rattle.http_request.specs.declared.changes.Since.TheVariants.{Now, Number}
use Rattle.replicator_http.specs.Requests.{doc_ids_data, filtered_changes_request}
use Rattle.replicator_laws.specs.Calls.{IsTakenAs}
use Rattle.replicator_laws.specs.Framing.{IsHost, IsTarget, request_with}
use Rattle.replicator_laws.proofs.Bytes.{IsInk, target_of}
use Rattle.replicator_laws.proofs.Decided.{found, taken}
use Rattle.replicator_laws.proofs.Differing.{is_post}
use Rattle.replicator_laws.proofs.Heads.{digits}
use Rattle.replicator_laws.proofs.Paths.{none_of, path_before, query_behind}
use Rattle.replicator_laws.proofs.Queried.{no_word, number_read}
use Rattle.replicator_laws.proofs.Queries.{AreTexts, read_pairs}
use Rattle.replicator_laws.proofs.Routed.{changes_route}
use Rattle.replicator_laws.proofs.Targets.{ascii, decimal_ink, decimal_text, ink, joined, unchanged}

-- ---- the target

abbrev pairs : ℕ → ℕ → List (List ℕ × List ℕ)
pairs since limit = (codes "style", codes "all_docs") ∷ (codes "filter", codes "_doc_ids") ∷ (codes "since", decimal since) ∷ (codes "limit", decimal limit) ∷ []

abbrev query : ℕ → ℕ → List ℕ
query since limit = codes "style=all_docs&filter=_doc_ids&since=" ++ (decimal since ++ (codes "&limit=" ++ decimal limit))

written : (s l : List ℕ) → extend_pairs [] ((codes "style", codes "all_docs") ∷ (codes "filter", codes "_doc_ids") ∷ (codes "since", s) ∷ (codes "limit", l) ∷ [])
    ≡ codes "style=all_docs&filter=_doc_ids&since=" ++ (byte_serialize s ++ (codes "&limit=" ++ byte_serialize l))
unfolding byte_serialize
written s l =
    let form = codes "style=all_docs&filter=_doc_ids&since=" ++ byte_serialize s in
    ap (λ x. (form ++ x) ++ (codes "limit=" ++ byte_serialize l)) (joined form (omega arith))
    ∙ ap (λ t. codes "style=all_docs&filter=_doc_ids&since=" ++ t) (append_assoc (byte_serialize s) (38 ∷ []) (codes "limit=" ++ byte_serialize l))

query_is : (since limit : ℕ) → since < 2 ^ 64 → limit < 2 ^ 64 → extend_pairs [] (pairs since limit) ≡ query since limit
query_is since limit p q =
    written (decimal since) (decimal limit)
    ∙ ap (λ t. codes "style=all_docs&filter=_doc_ids&since=" ++ (t ++ (codes "&limit=" ++ byte_serialize (decimal limit)))) (unchanged (decimal since) (digits since p))
    ∙ ap (λ t. codes "style=all_docs&filter=_doc_ids&since=" ++ (decimal since ++ (codes "&limit=" ++ t))) (unchanged (decimal limit) (digits limit q))

are_texts_all : (since limit : ℕ) → since < 2 ^ 64 → limit < 2 ^ 64 → All AreTexts (pairs since limit)
are_texts_all since limit p q =
    All-cons AreTexts (codes "style", codes "all_docs") ((codes "filter", codes "_doc_ids") ∷ (codes "since", decimal since) ∷ (codes "limit", decimal limit) ∷ []) (ascii (codes "style") refl, ascii (codes "all_docs") refl)
    (All-cons AreTexts (codes "filter", codes "_doc_ids") ((codes "since", decimal since) ∷ (codes "limit", decimal limit) ∷ []) (ascii (codes "filter") refl, ascii (codes "_doc_ids") refl)
    (All-cons AreTexts (codes "since", decimal since) ((codes "limit", decimal limit) ∷ []) (ascii (codes "since") refl, decimal_text since p)
    (All-cons AreTexts (codes "limit", decimal limit) [] (ascii (codes "limit") refl, decimal_text limit q) (All-nil AreTexts))))

path_is : (since limit : ℕ) → path_of (filtered_changes_target since limit) ≡ codes "/db/_changes"
path_is since limit = path_before (codes "/db/_changes") (query since limit) (none_of 63 (codes "/db/_changes") refl)

parameters_read : (since limit : ℕ) → since < 2 ^ 64 → limit < 2 ^ 64 → parameters_of (query_of (filtered_changes_target since limit)) ≡ pairs since limit
parameters_read since limit p q =
    ap parameters_of (query_behind (codes "/db/_changes") (query since limit) (none_of 63 (codes "/db/_changes") refl) ∙ sym (query_is since limit p q))
    ∙ read_pairs (pairs since limit) (are_texts_all since limit p q)

is_target : (since limit : ℕ) → since < 2 ^ 64 → limit < 2 ^ 64 → IsTarget (filtered_changes_target since limit)
is_target since limit p q =
    let behind = codes "&limit=" ++ decimal limit in
    let first = length-decimal-le 20 since (lit< tt) (omega arith) p in
    let second = length-decimal-le 20 limit (lit< tt) (omega arith) q in
    let size = length-append (decimal since) behind in
    target_of (filtered_changes_target since limit)
    (All-append IsInk (codes "/db/_changes?style=all_docs&filter=_doc_ids&since=") (decimal since ++ behind) (ink (codes "/db/_changes?style=all_docs&filter=_doc_ids&since=") refl)
    (All-append IsInk (decimal since) behind (decimal_ink since p)
    (All-append IsInk (codes "&limit=") (decimal limit) (ink (codes "&limit=") refl) (decimal_ink limit q))))
    (omega arith) (omega (arith, first, second, size))

-- ---- the documents that are named

own_keys : (ids : List Id) → map (λ (e : Id × Id). e.0) (map (λ id. (id, id)) ids) ≡ ids
own_keys [] = refl
own_keys (id ∷ ids) = ap (λ (rest : List Id). id ∷ rest) (own_keys ids)

has_length : (id : Id) → IsId id → has_id_length id ≡ true
has_length id h =
    let some = h.not_empty in
    let short = h.short in
    rw (lt-ltb 0 (length id) some, lt-ltb (length id) 513 (omega arith)) refl

kept : (ids : List Id) → All IsId ids → filter has_id_length ids ≡ ids
kept [] h = refl
kept (id ∷ ids) h = rw (has_length id (All-head IsId id ids h)) (ap (λ (rest : List Id). id ∷ rest) (kept ids (All-tail IsId id ids h)))

-- rising ids name themselves
named_again : (ids : List Id) → AreIds ids → ids_named ids ≡ ids
named_again ids are =
    let listed : List (Id × Id) = map (λ (id : Id). (id, id)) ids in
    let same : (q : Id) → Contains (map (λ (e : Id × Id). e.0) (entries {O = names} (from_list listed))) q ↔ Contains ids q =
    λ q. subst (λ (l : List Id). Contains (map (λ (e : Id × Id). e.0) (entries {O = names} (from_list listed))) q ↔ Contains l q) (own_keys ids) (Contains-keys-from_list names listed q) in
    ap (λ (l : List Id). map (λ (e : Id × Id). e.0) (entries {O = names} (from_list (map (λ (id : Id). (id, id)) l)))) (kept ids are.each)
    ∙ same_rising names _ ids (IsRising-keys names (from_list listed)) are.rising same

-- ---- the body

sound : (ids : List Id) → All IsId ids → Sound 3 (doc_ids_data ids)
sound ids h =
    sound_object 2 _
    (sound_named 2 (codes "doc_ids") (array (items_of (map string ids))) no_members refl refl (sound_array 1 _ (sound_items 1 string IsId (λ id is. sound_id 1 id is) ids h)) (sound_none 2))

body_read : (ids : List Id) → All IsId ids → json_of (compact_text (doc_ids_data ids)) ≡ Ok (doc_ids_data ids)
body_read ids h =
    let s = sound ids h in
    json_of-value (doc_ids_data ids) (compact_text (doc_ids_data ids)) (sound_text 3 (doc_ids_data ids) (omega arith) s) s.whole (omega (arith, s.nests))

texts : (ids : List Id) → are_texts (map string ids) ≡ true
texts [] = refl
texts (id ∷ ids) = texts ids

listed_read : (ids : List Id) → texts_listed (doc_ids_data ids) ≡ Some (map string ids)
listed_read ids = listed-texts (array (items_of (map string ids))) (map string ids) refl ∙ ap (λ test. if test then Some (map string ids) else None) (texts ids)

strings : (ids : List Id) → filter_map as_str (map string ids) ≡ ids
strings [] = refl
strings (id ∷ ids) = ap (λ (rest : List Id). id ∷ rest) (strings ids)

ids_read : (ids : List Id) → AreIds ids → doc_ids_of (compact_text (doc_ids_data ids)) ≡ Ok ids
ids_read ids are =
    ap (λ value. and_then value (λ value. and_then (or_refused (texts_listed value) reason.Shape) (λ values. Ok (ids_in values)))) (body_read ids are.each)
    ∙ ap (λ found. and_then (or_refused found reason.Shape) (λ values. Ok (ids_in values))) (listed_read ids)
    ∙ ap (λ (l : List Id). Ok (ids_named l)) (strings ids)
    ∙ ap Ok (named_again ids are)

-- ---- what is asked

-- by whether the start is the word `now`, by the numbers and by the documents
abbrev asks : Bool → Option ℕ → Option ℕ → Checked (List Id) → Checked Asked
asks now limit since ids =
    and_then (and_then (or_refused limit reason.Parameter) (λ n. Ok (Some n))) (λ limit.
    and_then (if now then Ok Now else and_then (and_then (or_refused since reason.Parameter) (λ n. Ok (Some n))) (λ since. Ok (Number (unwrap_or since 0)))) (λ since.
    and_then (and_then ids (λ ids. Ok (Some ids))) (λ ids.
    Ok (asked.Changes (record { since = since; limit = limit; style = AllDocs; feed = Normal; ids = ids })))))

changes_asked : (since limit : ℕ) (body : List ℕ) → changes_of method.Post (pairs since limit) body
    ≡ asks (bytes_eq (codes "now") (decimal since)) (number (decimal limit)) (number (decimal since)) (doc_ids_of body)
changes_asked since limit body = refl

pub filtered_taken : (host : List ℕ) → IsHost host → (ids : List Id) (since limit : ℕ) → since < 10 ^ 18 → limit < 10 ^ 18 → AreIds ids → length (compact_text (doc_ids_data ids)) ≤ body_limit
    → IsTakenAs (filtered_changes_request host ids since limit) (asked.Changes (record { since = Number since; limit = Some limit; style = AllDocs; feed = Normal; ids = Some ids }))
filtered_taken host is_host ids since limit p q are fits =
    let p64 : since < 2 ^ 64 = omega arith in
    let q64 : limit < 2 ^ 64 = omega arith in
    let body = compact_text (doc_ids_data ids) in
    let request = request_with (codes "POST") (filtered_changes_target since limit) body in
    taken host (codes "POST") (filtered_changes_target since limit) body _ is_host is_post (is_target since limit p64 q64) fits
    (found request (codes "/db/_changes") route.Changes method.Post (path_is since limit) changes_route refl
    ∙ ap (λ parameters. decided (changes_of method.Post parameters body)) (parameters_read since limit p64 q64)
    ∙ ap decided (changes_asked since limit body)
    ∙ ap (λ now. decided (asks now (number (decimal limit)) (number (decimal since)) (doc_ids_of body))) (no_word (decimal since) (digits since p64))
    ∙ ap (λ n. decided (asks false n (number (decimal since)) (doc_ids_of body))) (number_read limit q)
    ∙ ap (λ n. decided (asks false (Some limit) n (doc_ids_of body))) (number_read since p)
    ∙ ap (λ found. decided (asks false (Some limit) (Some since) found)) (ids_read ids are))
