-- A bulk of documents, as it is taken.
use Rattle.std.proofs.Common.{◌≡◌, ◌≤◌, false, List, ℕ, [], ◌∷◌, length, map, suc, Some, Ok, refl, ap, ◌∙◌, arith, All}
use Rattle.std.specs.Prelude.{codes, not}
use Rattle.std.proofs.lemmas.Bool.{or_from}
use Rattle.std.proofs.lemmas.List.Elements.{All-head, All-tail}
use Rattle.serde_json.specs.Data.{boolean, array, no_members}
use Rattle.serde_json.specs.View.{items_of}
use Rattle.serde_json.specs.Written.{compact_text}
use Rattle.http_framing.specs.Body.{body_limit}
use Rattle.http_routing.specs.declared.routes.Route.TheVariants as route
use Rattle.http_routing.specs.declared.routes.Method.TheVariants as method
use Rattle.model.specs.Command.{Merge, Merges, max_edits}
use Rattle.document_json.specs.Bulk.{any_other, bulk_of, command_in, document_listed, document_named, documents_in, few, listed_in, merge_in, named_in, new_edits_in}
use Rattle.document_json.specs.Document.{parts_in, parts_of}
use Rattle.document_json.specs.Each.{each}
use Rattle.document_json.specs.Steps.{and_then, check, or_refused}
use Rattle.document_json.specs.Text.{json_of}
use Rattle.document_json.specs.Written.{merge_data}
use Rattle.document_json.specs.declared.fault.Reason.TheVariants as reason
use Rattle.document_json.proofs.JsonTexts.{json_of-value}
use Rattle.document_json.proofs.Listings.{few-all, values_of-items_of}
use Rattle.history_json.proofs.InProfile.{sound_named}
use Rattle.history_json.proofs.Sound.{Sound, sound_array, sound_boolean, sound_items, sound_none, sound_object, sound_text}
use Rattle.http_request.specs.Rejections.{decided}
use Rattle.http_request.specs.declared.asked.Asked.TheVariants as asked
use Rattle.http_request.specs.declared.asked.Form.TheVariants as form
use Rattle.replicator_http.specs.Requests.{bulk_data, bulk_request}
use Rattle.replicator_laws.specs.Calls.{IsPlainMerge, IsTakenAs}
use Rattle.replicator_laws.specs.Framing.{IsHost, request_with}
use Rattle.replicator_laws.proofs.Decided.{found, taken}
use Rattle.replicator_laws.proofs.Differing.{is_post}
use Rattle.replicator_laws.proofs.Lists.{each_found, map-same}
use Rattle.replicator_laws.proofs.Merging.{listed_read, members_tell, members_told, merge_read, named_read, parts_read, sound_merge}
use Rattle.replicator_laws.proofs.Paths.{none_of, path_alone}
use Rattle.replicator_laws.proofs.Routed.{bulk_route}
use Rattle.replicator_laws.proofs.Targets.{is_bulk_target}

-- ---- the body

sound : (ms : List Merge) → All IsPlainMerge ms → Sound 67 (bulk_data ms)
sound ms h =
    sound_object 66 _
    (sound_named 66 (codes "docs") (array (items_of (map merge_data ms))) _ refl refl (sound_array 65 _ (sound_items 65 merge_data IsPlainMerge (λ m is. sound_merge m is.0) ms h))
    (sound_named 66 (codes "new_edits") (boolean false) no_members refl refl (sound_boolean 66 false) (sound_none 66)))

body_read : (ms : List Merge) → All IsPlainMerge ms → json_of (compact_text (bulk_data ms)) ≡ Ok (bulk_data ms)
body_read ms h =
    let s = sound ms h in
    json_of-value (bulk_data ms) (compact_text (bulk_data ms)) (sound_text 67 (bulk_data ms) (omega arith) s) s.whole (omega (arith, s.nests))

length-map : (ms : List Merge) → length (map merge_data ms) ≡ length ms
length-map [] = refl
length-map (m ∷ ms) = ap suc (length-map ms)

listed : (ms : List Merge) → length ms ≤ max_edits → listed_in (bulk_data ms) ≡ Some (map merge_data ms)
listed ms few_enough =
    let size = length-map ms in
    ap few (values_of-items_of (map merge_data ms)) ∙ few-all (map merge_data ms) (omega (arith, size, few_enough))

-- ---- its documents

known : (ms : List Merge) → All IsPlainMerge ms → any_other (map (λ m. record { parts = parts_of (members_told m); path = Some (m.newest ∷ m.older) }) ms) ≡ false
known [] h = refl
known (m ∷ ms) h =
    or_from _ _ (members_tell m (All-head IsPlainMerge m ms h).0).of_other (known ms (All-tail IsPlainMerge m ms h))

pub documents_read : (ms : List Merge) → All IsPlainMerge ms → length ms ≤ max_edits → bulk_of (compact_text (bulk_data ms)) ≡ Ok (Merges ms)
documents_read ms h few_enough =
    ap (λ value. and_then value (λ value. and_then (or_refused (listed_in value) reason.Shape) (λ values. and_then (each parts_in values) (λ found. and_then (or_refused (new_edits_in value) reason.Shape) (λ new_edits. and_then (documents_in new_edits found) (λ documents. command_in new_edits documents)))))) (body_read ms h)
    ∙ ap (λ values. and_then (or_refused values reason.Shape) (λ values. and_then (each parts_in values) (λ found. and_then (documents_in false found) (λ documents. command_in false documents)))) (listed ms few_enough)
    ∙ ap (λ found. and_then found (λ found. and_then (documents_in false found) (λ documents. command_in false documents)))
    (each_found parts_in merge_data (λ m. Some (parts_of (members_told m))) IsPlainMerge (λ m is. parts_read m is.0) ms h)
    ∙ ap (λ listed. and_then (and_then listed (λ documents. named_in documents)) (λ documents. command_in false documents))
    (each_found (document_listed false) (λ m. Some (parts_of (members_told m))) (λ m. record { parts = parts_of (members_told m); path = Some (m.newest ∷ m.older) }) IsPlainMerge (λ m is. listed_read m (members_told m) (members_tell m is.0) is.0) ms h)
    ∙ ap (λ other. and_then (and_then (check (not other) reason.Member) (λ _. each document_named (map (λ m. record { parts = parts_of (members_told m); path = Some (m.newest ∷ m.older) }) ms))) (λ documents. command_in false documents)) (known ms h)
    ∙ ap (λ named. and_then named (λ documents. command_in false documents))
    (each_found document_named (λ m. record { parts = parts_of (members_told m); path = Some (m.newest ∷ m.older) }) (λ m. record { id = m.id; parts = parts_of (members_told m); path = Some (m.newest ∷ m.older) }) IsPlainMerge (λ m is. named_read m (members_told m) (members_tell m is.0) is) ms h)
    ∙ ap (λ merges. and_then merges (λ merges. Ok (Merges merges)))
    (each_found merge_in (λ m. record { id = m.id; parts = parts_of (members_told m); path = Some (m.newest ∷ m.older) }) (λ m. m) IsPlainMerge (λ m is. merge_read m (members_told m) (members_tell m is.0) is.0) ms h ∙ ap Ok (map-same ms))

-- ---- the whole

pub bulk_taken : (host : List ℕ) → IsHost host → (ms : List Merge) → length ms ≤ max_edits → All IsPlainMerge ms → length (compact_text (bulk_data ms)) ≤ body_limit
    → IsTakenAs (bulk_request host ms) (asked.Command form.Whole (Merges ms))
bulk_taken host is_host ms few_enough h fits =
    let body = compact_text (bulk_data ms) in
    let request = request_with (codes "POST") (codes "/db/_bulk_docs") body in
    taken host (codes "POST") (codes "/db/_bulk_docs") body _ is_host is_post is_bulk_target fits
    (found request (codes "/db/_bulk_docs") route.BulkDocs method.Post (path_alone (codes "/db/_bulk_docs") (none_of 63 (codes "/db/_bulk_docs") refl)) bulk_route refl
    ∙ ap (λ command. decided (and_then command (λ command. Ok (asked.Command form.Whole command)))) (documents_read ms h few_enough))
