-- The question which revisions are missing, as it is taken.
use Rattle.std.proofs.Common.{◌≡◌, ◌≤◌, List, ℕ, [], ◌∷◌, length, map, Ok, refl, ap, ◌∙◌, arith, All, lit<, lit≤}
use Rattle.std.specs.Prelude.{codes}
use Rattle.std.proofs.lemmas.List.Elements.{All-weaker}
use Rattle.std.proofs.lemmas.List.Sums.{AllPass-from_list_all}
use Rattle.httparse.proofs.OnLiterals.{httparse_on_literals}
use Rattle.httparse.specs.Grammar.{is_token_byte}
use Rattle.serde_json.specs.Data.{Data}
use Rattle.serde_json.specs.Find.{as_object}
use Rattle.serde_json.specs.Written.{compact_text}
use Rattle.http_framing.specs.Body.{body_limit}
use Rattle.http_routing.specs.declared.routes.Route.TheVariants as route
use Rattle.http_routing.specs.declared.routes.Method.TheVariants as method
use Rattle.model.specs.Command.{Id, NamesRevs, names}
use Rattle.model.specs.Map.{Map, entries, from_list}
use Rattle.model.specs.Query.{RevsDiff}
use Rattle.model.specs.Revision.{Rev}
use Rattle.document_json.specs.Each.{each}
use Rattle.document_json.specs.Steps.{and_then, or_refused}
use Rattle.document_json.specs.Text.{json_of}
use Rattle.document_json.specs.Written.{rev_data}
use Rattle.document_json.specs.declared.fault.Reason.TheVariants as reason
use Rattle.document_json.proofs.JsonTexts.{json_of-value}
use Rattle.api_json.specs.NamedRevisions.{asked_in, named_in, named_revisions_of, pairs_in, revs_named, texts_listed, texts_named}
use Rattle.api_json.specs.Objects.{Named, members_from}
use Rattle.api_json.specs.Purge.{named_leaves}
use Rattle.api_json.proofs.NamedRevisions.{rising-map}
use Rattle.history_json.proofs.InProfile.{sound_removed}
use Rattle.history_json.proofs.Sound.{sound_text}
use Rattle.http_request.specs.Rejections.{decided}
use Rattle.http_request.specs.declared.asked.Asked.TheVariants as asked
use Rattle.replicator_http.specs.Requests.{asked_data, diff_request}
use Rattle.replicator_laws.specs.Calls.{IsTakenAs, NamesPlain}
use Rattle.replicator_laws.specs.Framing.{IsHost, IsMethod, request_with}
use Rattle.replicator_laws.proofs.Decided.{found, named, taken}
use Rattle.replicator_laws.proofs.Lists.{each_found, listed, map-same, revs_read}
use Rattle.replicator_laws.proofs.Paths.{none_of, path_alone}
use Rattle.replicator_laws.proofs.Routed.{diff_route}
use Rattle.replicator_laws.proofs.Targets.{is_diff_target}

pub is_post : IsMethod (codes "POST")
unfolding httparse_on_literals
is_post = record { token = (lit< tt, AllPass-from_list_all is_token_byte (codes "POST") refl); short = lit≤ tt }

-- ---- the revisions of each document

abbrev Leaves : Type 0
Leaves = Id × List Rev

abbrev texts_of : Leaves → Id × List Data
texts_of e = (e.0, map rev_data e.1)

pairs : (es : List Leaves) → pairs_in (members_from (map named_leaves es)) ≡ map named_leaves es
pairs [] = refl
pairs (e ∷ es) = ap (λ (ps : List Named). named_leaves e ∷ ps) (pairs es)

texts_read : (e : Leaves) → NamesPlain e → texts_listed (named_leaves e) ≡ Ok (texts_of e)
texts_read e h = ap (λ found. and_then (or_refused found reason.Shape) (λ texts. Ok (e.0, texts))) (listed e.1)

name_read : (e : Leaves) → NamesPlain e → texts_named (texts_of e) ≡ Ok (texts_of e)
name_read e h = ap (λ id. and_then id (λ id. Ok (id, map rev_data e.1))) (named e.0 h.0)

leaves_read : (e : Leaves) → NamesPlain e → revs_named (texts_of e) ≡ Ok e
leaves_read e h = ap (λ revs. and_then revs (λ revs. Ok (e.0, revs))) (revs_read e.1 h.1)

asked_read : (es : List Leaves) → All NamesPlain es → asked_in (map named_leaves es) ≡ Ok es
unfolding asked_in
asked_read es h =
    ap (λ found. and_then found (λ listed. and_then (each texts_named listed) (λ named. each revs_named named))) (each_found texts_listed named_leaves texts_of NamesPlain texts_read es h)
    ∙ ap (λ found. and_then found (λ named. each revs_named named)) (each_found texts_named texts_of texts_of NamesPlain name_read es h)
    ∙ each_found revs_named texts_of (λ e. e) NamesPlain leaves_read es h
    ∙ ap Ok (map-same es)

-- ---- the body

body_named : (asks : Map names (List Rev)) → All NamesPlain (entries asks) → named_in (members_from (map named_leaves (entries asks))) ≡ Ok asks
body_named asks h =
    ap (λ found. and_then found (λ asked. Ok (from_list asked))) (ap asked_in (pairs (entries asks)) ∙ asked_read (entries asks) h)
    ∙ ap Ok (rising-map (entries asks) asks asks.sorted refl)

body_read : (asks : Map names (List Rev)) → All NamesPlain (entries asks) → json_of (compact_text (asked_data asks)) ≡ Ok (asked_data asks)
body_read asks h =
    let plain = All-weaker NamesPlain NamesRevs (λ e n. (n.0.is_id, n.1)) (entries asks) h in
    let s = sound_removed 1 asks plain in
    json_of-value (asked_data asks) (compact_text (asked_data asks)) (sound_text 3 (asked_data asks) (omega arith) s) s.whole (omega (arith, s.nests))

revisions_read : (asks : Map names (List Rev)) → All NamesPlain (entries asks) → named_revisions_of (compact_text (asked_data asks)) ≡ Ok asks
revisions_read asks h =
    ap (λ value. and_then value (λ value. and_then (or_refused (as_object value) reason.Shape) (λ members. named_in members))) (body_read asks h)
    ∙ body_named asks h

-- ---- the whole

pub diff_taken : (host : List ℕ) → IsHost host → (asks : Map names (List Rev)) → All NamesPlain (entries asks) → length (compact_text (asked_data asks)) ≤ body_limit
    → IsTakenAs (diff_request host asks) (asked.Query (RevsDiff asks))
diff_taken host is_host asks h fits =
    let body = compact_text (asked_data asks) in
    let request = request_with (codes "POST") (codes "/db/_revs_diff") body in
    taken host (codes "POST") (codes "/db/_revs_diff") body _ is_host is_post is_diff_target fits
    (found request (codes "/db/_revs_diff") route.RevsDiff method.Post (path_alone (codes "/db/_revs_diff") (none_of 63 (codes "/db/_revs_diff") refl)) diff_route refl
    ∙ ap (λ named. decided (and_then named (λ named. Ok (asked.Query (RevsDiff named))))) (revisions_read asks h))
