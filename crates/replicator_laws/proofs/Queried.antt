-- The calls that read, as they are taken.
use Rattle.std.proofs.Common.{◌≡◌, ◌≢◌, ℕ, ◌^◌, ◌<◌, ◌≤◌, Bool, true, false, List, [], ◌∷◌, ◌++◌, length, decimal, Option, Some, None, Ok, refl, sym, ap, ◌∙◌, arith, All, lit<, lit≤, true≢false}
use Rattle.std.specs.Prelude.{codes, unwrap_or, if◌then◌else◌}
use Rattle.std.specs.Char.{is_ascii_digit}
use Rattle.std.specs.List.{AllPass}
use Rattle.std.specs.Str.{bytes_eq}
use Rattle.std.proofs.lemmas.Bool.{eq-eqb, ne_eqb, lt-ltb, le-leb}
use Rattle.std.proofs.lemmas.Bool.Decides.{nat_tests}
use Rattle.std.proofs.lemmas.Fmt.{decimal_is_IsNumeral, decimal_nonempty, length-decimal-le}
use Rattle.std.proofs.lemmas.List.Elements.{All-head}
use Rattle.std.proofs.lemmas.List.Sums.{AllPass-from_list_all, list_all-from_AllPass}
use Rattle.percent_encoding.specs.Percent.{percent_encode}
use Rattle.httparse.proofs.OnLiterals.{httparse_on_literals}
use Rattle.httparse.specs.Grammar.{is_token_byte}
use Rattle.decimals.specs.Number.{number}
use Rattle.serde_json.specs.Data.{Data}
use Rattle.serde_json.specs.Written.{compact_text}
use Rattle.http_routing.specs.Query.{Parameters, parameter, parameters_of}
use Rattle.http_routing.specs.Target.{query_of}
use Rattle.http_routing.specs.declared.routes.Route.TheVariants as route
use Rattle.http_routing.specs.declared.routes.Method.TheVariants as method
use Rattle.http_client.specs.Target.{changes_target, local_target, open_revs_target}
use Rattle.http_client.specs.declared.target.TheConstants.{SEGMENT}
use Rattle.model.specs.Command.{Id}
use Rattle.model.specs.Query.{GetLocal, OpenRevs}
use Rattle.model.specs.declared.style.Style.TheVariants.{AllDocs}
use Rattle.model.specs.Revision.{Rev, IsRev}
use Rattle.document_json.specs.Each.{each}
use Rattle.document_json.specs.Steps.{Checked, and_then, or_refused}
use Rattle.document_json.specs.Written.{revs_data}
use Rattle.document_json.specs.declared.fault.Reason.TheVariants as reason
use Rattle.api_json.specs.TextLists.{rev_in, text_list_of}
use Rattle.http_request.specs.Decide.{opened_or_got}
use Rattle.http_request.specs.Feeds.{changes_of}
use Rattle.http_request.specs.Identity.{path_id}
use Rattle.http_request.specs.Opened.{open_leaves}
use Rattle.http_request.specs.Parameters.{options_of}
use Rattle.http_request.specs.Rejections.{decided}
use Rattle.http_request.specs.declared.asked.Asked.{Asked}
use Rattle.http_request.specs.declared.asked.Asked.TheVariants as asked
use Rattle.http_request.specs.declared.changes.Feed.TheVariants.{Normal}
use Rattle.http_request.specs.declared.changes.Since.TheVariants.{Now, Number}
use Rattle.replicator_http.specs.Requests.{changes_request, local_get_request, open_revs_request}
use Rattle.replicator_laws.specs.Calls.{IsPlainId, IsTakenAs, with_paths}
use Rattle.replicator_laws.specs.Framing.{IsHost, IsMethod, request_with}
use Rattle.replicator_laws.proofs.Bytes.{KeepsUnreserved}
use Rattle.replicator_laws.proofs.Decided.{found, id_behind, taken}
use Rattle.replicator_laws.proofs.Heads.{digits}
use Rattle.replicator_laws.proofs.Lists.{length-list, list_read, list_text, not_all, revs_read}
use Rattle.replicator_laws.proofs.Paths.{is_one_segment}
use Rattle.replicator_laws.proofs.Routed.{changes_route, id_route, local_route}
use Rattle.replicator_laws.proofs.Targets.{changes_pairs, changes_path, changes_read, is_changes_target, is_local_target, is_opened_target, local_path, opened_pairs, opened_path, opened_read}

pub is_get : IsMethod (codes "GET")
unfolding httparse_on_literals
is_get = record { token = (lit< tt, AllPass-from_list_all is_token_byte (codes "GET") refl); short = lit≤ tt }

-- ---- numbers

pub number_read : (n : ℕ) → n < 10 ^ 18 → number (decimal n) ≡ Some n
number_read n low =
    let small : n < 2 ^ 64 = omega arith in
    rw (
      le-leb (length (decimal n)) 18 (length-decimal-le 18 n (lit< tt) low small),
      lt-ltb 0 (length (decimal n)) (decimal_nonempty n small),
      list_all-from_AllPass is_ascii_digit (decimal n) (digits n small),
      (decimal_is_IsNumeral n small).1,
    ) refl

pub no_word : (ds : List ℕ) → AllPass is_ascii_digit ds → bytes_eq (codes "now") ds ≡ false
no_word [] h = refl
no_word (d ∷ ds) h = rw (ne_eqb 110 d (λ e. other d (sym e) (All-head (λ b. is_ascii_digit b ≡ true) d ds h))) refl
  where
    other : (b : ℕ) → b ≡ 110 → is_ascii_digit b ≡ true → ⊥
    other b e h = grind (arith, nat_tests)

-- ---- the changes

-- what is asked, by whether the start is the word `now`, and by the numbers
abbrev asks : Bool → Option ℕ → Option ℕ → Checked Asked
asks now limit since =
    and_then (and_then (or_refused limit reason.Parameter) (λ n. Ok (Some n))) (λ limit.
    and_then (if now then Ok Now else and_then (and_then (or_refused since reason.Parameter) (λ n. Ok (Some n))) (λ since. Ok (Number (unwrap_or since 0)))) (λ since.
    Ok (asked.Changes (record { since = since; limit = limit; style = AllDocs; feed = Normal; ids = None }))))

changes_asked : (since limit : ℕ) → changes_of method.Get (changes_pairs since limit) [] ≡ asks (bytes_eq (codes "now") (decimal since)) (number (decimal limit)) (number (decimal since))
changes_asked since limit = refl

pub changes_taken : (host : List ℕ) → IsHost host → (since limit : ℕ) → since < 10 ^ 18 → limit < 10 ^ 18
    → IsTakenAs (changes_request host since limit) (asked.Changes (record { since = Number since; limit = Some limit; style = AllDocs; feed = Normal; ids = None }))
changes_taken host is_host since limit p q =
    let p64 : since < 2 ^ 64 = omega arith in
    let q64 : limit < 2 ^ 64 = omega arith in
    let request = request_with (codes "GET") (changes_target since limit) [] in
    taken host (codes "GET") (changes_target since limit) [] _ is_host is_get (is_changes_target since limit p64 q64) (lit≤ tt)
    (found request (codes "/db/_changes") route.Changes method.Get (changes_path since limit) changes_route refl
    ∙ ap (λ parameters. decided (changes_of method.Get parameters [])) (changes_read since limit p64 q64)
    ∙ ap decided (changes_asked since limit)
    ∙ ap (λ now. decided (asks now (number (decimal limit)) (number (decimal since)))) (no_word (decimal since) (digits since p64))
    ∙ ap (λ n. decided (asks false n (number (decimal since)))) (number_read limit q)
    ∙ ap (λ n. decided (asks false (Some limit) n)) (number_read since p))

-- ---- a checkpoint

pub local_get_taken : KeepsUnreserved → (host : List ℕ) → IsHost host → (id : Id) → IsPlainId id → IsTakenAs (local_get_request host SEGMENT id) (asked.Query (GetLocal id))
local_get_taken keeps host is_host id h =
    let target = local_target SEGMENT id in
    let segment = percent_encode SEGMENT id in
    let request = request_with (codes "GET") target [] in
    let at = local_path keeps id h.is_id.text in
    taken host (codes "GET") target [] _ is_host is_get (is_local_target keeps id h.is_id.text h.is_id.short) (lit≤ tt)
    (found request (codes "/db/_local/" ++ segment) route.Local method.Get at (local_route segment (is_one_segment keeps id h.is_id.not_empty)) refl
    ∙ ap (λ c. decided (and_then c (λ i. Ok (asked.Query (GetLocal i))))) (ap path_id at ∙ id_behind keeps (codes "/db/_local") id h))

-- ---- the revisions of a document

-- what is asked, by whether the list is the word `all`, and by what it names
abbrev opens : Id → List ℕ → Bool → Option (List Data) → Checked Asked
opens id list all values =
    if all then open_leaves id with_paths (opened_pairs list)
    else and_then (or_refused values reason.Parameter) (λ values. and_then (each rev_in values) (λ revs. Ok (asked.Query (OpenRevs id (Some revs) with_paths))))

opened_asked : (id : Id) (list : List ℕ) → opened_or_got id with_paths (opened_pairs list) (Some list) ≡ opens id list (bytes_eq list (codes "all")) (text_list_of list)
opened_asked id list = refl

-- what is asked of a document by these parameters
abbrev gets : Checked Id → Parameters → Checked Asked
gets id parameters =
    and_then id (λ id.
    and_then (options_of parameters) (λ options.
    opened_or_got id options parameters (parameter (codes "open_revs") parameters)))

pub open_revs_taken : KeepsUnreserved → (host : List ℕ) → IsHost host → (id : Id) (revs : List Rev) → IsPlainId id → All IsRev revs → length revs ≤ 100
    → IsTakenAs (open_revs_request host SEGMENT id revs) (asked.Query (OpenRevs id (Some revs) with_paths))
open_revs_taken keeps host is_host [] revs h are few = let some = h.is_id.not_empty in absurd (omega arith)
open_revs_taken keeps host is_host (c ∷ cs) revs h are few =
    let id : Id = c ∷ cs in
    let list = compact_text (revs_data revs) in
    let text = list_text revs are in
    let target = open_revs_target SEGMENT id list in
    let segment = percent_encode SEGMENT id in
    let request = request_with (codes "GET") target [] in
    let at = opened_path keeps id list h.is_id.text text in
    let long = length-list revs are in
    let other : c ≢ 95 = λ e. absurd (true≢false (sym (eq-eqb c 95 e) ∙ h.plain)) in
    taken host (codes "GET") target [] _ is_host is_get (is_opened_target keeps id list h.is_id.text text h.is_id.short (omega (arith, long, few))) (lit≤ tt)
    (found request (codes "/db/" ++ segment) route.Document method.Get at (id_route c cs other (is_one_segment keeps id h.is_id.not_empty)) refl
    ∙ ap (λ i. decided (gets i (parameters_of (query_of target)))) (ap path_id at ∙ id_behind keeps (codes "/db") id h)
    ∙ ap (λ parameters. decided (gets (Ok id) parameters)) (opened_read keeps id list h.is_id.text text)
    ∙ ap decided (opened_asked id list)
    ∙ ap (λ all. decided (opens id list all (text_list_of list))) (not_all revs)
    ∙ ap (λ values. decided (opens id list false values)) (list_read revs are)
    ∙ ap (λ found. decided (and_then found (λ revs. Ok (asked.Query (OpenRevs id (Some revs) with_paths))))) (revs_read revs are))
