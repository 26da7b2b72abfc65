-- The write of a checkpoint, as it is taken.
use Rattle.std.proofs.Common.{◌≡◌, ℕ, ◌^◌, ◌<◌, ◌≤◌, Bool, true, false, List, [], ◌∷◌, ◌++◌, length, get_or, decimal, Option, Some, None, Ok, IfSome, IsUtf8, refl, ap, ◌∙◌, arith, lit<, lit≤, length-append}
use Rattle.std.specs.Prelude.{codes, ◌==◌, if◌then◌else◌, option_and_then}
use Rattle.std.proofs.lemmas.Bool.{ne_eqb, lt-ltb, le-leb}
use Rattle.std.proofs.lemmas.Fmt.{first_decimal, IsAscii-decimal, length-decimal-le}
use Rattle.std.proofs.lemmas.List.Elements.{All-nil}
use Rattle.std.proofs.lemmas.List.Sums.{AllPass-from_list_all}
use Rattle.std.proofs.lemmas.Str.{IsUtf8-append, IsUtf8-from_ascii}
use Rattle.httparse.proofs.OnLiterals.{httparse_on_literals}
use Rattle.httparse.specs.Grammar.{is_token_byte}
use Rattle.percent_encoding.specs.Percent.{percent_encode}
use Rattle.decimals.specs.Number.{number}
use Rattle.json.proofs.Printed.Utf8.{IsUtf8-are_ascii}
use Rattle.serde_json.proofs.OnLiterals.{serde_json_on_literals}
use Rattle.serde_json.specs.Data.{Data, unsigned, string, no_members}
use Rattle.serde_json.specs.Data as json
use Rattle.serde_json.specs.Find.{as_object}
use Rattle.serde_json.specs.Written.{compact_text}
use Rattle.http_framing.specs.Body.{body_limit}
use Rattle.http_routing.specs.Query.{parameter, parameters_of}
use Rattle.http_routing.specs.Target.{query_of}
use Rattle.http_routing.specs.declared.routes.Route.TheVariants as route
use Rattle.http_routing.specs.declared.routes.Method.TheVariants as method
use Rattle.http_client.specs.Target.{local_target}
use Rattle.http_client.specs.declared.target.TheConstants.{SEGMENT}
use Rattle.model.specs.Command.{Command, Id, IsCounter, PutLocal, last_counter, last_purge}
use Rattle.document_json.specs.Document.{known_document_in, named_once}
use Rattle.document_json.specs.Local.{begins_with_zero, counter_named, counter_over, local_edit_of, local_parts_found}
use Rattle.document_json.specs.Numbers.{from_one}
use Rattle.document_json.specs.Steps.{Checked, and_then, or_refused}
use Rattle.document_json.specs.Text.{json_of}
use Rattle.document_json.specs.Written.{counter_text}
use Rattle.document_json.specs.declared.fault.Reason.TheVariants as reason
use Rattle.document_json.proofs.JsonTexts.{json_of-value}
use Rattle.document_json.proofs.Strings.{quoted-unescaped}
use Rattle.document_json.proofs.TextLengths.{number_unescaped}
use Rattle.history_json.proofs.InProfile.{sound_named}
use Rattle.history_json.proofs.Sound.{Sound, SoundMembers, sound_boolean, sound_none, sound_number, sound_object, sound_string, sound_text}
use Rattle.http_request.specs.Identity.{path_id}
use Rattle.http_request.specs.Rejections.{decided}
use Rattle.http_request.specs.declared.asked.Asked.{Asked}
use Rattle.http_request.specs.declared.asked.Asked.TheVariants as asked
use Rattle.http_request.specs.declared.asked.Form.TheVariants as form
use Rattle.replicator_http.specs.Requests.{checkpoint_data, local_put_request, skip_last}
use Rattle.replicator_laws.specs.Calls.{IsPlainId, IsTakenAs, checkpoint_body}
use Rattle.replicator_laws.specs.Framing.{IsHost, IsMethod, request_with}
use Rattle.replicator_laws.proofs.Bytes.{KeepsUnreserved}
use Rattle.replicator_laws.proofs.Decided.{found, id_behind, taken}
use Rattle.replicator_laws.proofs.Paths.{is_one_segment}
use Rattle.replicator_laws.proofs.Queried.{number_read}
use Rattle.replicator_laws.proofs.Queries.{AreTexts, read_pairs}
use Rattle.replicator_laws.proofs.Routed.{local_route}
use Rattle.replicator_laws.proofs.Targets.{is_local_target, local_path, local_query}

is_put : IsMethod (codes "PUT")
unfolding httparse_on_literals
is_put = record { token = (lit< tt, AllPass-from_list_all is_token_byte (codes "PUT") refl); short = lit≤ tt }

-- ---- the number of a revision

starts : (ds : List ℕ) → 48 < get_or ds 0 0 → begins_with_zero ds ≡ false
starts [] h = refl
starts (d ∷ ds) h = ne_eqb d 48 (λ e. omega arith)

abbrev counter_of_digits : Bool → Option ℕ → Option ℕ
counter_of_digits zero digits = if zero then None else option_and_then (from_one last_counter) digits

counter_read : (counter : ℕ) → IsCounter counter → counter_named (counter_text counter) ≡ Some counter
counter_read counter h =
    let low = h.0 in
    let high = h.1 in
    let small : counter < 2 ^ 64 = omega arith in
    ap (λ zero. counter_of_digits zero (number (decimal counter))) (starts (decimal counter) (first_decimal counter low small))
    ∙ ap (counter_of_digits false) (number_read counter (omega arith))
    ∙ rw (lt-ltb 0 counter low, le-leb counter last_counter high) refl

-- ---- the body

counter_utf8 : (counter : ℕ) → IsCounter counter → IsUtf8 (counter_text counter)
counter_utf8 counter h =
    let high = h.1 in
    IsUtf8-append (codes "0-") (decimal counter) (IsUtf8-are_ascii (codes "0-") refl) (IsUtf8-from_ascii (decimal counter) (IsAscii-decimal counter (omega arith)))

sound_skip : (skips : Bool) → SoundMembers 0 (skip_last skips)
sound_skip false = sound_none 0
sound_skip true = sound_named 0 (codes "skip") (json.boolean true) no_members refl refl (sound_boolean 0 true) (sound_none 0)

sound_last : (last_seq : ℕ) (skips : Bool) → last_seq ≤ last_purge → SoundMembers 0 (checkpoint_body last_seq skips)
sound_last last_seq false le = sound_named 0 (codes "last_seq") (json.number (unsigned last_seq)) _ refl refl (sound_number 0 last_seq le) (sound_skip false)
sound_last last_seq true le = sound_named 0 (codes "last_seq") (json.number (unsigned last_seq)) _ refl refl (sound_number 0 last_seq le) (sound_skip true)

sound : (named : Option ℕ) (last_seq : ℕ) (skips : Bool) → IfSome named IsCounter → last_seq ≤ last_purge → Sound 1 (checkpoint_data named last_seq skips)
sound None last_seq skips h le = sound_object 0 _ (sound_last last_seq skips le)
sound (Some counter) last_seq skips h le =
    sound_object 0 _ (sound_named 0 (codes "_rev") (string (counter_text counter)) _ refl refl (sound_string 0 (counter_text counter) (counter_utf8 counter h)) (sound_last last_seq skips le))

body_read : (named : Option ℕ) (last_seq : ℕ) (skips : Bool) → IfSome named IsCounter → last_seq ≤ last_purge
    → json_of (compact_text (checkpoint_data named last_seq skips)) ≡ Ok (checkpoint_data named last_seq skips)
body_read named last_seq skips h le =
    let s = sound named last_seq skips h le in
    json_of-value (checkpoint_data named last_seq skips) (compact_text (checkpoint_data named last_seq skips)) (sound_text 1 (checkpoint_data named last_seq skips) (omega arith) s) s.whole (omega (arith, s.nests))

-- what is written by a value
abbrev writes : Id → Checked Data → Checked Command
writes id checked =
    and_then (and_then checked (λ value. and_then (local_parts_found (as_object value)) (λ parts. known_document_in parts))) (λ parts.
    and_then (counter_over id None parts) (λ over.
    Ok (PutLocal id over (Some parts.body))))

-- and by a number
abbrev over : Id → ℕ → Bool → Option ℕ → Checked Command
over id last_seq skips counter =
    and_then (and_then (and_then (or_refused counter reason.Revision) (λ k. Ok (Some k))) (λ own. named_once (◌==◌) None own)) (λ named.
    Ok (PutLocal id named (Some (checkpoint_body last_seq skips))))

written : (id : Id) (named : Option ℕ) (last_seq : ℕ) (skips : Bool) → IfSome named IsCounter → writes id (Ok (checkpoint_data named last_seq skips)) ≡ Ok (PutLocal id named (Some (checkpoint_body last_seq skips)))
written id None last_seq false h = refl
written id None last_seq true h = refl
written id (Some counter) last_seq skips h = two id counter last_seq skips ∙ ap (over id last_seq skips) (counter_read counter h)
  where
    two : (id : Id) (counter last_seq : ℕ) (skips : Bool) → writes id (Ok (checkpoint_data (Some counter) last_seq skips)) ≡ over id last_seq skips (counter_named (counter_text counter))
    two id counter last_seq false = refl
    two id counter last_seq true = refl

pub edited : (id : Id) (named : Option ℕ) (last_seq : ℕ) (skips : Bool) → IfSome named IsCounter → last_seq ≤ last_purge
    → local_edit_of id None (compact_text (checkpoint_data named last_seq skips)) ≡ Ok (PutLocal id named (Some (checkpoint_body last_seq skips)))
edited id named last_seq skips h le = ap (writes id) (body_read named last_seq skips h le) ∙ written id named last_seq skips h

-- ---- its length

-- what is behind the number
abbrev last_text : Bool → List ℕ
last_text false = codes "}"
last_text true = codes ",\"skip\":true}"

text_first : (last_seq : ℕ) (skips : Bool) → compact_text (checkpoint_data None last_seq skips) ≡ codes "{\"last_seq\":" ++ (decimal last_seq ++ last_text skips)
unfolding serde_json_on_literals
text_first last_seq false = refl
text_first last_seq true = refl

text_over : (counter last_seq : ℕ) (skips : Bool) → compact_text (checkpoint_data (Some counter) last_seq skips)
    ≡ codes "{\"_rev\":" ++ (compact_text (string (counter_text counter)) ++ (codes ",\"last_seq\":" ++ (decimal last_seq ++ last_text skips)))
unfolding serde_json_on_literals
text_over counter last_seq false = refl
text_over counter last_seq true = refl

last_short : (skips : Bool) → length (last_text skips) ≤ 13
last_short false = lit≤ tt
last_short true = lit≤ tt

short : (named : Option ℕ) (last_seq : ℕ) (skips : Bool) → IfSome named IsCounter → last_seq ≤ last_purge → length (compact_text (checkpoint_data named last_seq skips)) ≤ body_limit
short None last_seq skips h le =
    let digits = length-decimal-le 20 last_seq (lit< tt) (omega arith) (omega arith) in
    let last = last_short skips in
    let size = length-append (decimal last_seq) (last_text skips) in
    let whole = ap length (text_first last_seq skips) in
    omega (arith, digits, last, size, whole)
short (Some counter) last_seq skips h le =
    let high = h.1 in
    let small : counter < 2 ^ 64 = omega arith in
    let digits = length-decimal-le 20 last_seq (lit< tt) (omega arith) (omega arith) in
    let number = length-decimal-le 10 counter (lit< tt) (omega arith) small in
    let last = last_short skips in
    let size = length-append (decimal last_seq) (last_text skips) in
    let behind = codes ",\"last_seq\":" ++ (decimal last_seq ++ last_text skips) in
    let first = length-append (compact_text (string (counter_text counter))) behind in
    let text = length-append (counter_text counter) (34 ∷ []) in
    let quotes = ap length (quoted-unescaped (counter_text counter) (number_unescaped counter small)) in
    let whole = ap length (text_over counter last_seq skips) in
    omega (arith, digits, number, last, size, first, text, quotes, whole)

-- ---- the whole

-- what is asked, by the id and by the revision that the parameters name
abbrev puts : List ℕ → Checked Id → Option (List ℕ) → Checked Asked
puts body id rev = and_then id (λ id. and_then (local_edit_of id rev body) (λ command. Ok (asked.Command form.Put command)))

no_rev : (target : List ℕ) → query_of target ≡ [] → parameter (codes "rev") (parameters_of (query_of target)) ≡ None
no_rev target none = ap (λ query. parameter (codes "rev") (parameters_of query)) none ∙ ap (parameter (codes "rev")) (read_pairs [] (All-nil AreTexts))

pub local_put_taken : KeepsUnreserved → (host : List ℕ) (skips : Bool) → IsHost host → (id : Id) (named : Option ℕ) (last_seq : ℕ) → IsPlainId id → IfSome named IsCounter → last_seq ≤ last_purge
    → IsTakenAs (local_put_request host skips SEGMENT id named last_seq) (asked.Command form.Put (PutLocal id named (Some (checkpoint_body last_seq skips))))
local_put_taken keeps host skips is_host id named last_seq h counter le =
    let target = local_target SEGMENT id in
    let segment = percent_encode SEGMENT id in
    let body = compact_text (checkpoint_data named last_seq skips) in
    let request = request_with (codes "PUT") target body in
    let at = local_path keeps id h.is_id.text in
    taken host (codes "PUT") target body _ is_host is_put (is_local_target keeps id h.is_id.text h.is_id.short) (short named last_seq skips counter le)
    (found request (codes "/db/_local/" ++ segment) route.Local method.Put at (local_route segment (is_one_segment keeps id h.is_id.not_empty)) refl
    ∙ ap (λ i. decided (puts body i (parameter (codes "rev") (parameters_of (query_of target))))) (ap path_id at ∙ id_behind keeps (codes "/db/_local") id h)
    ∙ ap (λ rev. decided (puts body (Ok id) rev)) (no_rev target (local_query keeps id h.is_id.text))
    ∙ ap (λ command. decided (and_then command (λ command. Ok (asked.Command form.Put command)))) (edited id named last_seq skips counter le))
