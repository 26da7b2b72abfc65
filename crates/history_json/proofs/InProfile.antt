-- The line of an entry that keeps the limits is a text of the profile, of one line.
use Rattle.std.proofs.Common.{◌≡◌, ℕ, ◌+◌, ◌<◌, ◌≤◌, List, [], ◌∷◌, Bool, true, false, Option, Some, None, Ok, Err, T, All, map, refl, ap, arith, decimal, IsUtf8, IfSome, Result}
use Rattle.std.specs.Prelude.{codes}
use Rattle.std.specs.FinMap.Entries.{is_sorted}
use Rattle.std.specs.Ordering.{is_lt}
use Rattle.std.proofs.lemmas.Fmt.{IsAscii-decimal}
use Rattle.std.proofs.lemmas.List.Elements.{All-head, All-tail}
use Rattle.std.proofs.lemmas.Str.{IsUtf8-append, IsUtf8-from_ascii, is_utf8-from_IsUtf8}
use Rattle.hex.specs.Hex.{encode_lower}
use Rattle.json.proofs.Printed.Utf8.{are_ascii, IsUtf8-are_ascii}
use Rattle.serde_json.specs.Data.{Data, unsigned, number, boolean, string, object, no_items, Members, no_members, member}
use Rattle.model.specs.Body.{Body, IsBody}
use Rattle.model.specs.Command.{Id, IsId, names, Edit, IsEdit, Merge, IsMerge, Command, Edits, Merges, PutLocal, Purge, SetLimit, SetPurgedLimit, Compact, IsCommand, IsCounter, NamesRevs, Reply, Wrote, WroteLocal, Purged, Done, FitsReply, FitsEdit, FitsMerge, FitsLocal, Seat, Entry}
use Rattle.model.specs.declared.refusal.Refusal.{Refusal}
use Rattle.model.specs.declared.refusal.Refusal.TheVariants.{Conflict, BadHistory, Missing, Deleted, GenerationLimit}
use Rattle.model.specs.Map.{Map, entries}
use Rattle.model.specs.Profile.{IsTextOf, is_before}
use Rattle.model.specs.Revision.{Rev, IsRev, rev_text}
use Rattle.commands.proofs.Rising.{rises-first, rises-rest}
use Rattle.revision_id.proofs.Texts.{utf8_lower}
use Rattle.document_json.specs.Text.{json_of}
use Rattle.document_json.specs.Written.{rev_data, revs_data}
use Rattle.document_json.proofs.JsonTexts.{json_of-value}
use Rattle.api_json.specs.Objects.{members_from}
use Rattle.api_json.specs.Purge.{named_leaves, removed_data, purged_data}
use Rattle.history_json.specs.Commands.{rev_member, write_members, edit_data, merge_data, bulk_data, counter_member, put_local_data, command_data}
use Rattle.history_json.specs.Line.{IsLine, seat_data, entry_data, line_text}
use Rattle.history_json.specs.Lines.{is_one_line}
use Rattle.history_json.specs.Replies.{refusal_name, outcome_data, local_outcome_data, reply_data}
use Rattle.history_json.proofs.OneLine.{one-compact_text}
use Rattle.history_json.proofs.Sound.{Sound, SoundMembers, sound_boolean, sound_number, sound_string, sound_body, sound_deeper, sound_array, sound_item, sound_items, sound_object, sound_none, sound_member, sound_text}

pub sound_named : (n : ℕ) (k : List ℕ) (d : Data) (ms : Members) → are_ascii k ≡ true → is_before k ms ≡ true → Sound n d → SoundMembers n ms → SoundMembers n (member k d ms)
sound_named n k d ms name before g h = sound_member n k d ms (is_utf8-from_IsUtf8 k (IsUtf8-are_ascii k name)) before g h

-- ---- ids and revisions

pub sound_id : (n : ℕ) (id : Id) → IsId id → Sound n (string id)
sound_id n id h = sound_string n id h.text

utf8_rev : (rev : Rev) → IsRev rev → IsUtf8 (rev_text rev)
utf8_rev rev h =
    let small = h.in_range in
    IsUtf8-append (decimal rev.generation) (45 ∷ encode_lower rev.hash)
    (IsUtf8-from_ascii (decimal rev.generation) (IsAscii-decimal rev.generation (omega arith)))
    (IsUtf8-append (45 ∷ []) (encode_lower rev.hash) (IsUtf8-are_ascii (45 ∷ []) refl) (utf8_lower rev.hash))

pub sound_rev : (n : ℕ) (rev : Rev) → IsRev rev → Sound n (rev_data rev)
sound_rev n rev h = sound_string n (rev_text rev) (utf8_rev rev h)

pub sound_revs : (n : ℕ) (revs : List Rev) → All IsRev revs → Sound (n + 1) (revs_data revs)
sound_revs n revs h = sound_array n _ (sound_items n rev_data IsRev (sound_rev n) revs h)

-- ---- edits and merges

sound_rev_member : (n : ℕ) (named : Option Rev) → IfSome named IsRev → SoundMembers n (rev_member named)
sound_rev_member n None h = sound_none n
sound_rev_member n (Some rev) h = sound_named n (codes "rev") (rev_data rev) no_members refl refl (sound_rev n rev h) (sound_none n)

before_rev : (named : Option Rev) → is_before (codes "id") (rev_member named) ≡ true
before_rev None = refl
before_rev (Some rev) = refl

sound_write : (id : Id) (deleted : Bool) (body : Body) (more : Members) → IsId id → IsBody body → is_before (codes "id") more ≡ true
    → SoundMembers 64 more → Sound 65 (object (write_members id deleted body more))
sound_write id deleted body more is_id is_body before h =
    sound_object 64 (write_members id deleted body more)
    (sound_named 64 (codes "body") (object body) _ refl refl (sound_body 64 body (omega arith) is_body)
    (sound_named 64 (codes "deleted") (boolean deleted) _ refl refl (sound_boolean 64 deleted)
    (sound_named 64 (codes "id") (string id) more refl before (sound_id 64 id is_id) h)))

sound_edit : (e : Edit) → IsEdit e → Sound 65 (edit_data e)
sound_edit e h = sound_write e.id e.deleted e.body (rev_member e.named) h.id h.body (before_rev e.named) (sound_rev_member 64 e.named h.named)

sound_merge : (m : Merge) → IsMerge m → Sound 65 (merge_data m)
sound_merge m h =
    sound_write m.id m.deleted m.body (member (codes "path") (revs_data (m.newest ∷ m.older)) no_members) h.id h.body refl
    (sound_named 64 (codes "path") (revs_data (m.newest ∷ m.older)) no_members refl refl (sound_revs 63 (m.newest ∷ m.older) h.revs) (sound_none 64))

sound_bulk : {X : Type 0} (of : X → Data) (P : X → Type 0) (xs : List X) (new_edits : Bool) → ((x : X) → P x → Sound 65 (of x)) → All P xs → Sound 67 (bulk_data (map of xs) new_edits)
sound_bulk of P xs new_edits sound h =
    sound_object 66 _
    (sound_named 66 (codes "bulk") _ _ refl refl (sound_array 65 _ (sound_items 65 of P sound xs h))
    (sound_named 66 (codes "new_edits") (boolean new_edits) no_members refl refl (sound_boolean 66 new_edits) (sound_none 66)))

-- ---- other commands

sound_counter_member : (n : ℕ) (named : Option ℕ) → IfSome named IsCounter → SoundMembers n (counter_member named)
sound_counter_member n None h = sound_none n
sound_counter_member n (Some counter) h =
    let low = h.1 in
    sound_named n (codes "rev") (number (unsigned counter)) no_members refl refl (sound_number n counter (omega arith)) (sound_none n)

before_counter : (named : Option ℕ) → is_before (codes "local") (counter_member named) ≡ true
before_counter None = refl
before_counter (Some counter) = refl

sound_local : (id : Id) (named : Option ℕ) (body : Option Body) → IsId id → IfSome named IsCounter → IfSome body IsBody → Sound 65 (put_local_data id named body)
sound_local id named None is_id is_counter is_body =
    sound_object 64 _ (sound_named 64 (codes "local") (string id) (counter_member named) refl (before_counter named) (sound_id 64 id is_id) (sound_counter_member 64 named is_counter))
sound_local id named (Some body) is_id is_counter is_body =
    sound_object 64 _
    (sound_named 64 (codes "body") (object body) _ refl refl (sound_body 64 body (omega arith) is_body)
    (sound_named 64 (codes "local") (string id) (counter_member named) refl (before_counter named) (sound_id 64 id is_id) (sound_counter_member 64 named is_counter)))

sound_documents : (n : ℕ) (es : List (Id × List Rev)) → T (is_sorted names.cmp es) → All NamesRevs es → SoundMembers (n + 1) (members_from (map named_leaves es))
sound_documents n [] rises h = sound_none (n + 1)
sound_documents n (e ∷ []) rises h =
    let here : NamesRevs e = All-head NamesRevs e [] h in
    sound_member (n + 1) e.0 (revs_data e.1) no_members (is_utf8-from_IsUtf8 e.0 here.0.text) refl (sound_revs n e.1 here.1) (sound_none (n + 1))
sound_documents n (e ∷ f ∷ es) rises h =
    let here : NamesRevs e = All-head NamesRevs e (f ∷ es) h in
    sound_member (n + 1) e.0 (revs_data e.1) (members_from (map named_leaves (f ∷ es))) (is_utf8-from_IsUtf8 e.0 here.0.text) (ap is_lt (rises-first e f es rises)) (sound_revs n e.1 here.1)
    (sound_documents n (f ∷ es) (rises-rest e f es rises) (All-tail NamesRevs e (f ∷ es) h))

pub sound_removed : (n : ℕ) (named : Map names (List Rev)) → All NamesRevs (entries named) → Sound (n + 1 + 1) (removed_data named)
sound_removed n named h = sound_object (n + 1) _ (sound_documents n (entries named) named.sorted h)

sound_command : (c : Command) → IsCommand c → Sound 67 (command_data c)
sound_command (Edits es) h = sound_bulk edit_data IsEdit es true sound_edit h.1
sound_command (Merges ms) h = sound_bulk merge_data IsMerge ms false sound_merge h.1
sound_command (PutLocal id named body) h = sound_deeper 65 67 (put_local_data id named body) (omega arith) (sound_local id named body h.0 h.1 h.2)
sound_command (Purge named) h =
    sound_object 66 _ (sound_named 66 (codes "purge") (removed_data named) no_members refl refl (sound_removed 64 named h.1) (sound_none 66))
sound_command (SetLimit limit) h =
    let low = h.1 in
    sound_object 66 _ (sound_named 66 (codes "limit") (number (unsigned limit)) no_members refl refl (sound_number 66 limit (omega arith)) (sound_none 66))
sound_command (SetPurgedLimit limit) h =
    let low = h.1 in
    sound_object 66 _ (sound_named 66 (codes "purged_limit") (number (unsigned limit)) no_members refl refl (sound_number 66 limit (omega arith)) (sound_none 66))
sound_command Compact h = sound_object 66 _ (sound_named 66 (codes "compact") (boolean true) no_members refl refl (sound_boolean 66 true) (sound_none 66))

-- ---- replies

utf8_name : (refusal : Refusal) → IsUtf8 (refusal_name refusal)
utf8_name Conflict = IsUtf8-are_ascii _ refl
utf8_name BadHistory = IsUtf8-are_ascii _ refl
utf8_name Missing = IsUtf8-are_ascii _ refl
utf8_name Deleted = IsUtf8-are_ascii _ refl
utf8_name GenerationLimit = IsUtf8-are_ascii _ refl

sound_refusal : (n : ℕ) (refusal : Refusal) → Sound n (string (refusal_name refusal))
sound_refusal n refusal = sound_string n (refusal_name refusal) (utf8_name refusal)

sound_edited : (n : ℕ) (o : Result Rev Refusal) → FitsEdit o → Sound n (outcome_data o)
sound_edited n (Ok rev) h = sound_rev n rev h
sound_edited n (Err refusal) h = sound_refusal n refusal

sound_merged : (n : ℕ) (o : Result Rev Refusal) → FitsMerge o → Sound n (outcome_data o)
sound_merged n (Ok rev) h = sound_rev n rev h
sound_merged n (Err refusal) h = sound_refusal n refusal

sound_local_outcome : (n : ℕ) (o : Result ℕ Refusal) → FitsLocal o → Sound n (local_outcome_data o)
sound_local_outcome n (Ok counter) h = sound_number n counter (omega (arith, h))
sound_local_outcome n (Err refusal) h = sound_refusal n refusal

sound_purged : (purge_seq : ℕ) (removed : Map names (List Rev)) → purge_seq ≤ 9223372036854775807 → All NamesRevs (entries removed) → Sound 67 (purged_data purge_seq removed)
sound_purged purge_seq removed le h =
    sound_object 66 _
    (sound_named 66 (codes "purge_seq") (number (unsigned purge_seq)) _ refl refl (sound_number 66 purge_seq le)
    (sound_named 66 (codes "purged") (removed_data removed) no_members refl refl (sound_removed 64 removed h) (sound_none 66)))

sound_reply : (c : Command) (r : Reply) → FitsReply c r → Sound 67 (reply_data r)
sound_reply (Edits es) (Wrote rs) h = sound_array 66 _ (sound_items 66 outcome_data FitsEdit (sound_edited 66) rs h)
sound_reply (Edits es) (WroteLocal r) h = absurd h
sound_reply (Edits es) (Purged n removed) h = absurd h
sound_reply (Edits es) Done h = absurd h
sound_reply (Merges ms) (Wrote rs) h = sound_array 66 _ (sound_items 66 outcome_data FitsMerge (sound_merged 66) rs h)
sound_reply (Merges ms) (WroteLocal r) h = absurd h
sound_reply (Merges ms) (Purged n removed) h = absurd h
sound_reply (Merges ms) Done h = absurd h
sound_reply (PutLocal id named body) (Wrote rs) h = absurd h
sound_reply (PutLocal id named body) (WroteLocal r) h = sound_local_outcome 67 r h
sound_reply (PutLocal id named body) (Purged n removed) h = absurd h
sound_reply (PutLocal id named body) Done h = absurd h
sound_reply (Purge asked) (Wrote rs) h = absurd h
sound_reply (Purge asked) (WroteLocal r) h = absurd h
sound_reply (Purge asked) (Purged n removed) h = sound_purged n removed h.0 h.1
sound_reply (Purge asked) Done h = absurd h
sound_reply (SetLimit limit) (Wrote rs) h = absurd h
sound_reply (SetLimit limit) (WroteLocal r) h = absurd h
sound_reply (SetLimit limit) (Purged n removed) h = absurd h
sound_reply (SetLimit limit) Done h = sound_boolean 67 true
sound_reply (SetPurgedLimit limit) (Wrote rs) h = absurd h
sound_reply (SetPurgedLimit limit) (WroteLocal r) h = absurd h
sound_reply (SetPurgedLimit limit) (Purged n removed) h = absurd h
sound_reply (SetPurgedLimit limit) Done h = sound_boolean 67 true
sound_reply Compact (Wrote rs) h = absurd h
sound_reply Compact (WroteLocal r) h = absurd h
sound_reply Compact (Purged n removed) h = absurd h
sound_reply Compact Done h = sound_boolean 67 true

-- ---- the line

sound_seat : (n : ℕ) (seat : Seat) → seat.session < 64 → seat.call ≤ 9223372036854775807 → Sound (n + 1) (seat_data seat)
sound_seat n seat low le =
    sound_array n _
    (sound_item n (number (unsigned seat.session)) _ (sound_number n seat.session (omega arith))
    (sound_item n (number (unsigned seat.call)) no_items (sound_number n seat.call le) (record { whole = refl; utf8 = refl; ordered = refl; nest = omega arith })))

sound_line : (e : Entry) → IsLine e → Sound 68 (entry_data e)
sound_line e h =
    sound_object 67 _
    (sound_named 67 (codes "command") (command_data e.command) _ refl refl (sound_command e.command h.entry.command)
    (sound_named 67 (codes "reply") (reply_data e.reply) _ refl refl (sound_reply e.command e.reply h.entry.reply)
    (sound_named 67 (codes "seat") (seat_data e.seat) no_members refl refl (sound_seat 66 e.seat h.entry.seat.session h.call) (sound_none 67))))

-- a line reads back
pub line-reads : (e : Entry) → IsLine e → IsTextOf (entry_data e) (line_text e)
line-reads e h = sound_text 68 (entry_data e) (omega arith) (sound_line e h)

-- a line has no line feed
pub line-one : (e : Entry) → IsLine e → is_one_line (line_text e) ≡ true
line-one e h = one-compact_text (entry_data e) (sound_line e h).whole

-- and is the JSON of its value
pub line-json : (e : Entry) → IsLine e → json_of (line_text e) ≡ Ok (entry_data e)
line-json e h = let s = sound_line e h in json_of-value (entry_data e) (line_text e) (line-reads e h) s.whole (omega (arith, s.nests))
