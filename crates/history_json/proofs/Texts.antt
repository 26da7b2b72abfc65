-- Texts that are written in parts.
use Rattle.std.proofs.Common.{◌≡◌, ℕ, Bool, true, false, List, ◌++◌, Option, Some, None, append_assoc, decimal, refl, ap, ◌∙◌, if◌then◌else◌}
use Rattle.std.specs.Prelude.{codes}
use Rattle.serde_json.proofs.OnLiterals.{serde_json_on_literals}
use Rattle.serde_json.specs.Data.{Data, string, boolean, array, object, Members, member, no_members}
use Rattle.serde_json.specs.View.{items_of}
use Rattle.serde_json.specs.Written.{compact_text, members_text}
use Rattle.model.specs.Body.{Body, body_text}
use Rattle.model.specs.Command.{Id, Seat, Entry, SetLimit, SetPurgedLimit, Compact, Purge, names}
use Rattle.model.specs.declared.refusal.Refusal.{Refusal}
use Rattle.model.specs.declared.refusal.Refusal.TheVariants.{Conflict, BadHistory, Missing, Deleted, GenerationLimit}
use Rattle.model.specs.Map.{Map}
use Rattle.model.specs.Revision.{Rev}
use Rattle.document_json.specs.Written.{rev_data, revs_data}
use Rattle.api_json.specs.Purge.{removed_data}
use Rattle.history_json.specs.Commands.{bulk_data, command_data, counter_member, put_local_data, rev_member, write_members}
use Rattle.history_json.specs.Fronts.{body_front, write_front}
use Rattle.history_json.specs.Line.{line_text, seat_data}
use Rattle.history_json.specs.Replies.{refusal_name, reply_data}

-- ---- settings

pub limit_text : (limit : ℕ) → codes "{\"limit\":" ++ (decimal limit ++ codes "}") ≡ compact_text (command_data (SetLimit limit))
unfolding serde_json_on_literals
limit_text limit = refl

pub purged_limit_text : (limit : ℕ) → codes "{\"purged_limit\":" ++ (decimal limit ++ codes "}") ≡ compact_text (command_data (SetPurgedLimit limit))
unfolding serde_json_on_literals
purged_limit_text limit = refl

pub compaction_text : codes "{\"compact\":true}" ≡ compact_text (command_data Compact)
unfolding serde_json_on_literals
compaction_text = refl

pub purge_text : (named : Map names (List Rev)) → codes "{\"purge\":" ++ (compact_text (removed_data named) ++ codes "}") ≡ compact_text (command_data (Purge named))
unfolding serde_json_on_literals
purge_text named = refl

-- ---- flags and refusals

abbrev pub flag : Bool → List ℕ
flag b = if b then codes "true" else codes "false"

flag_text : (b : Bool) → flag b ≡ compact_text (boolean b)
flag_text true = refl
flag_text false = refl

pub name_text : (refusal : Refusal) → codes "\"" ++ (refusal_name refusal ++ codes "\"") ≡ compact_text (string (refusal_name refusal))
unfolding serde_json_on_literals
name_text Conflict = refl
name_text BadHistory = refl
name_text Missing = refl
name_text Deleted = refl
name_text GenerationLimit = refl

-- ---- edits and merges

joined_5 : (a b c d e f : List ℕ) → (a ++ (b ++ (c ++ (d ++ e)))) ++ f ≡ a ++ (b ++ (c ++ (d ++ (e ++ f))))
joined_5 a b c d e f = simp append_assoc refl

joined_6 : (a b c d e f g : List ℕ) → (a ++ (b ++ (c ++ (d ++ (e ++ f))))) ++ g ≡ a ++ (b ++ (c ++ (d ++ (e ++ (f ++ g)))))
joined_6 a b c d e f g = simp append_assoc refl

-- what is formatted before the id
abbrev pub before_id : Body → Bool → List ℕ
before_id body deleted = codes "{\"body\":" ++ (body_text body ++ (codes ",\"deleted\":" ++ (flag deleted ++ codes ",\"id\":")))

pub front_text : (id : Id) (deleted : Bool) (body : Body) → before_id body deleted ++ compact_text (string id) ≡ write_front id deleted body
front_text id deleted body =
    joined_5 (codes "{\"body\":") (body_text body) (codes ",\"deleted\":") (flag deleted) (codes ",\"id\":") (compact_text (string id))
    ∙ ap (λ f. codes "{\"body\":" ++ (body_text body ++ (codes ",\"deleted\":" ++ (f ++ (codes ",\"id\":" ++ compact_text (string id)))))) (flag_text deleted)

pub write_text : (id : Id) (deleted : Bool) (body : Body) (more : Members) → write_front id deleted body ++ members_text true more ≡ compact_text (object (write_members id deleted body more))
unfolding serde_json_on_literals
write_text id deleted body more =
    joined_6 (codes "{\"body\":") (body_text body) (codes ",\"deleted\":") (compact_text (boolean deleted)) (codes ",\"id\":") (compact_text (string id)) (members_text true more)

pub named_text : (rev : Rev) → codes ",\"rev\":" ++ (compact_text (rev_data rev) ++ codes "}") ≡ members_text true (rev_member (Some rev))
unfolding serde_json_on_literals
named_text rev = refl

pub unnamed_text : codes "}" ≡ members_text true (rev_member None)
unnamed_text = refl

pub path_text : (revs : List Rev) → codes ",\"path\":" ++ (compact_text (revs_data revs) ++ codes "}") ≡ members_text true (member (codes "path") (revs_data revs) no_members)
unfolding serde_json_on_literals
path_text revs = refl

joined_2 : (a b c d e : List ℕ) → a ++ (b ++ (c ++ (d ++ e))) ≡ a ++ (b ++ ((c ++ d) ++ e))
joined_2 a b c d e = simp append_assoc refl

pub bulk_text : (writes : List Data) (new_edits : Bool)
    → codes "{\"bulk\":" ++ (compact_text (array (items_of writes)) ++ (codes ",\"new_edits\":" ++ (flag new_edits ++ codes "}"))) ≡ compact_text (bulk_data writes new_edits)
unfolding serde_json_on_literals
bulk_text writes new_edits = ap (λ f. codes "{\"bulk\":" ++ (compact_text (array (items_of writes)) ++ (codes ",\"new_edits\":" ++ (f ++ codes "}")))) (flag_text new_edits)

-- ---- local documents

pub counter_text : (counter : ℕ) → codes ",\"rev\":" ++ (decimal counter ++ codes "}") ≡ members_text true (counter_member (Some counter))
unfolding serde_json_on_literals
counter_text counter = refl

pub no_counter_text : codes "}" ≡ members_text true (counter_member None)
no_counter_text = refl

joined_local : (a b c d e f : List ℕ) → (a ++ (b ++ c)) ++ (d ++ (e ++ f)) ≡ a ++ (b ++ (c ++ (d ++ (e ++ f))))
joined_local a b c d e f = simp append_assoc refl

pub local_text : (id : Id) (named : Option ℕ) (body : Option Body)
    → body_front body ++ (codes "\"local\":" ++ (compact_text (string id) ++ members_text true (counter_member named))) ≡ compact_text (put_local_data id named body)
unfolding serde_json_on_literals
local_text id named None = refl
local_text id named (Some body) = joined_local (codes "{\"body\":") (compact_text (object body)) (codes ",") (codes "\"local\":") (compact_text (string id)) (members_text true (counter_member named))

-- ---- lines

pub seat_text : (seat : Seat) → codes ",\"seat\":[" ++ (decimal seat.session ++ (codes "," ++ (decimal seat.call ++ codes "]}"))) ≡ members_text true (member (codes "seat") (seat_data seat) no_members)
unfolding serde_json_on_literals
seat_text seat = simp append_assoc refl

pub entry_text : (e : Entry)
    → codes "{\"command\":" ++ (compact_text (command_data e.command) ++ (codes ",\"reply\":" ++ (compact_text (reply_data e.reply) ++ members_text true (member (codes "seat") (seat_data e.seat) no_members)))) ≡ line_text e
unfolding serde_json_on_literals
entry_text e = refl
