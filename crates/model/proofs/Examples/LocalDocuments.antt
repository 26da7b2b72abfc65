-- Local documents: the numbers of their revisions.
use Rattle.std.specs.Prelude.{◌≡◌, ℕ, List, [], ◌∷◌, codes, Option, Some, None, Ok, Err, refl}
use Rattle.serde_json.specs.Data.{unsigned, number, no_members, member}
use Rattle.model.specs.Body.{Body}
use Rattle.model.specs.Map.{empty, put}
use Rattle.model.specs.Command.{Id, Command, PutLocal, Conflict, Missing, GenerationLimit, WroteLocal}
use Rattle.model.specs.Database.{Database, empty_database, put_local_reply}
use Rattle.model.specs.Query.{Changes, GetLocal, MainOnly, Changed, FoundLocal}
use Rattle.model.proofs.Examples.Fixtures.{computed, replies, after, answer}

abbrev r : Id
r = codes "r"

-- `{"last_seq":2}`
abbrev checkpoint : Body
checkpoint = member (codes "last_seq") (number (unsigned 2)) no_members

abbrev put_r : Option ℕ → Command
put_r named = PutLocal r named (Some checkpoint)

abbrev delete_r : Option ℕ → Command
delete_r named = PutLocal r named None

abbrev two_writes : List Command
two_writes = put_r None ∷ put_r None ∷ put_r (Some 1) ∷ []

abbrev and_deleted : List Command
and_deleted = put_r None ∷ put_r None ∷ put_r (Some 1) ∷ delete_r (Some 2) ∷ delete_r (Some 2) ∷ put_r (Some 2) ∷ put_r None ∷ []

a_write_names_the_present_revision : replies and_deleted ≡ WroteLocal (Ok 1) ∷ WroteLocal (Err Conflict) ∷ WroteLocal (Ok 2) ∷ WroteLocal (Ok 0) ∷ WroteLocal (Err Missing) ∷ WroteLocal (Err Conflict) ∷ WroteLocal (Ok 1) ∷ []
unfolding computed
a_write_names_the_present_revision = refl

the_last_write_is_got : answer two_writes (GetLocal r) ≡ FoundLocal (Some (2, checkpoint))
unfolding computed
the_last_write_is_got = refl

a_deleted_one_is_not_got : answer (put_r None ∷ delete_r (Some 1) ∷ []) (GetLocal r) ≡ FoundLocal None
unfolding computed
a_deleted_one_is_not_got = refl

local_documents_take_no_update_number : after two_writes ≡ record empty_database { locals = put empty r (record { counter = 2; body = checkpoint }); calls = put empty 0 3 }
unfolding computed
local_documents_take_no_update_number = refl

local_documents_are_no_changes : answer two_writes (Changes 0 None MainOnly None) ≡ Changed (record { last_seq = 0; pending = 0; rows = [] })
unfolding computed
local_documents_are_no_changes = refl

-- ---- the last number

abbrev with_number : ℕ → Database
with_number k = record empty_database { locals = put empty r (record { counter = k; body = checkpoint }) }

a_write_reaches_the_last_number : put_local_reply (with_number 4294967294) r (Some 4294967294) (Some checkpoint) ≡ Ok 4294967295
unfolding computed
a_write_reaches_the_last_number = refl

no_write_follows_it : put_local_reply (with_number 4294967295) r (Some 4294967295) (Some checkpoint) ≡ Err GenerationLimit
unfolding computed
no_write_follows_it = refl

but_a_deletion_does : put_local_reply (with_number 4294967295) r (Some 4294967295) None ≡ Ok 0
unfolding computed
but_a_deletion_does = refl
