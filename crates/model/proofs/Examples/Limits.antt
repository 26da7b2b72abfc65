-- Limits, each at its end: what is just within, and what is just beyond.
use Rattle.std.specs.Prelude.{◌≡◌, ℕ, zero, suc, true, false, [], ◌∷◌, replicate, pos, negsuc, refl}
use Rattle.std.specs.Str.{is_utf8, chars}
use Rattle.std.proofs.Common.{arith}
use Rattle.json.proofs.Printed.Utf8.{IsUtf8-are_ascii}
use Rattle.serde_json.specs.Data.{Data, null, unsigned, negative, number, string, array, no_items, item, no_members, member}
use Rattle.model.specs.Map.{empty}
use Rattle.model.specs.Profile.{is_special, without_specials, is_whole, has_utf8, members_have_utf8, max_nesting}
use Rattle.model.specs.Body.{Body, IsBody}
use Rattle.model.specs.Revision.{IsRev, last_generation}
use Rattle.model.specs.Command.{Id, IsId, Purge, Purged, IsCounter, IsLimit, IsSeat, FitsReply, max_edits}
use Rattle.model.specs.PurgeLog.{empty_log}
use Rattle.model.specs.World.{Config, IsConfig}
use Rattle.model.proofs.Examples.Fixtures.{a, rev}

-- ---- names

a_name_that_begins_with_an_underscore_is_special : is_special (0x5f ∷ 0x61 ∷ []) ≡ true
a_name_that_begins_with_an_underscore_is_special = refl

a_name_that_only_has_one_is_not : is_special (0x61 ∷ 0x5f ∷ []) ≡ false
a_name_that_only_has_one_is_not = refl

the_empty_name_is_not : is_special [] ≡ false
the_empty_name_is_not = refl

its_neighbours_are_not : without_specials (member (0x5e ∷ []) null (member (0x5f ∷ []) null (member (0x60 ∷ []) null no_members))) ≡ member (0x5e ∷ []) null (member (0x60 ∷ []) null no_members)
its_neighbours_are_not = refl

-- ---- numbers

the_largest_is_whole : is_whole (number (unsigned 9223372036854775807)) ≡ true
the_largest_is_whole = refl

one_more_is_not : is_whole (number (unsigned 9223372036854775808)) ≡ false
one_more_is_not = refl

-- -9223372036854775808
the_smallest_is_whole : is_whole (number (negative (negsuc 9223372036854775807))) ≡ true
the_smallest_is_whole = refl

one_less_is_not : is_whole (number (negative (negsuc 9223372036854775808))) ≡ false
one_less_is_not = refl

zero_has_one_form : is_whole (number (negative (pos 0))) ≡ false
zero_has_one_form = refl

a_number_above_it_has_one_form : is_whole (number (negative (pos 5))) ≡ false
a_number_above_it_has_one_form = refl

-- ---- texts

two_bytes_of_one_character_are_a_text : has_utf8 (string (0xc3 ∷ 0xa4 ∷ [])) ≡ true
unfolding is_utf8 chars lib.Utf8.encode
two_bytes_of_one_character_are_a_text = refl

one_of_them_is_none : has_utf8 (string (0xc3 ∷ [])) ≡ false
unfolding is_utf8 chars lib.Utf8.encode
one_of_them_is_none = refl

nor_is_it_a_name : members_have_utf8 (member (0xc3 ∷ []) null no_members) ≡ false
unfolding is_utf8 chars lib.Utf8.encode
nor_is_it_a_name = refl

-- ---- nesting

abbrev nested : ℕ → Data
nested zero = array no_items
nested (suc n) = array (item (nested n) no_items)

abbrev holding : Data → Body
holding d = member a d no_members

a_body_may_nest_64_deep : IsBody (holding (nested 62))
unfolding is_utf8 chars lib.Utf8.encode
a_body_may_nest_64_deep = record { whole = refl; utf8 = refl; ordered = refl; plain = refl; nests = omega arith }

and_no_deeper : IsBody (holding (nested 63)) → ⊥
and_no_deeper is = omega (arith, is.nests)

a_request_may_nest_72_deep : max_nesting ≡ 72
a_request_may_nest_72_deep = refl

-- ---- identities

abbrev letters : ℕ → Id
letters n = replicate n 0x61

an_id_may_have_512_bytes : IsId (letters 512)
an_id_may_have_512_bytes = record { text = IsUtf8-are_ascii (letters 512) refl; not_empty = omega arith; short = omega arith }

and_no_more : IsId (letters 513) → ⊥
and_no_more is = omega (arith, is.short)

and_none_is_empty : IsId [] → ⊥
and_none_is_empty is = omega (arith, is.not_empty)

the_last_generation : last_generation ≡ 4294967295
the_last_generation = refl

no_revision_is_of_generation_0 : IsRev (rev 0 0xaa) → ⊥
no_revision_is_of_generation_0 is = omega (arith, is.not_zero)

-- ---- what is counted

a_bulk_may_have_1048576_edits : max_edits ≡ 1048576
a_bulk_may_have_1048576_edits = refl

a_local_document_counts_to_4294967295 : IsCounter 4294967295
a_local_document_counts_to_4294967295 = (omega arith, omega arith)

and_not_on : IsCounter 4294967296 → ⊥
and_not_on is = omega (arith, is.1)

nor_from_0 : IsCounter 0 → ⊥
nor_from_0 is = omega (arith, is.0)

as_many_revisions_may_be_kept : IsLimit 4294967295
as_many_revisions_may_be_kept = (omega arith, omega arith)

and_not_one_more : IsLimit 4294967296 → ⊥
and_not_one_more is = omega (arith, is.1)

but_one_at_least : IsLimit 0 → ⊥
but_one_at_least is = omega (arith, is.0)

the_log_keeps_a_thousand_purges : empty_log.limit ≡ 1000
the_log_keeps_a_thousand_purges = refl

purge_numbers_fit_an_answer : FitsReply (Purge empty) (Purged 9223372036854775808 empty) → ⊥
purge_numbers_fit_an_answer fits = omega (arith, fits.0)

-- ---- calls

the_last_session_has_a_call_4294967296 : IsSeat (record { session = 63; call = 4294967296 })
the_last_session_has_a_call_4294967296 = record { session = omega arith; call = (omega arith, omega arith) }

there_is_no_session_64 : IsSeat (record { session = 64; call = 1 }) → ⊥
there_is_no_session_64 is = omega (arith, is.session)

and_no_call_0 : IsSeat (record { session = 0; call = 0 }) → ⊥
and_no_call_0 is = omega (arith, is.call)

-- ---- configurations

abbrev largest : Config
largest = record { sessions = 64; queue = 1024; gather = 64; slice = 4096; slack = 64; tries = 64; max_places = 4294967295 }

the_largest_is_one : IsConfig largest
the_largest_is_one = record {
  sessions_in = (omega arith, omega arith);
  queue_in = (omega arith, omega arith);
  gather_in = (omega arith, omega arith);
  slice_in = (omega arith, omega arith);
  slack_in = (omega arith, omega arith);
  tries_in = (omega arith, omega arith);
  max_places_in = (omega arith, omega arith);
}

no_more_sessions : IsConfig (record largest { sessions = 65 }) → ⊥
no_more_sessions is = omega (arith, is.sessions_in)

no_more_jobs_wait : IsConfig (record largest { queue = 1025 }) → ⊥
no_more_jobs_wait is = omega (arith, is.queue_in)

no_more_places : IsConfig (record largest { max_places = 4294967296 }) → ⊥
no_more_places is = omega (arith, is.max_places_in)
