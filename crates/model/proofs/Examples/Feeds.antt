-- The changes feed: its rows, where it goes on from, and what a follower takes.
use Rattle.std.specs.Prelude.{◌≡◌, ℕ, true, false, List, [], ◌∷◌, codes, take, Option, Some, None, refl}
use Rattle.model.specs.Map.{Map, empty, entries}
use Rattle.model.specs.Command.{Id, names, Command, Merges, Purge}
use Rattle.model.specs.Query.{Changes, MainOnly, AllDocs, Row, Answer, Changed}
use Rattle.model.specs.Changes.{every_id, wanted_by, ids_named, rows_since, last_seq_of, fed}
use Rattle.model.proofs.Examples.Fixtures.{computed, after, answer, rev, put_new, delete, path, of, a, b, c, d, a1, x2}

abbrev row_of : ℕ → Id → Row
row_of seq id = record { seq = seq; id = id; changes = a1 ∷ []; deleted = false }

abbrev deletion_of_a : Row
deletion_of_a = record { seq = 4; id = a; changes = x2 ∷ []; deleted = true }

abbrev one_of_three_deleted : List Command
one_of_three_deleted = put_new a ∷ put_new b ∷ put_new c ∷ delete a (Some a1) ∷ []

the_first_rows_leave_the_others_pending : answer one_of_three_deleted (Changes 0 (Some 2) MainOnly None) ≡ Changed (record { last_seq = 3; pending = 1; rows = row_of 2 b ∷ row_of 3 c ∷ [] })
unfolding computed
the_first_rows_leave_the_others_pending = refl

a_deleted_document_stands_at_its_deletion_alone : answer one_of_three_deleted (Changes 3 None MainOnly None) ≡ Changed (record { last_seq = 4; pending = 0; rows = deletion_of_a ∷ [] })
unfolding computed
a_deleted_document_stands_at_its_deletion_alone = refl

no_limit_takes_all_rows : answer one_of_three_deleted (Changes 0 None MainOnly None) ≡ Changed (record { last_seq = 4; pending = 0; rows = row_of 2 b ∷ row_of 3 c ∷ deletion_of_a ∷ [] })
unfolding computed
no_limit_takes_all_rows = refl

a_limit_of_zero_acts_as_one : answer one_of_three_deleted (Changes 0 (Some 0) MainOnly None) ≡ Changed (record { last_seq = 2; pending = 2; rows = row_of 2 b ∷ [] })
unfolding computed
a_limit_of_zero_acts_as_one = refl

a_number_still_to_come_has_no_rows : answer one_of_three_deleted (Changes 9 (Some 2) MainOnly None) ≡ Changed (record { last_seq = 4; pending = 0; rows = [] })
unfolding computed
a_number_still_to_come_has_no_rows = refl

past_the_last_row_the_feed_goes_on_from_the_update_number : answer (put_new a ∷ put_new b ∷ Purge (of b (a1 ∷ [])) ∷ []) (Changes 0 (Some 1) MainOnly None) ≡ Changed (record { last_seq = 2; pending = 0; rows = row_of 1 a ∷ [] })
unfolding computed
past_the_last_row_the_feed_goes_on_from_the_update_number = refl

-- ---- styles

abbrev in_conflict : List Command
in_conflict = Merges (path d (rev 2 0xbb) (rev 1 0xaa ∷ []) ∷ record (path d (rev 3 0xcc) (rev 2 0xdd ∷ rev 1 0xaa ∷ [])) { deleted = true } ∷ []) ∷ []

a_row_lists_the_winner : answer in_conflict (Changes 0 None MainOnly None) ≡ Changed (record { last_seq = 2; pending = 0; rows = record { seq = 2; id = d; changes = rev 2 0xbb ∷ []; deleted = false } ∷ [] })
unfolding computed
a_row_lists_the_winner = refl

or_all_leaves_in_the_order_of_the_winner : answer in_conflict (Changes 0 None AllDocs None) ≡ Changed (record { last_seq = 2; pending = 0; rows = record { seq = 2; id = d; changes = rev 2 0xbb ∷ rev 3 0xcc ∷ []; deleted = false } ∷ [] })
unfolding computed
or_all_leaves_in_the_order_of_the_winner = refl

-- ---- a follower that takes two rows at a time

abbrev rows_after : ℕ → List Row
rows_after cursor = take 2 (rows_since every_id (after one_of_three_deleted) cursor MainOnly)

a_follower_takes_the_first_rows : rows_after 0 ≡ row_of 2 b ∷ row_of 3 c ∷ []
unfolding computed
a_follower_takes_the_first_rows = refl

and_goes_on_from_the_last_of_them : rows_after (last_seq_of 0 (rows_after 0)) ≡ deletion_of_a ∷ []
unfolding computed
and_goes_on_from_the_last_of_them = refl

until_none_is_left : rows_after (last_seq_of 3 (rows_after 3)) ≡ []
unfolding computed
until_none_is_left = refl

abbrev map_of_both : Map names Row
map_of_both = fed (fed empty (rows_after 0)) (rows_after 3)

its_map_has_each_document_at_its_last_row : entries map_of_both ≡ (a, deletion_of_a) ∷ (b, row_of 2 b) ∷ (c, row_of 3 c) ∷ []
unfolding computed
its_map_has_each_document_at_its_last_row = refl

-- ---- a feed of some documents

abbrev zz : Id
zz = codes "zz"

abbrev three : List Command
three = put_new a ∷ put_new b ∷ put_new c ∷ []

abbrev page_of : List Id → ℕ → Option ℕ → Answer
page_of texts since limit = answer three (Changes since limit MainOnly (Some (ids_named texts)))

-- `zz` is no document's, and `a` is there twice
a_list_names_each_document_once_in_the_order_of_the_ids : ids_named (c ∷ a ∷ zz ∷ a ∷ [] ∷ []) ≡ a ∷ c ∷ zz ∷ []
unfolding computed
a_list_names_each_document_once_in_the_order_of_the_ids = refl

the_wanted_rows_stand_in_the_order_of_their_numbers : page_of (c ∷ a ∷ zz ∷ a ∷ []) 0 None ≡ Changed (record { last_seq = 3; pending = 0; rows = row_of 1 a ∷ row_of 3 c ∷ [] })
unfolding computed
the_wanted_rows_stand_in_the_order_of_their_numbers = refl

the_limit_counts_wanted_rows_alone : page_of (c ∷ b ∷ []) 0 (Some 1) ≡ Changed (record { last_seq = 2; pending = 1; rows = row_of 2 b ∷ [] })
unfolding computed
the_limit_counts_wanted_rows_alone = refl

past_the_last_wanted_row_it_goes_on_from_the_update_number : page_of (a ∷ []) 0 (Some 1) ≡ Changed (record { last_seq = 3; pending = 0; rows = row_of 1 a ∷ [] })
unfolding computed
past_the_last_wanted_row_it_goes_on_from_the_update_number = refl

none_wanted_has_no_rows : page_of [] 0 None ≡ Changed (record { last_seq = 3; pending = 0; rows = [] })
unfolding computed
none_wanted_has_no_rows = refl

abbrev wanted_after : ℕ → List Row
wanted_after cursor = take 1 (rows_since (wanted_by (Some (ids_named (c ∷ b ∷ [])))) (after three) cursor MainOnly)

a_follower_of_some_documents_takes_their_rows : wanted_after 0 ≡ row_of 2 b ∷ []
unfolding computed
a_follower_of_some_documents_takes_their_rows = refl

and_the_next_of_them : wanted_after 2 ≡ row_of 3 c ∷ []
unfolding computed
and_the_next_of_them = refl

until_none_of_them_is_left : wanted_after 3 ≡ []
unfolding computed
until_none_of_them_is_left = refl
