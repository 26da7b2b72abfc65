-- Queries on documents: the winner, its conflicts, open revisions, and differences.
use Rattle.std.specs.Prelude.{◌≡◌, true, List, [], ◌∷◌, ◌++◌, Some, None, Ok, Err, refl}
use Rattle.model.specs.Map.{empty, put}
use Rattle.model.specs.Command.{Command, Merges, SetLimit, Compact}
use Rattle.model.specs.Query.{Get, OpenRevs, RevsDiff, AllDocuments, Info, RevsLimit, Available, IsDeleted, NoBody, IsMissing, WasDeleted, Found, Opened, Differences, Documents, Counted, Limit}
use Rattle.model.proofs.Examples.Fixtures.{computed, answer, plain, shown, braces, counting, rev, put_new, put_over, delete, path, merge, of, a, b, c, d, a1, a2, a3, x2}

-- ---- the winner

abbrev dead_and_alive : List Command
dead_and_alive = Merges (record (path d (rev 2 0xff) []) { deleted = true } ∷ path d (rev 1 0) [] ∷ []) ∷ []

a_live_leaf_wins_over_a_later_deletion : answer dead_and_alive (Get d None plain) ≡ Found (Ok (shown d (rev 1 0) braces))
unfolding computed
a_live_leaf_wins_over_a_later_deletion = refl

the_deletion_is_a_deleted_conflict : answer dead_and_alive (Get d None (record plain { conflicts = true; deleted_conflicts = true })) ≡ Found (Ok (record (shown d (rev 1 0) braces) { deleted_conflicts = rev 2 0xff ∷ [] }))
unfolding computed
the_deletion_is_a_deleted_conflict = refl

the_greater_hash_wins_and_the_other_is_a_conflict : answer (Merges (path d (rev 1 0xaa) [] ∷ path d (rev 1 0xbb) [] ∷ []) ∷ []) (Get d None (record plain { conflicts = true })) ≡ Found (Ok (record (shown d (rev 1 0xbb) braces) { conflicts = rev 1 0xaa ∷ [] }))
unfolding computed
the_greater_hash_wins_and_the_other_is_a_conflict = refl

a_live_loser_is_no_deleted_conflict : answer (Merges (record (path d (rev 2 0xff) []) { deleted = true } ∷ path d (rev 1 0) [] ∷ path d (rev 1 0xbb) [] ∷ []) ∷ []) (Get d None (record plain { conflicts = true; deleted_conflicts = true })) ≡ Found (Ok (record (shown d (rev 1 0xbb) braces) { conflicts = rev 1 0 ∷ []; deleted_conflicts = rev 2 0xff ∷ [] }))
unfolding computed
a_live_loser_is_no_deleted_conflict = refl

an_unknown_document_is_missing : answer [] (Get d None plain) ≡ Found (Err IsMissing)
unfolding computed
an_unknown_document_is_missing = refl

a_path_is_shown_newest_first : answer (merge d (rev 2 0xbb) [] ∷ merge d (rev 3 0xcc) (rev 2 0xbb ∷ rev 1 0xaa ∷ []) ∷ []) (Get d None (record plain { revs = true; revs_info = true }))
    ≡ Found (Ok (record (shown d (rev 3 0xcc) braces) { revisions = Some (rev 3 0xcc ∷ rev 2 0xbb ∷ rev 1 0xaa ∷ []); revs_info = Some ((rev 3 0xcc, Available) ∷ (rev 2 0xbb, Available) ∷ (rev 1 0xaa, NoBody) ∷ []) }))
unfolding computed
a_path_is_shown_newest_first = refl

what_is_listed_of_an_unknown_document_is_missing : answer [] (OpenRevs d (Some (rev 1 0xaa ∷ [])) plain) ≡ Opened (Err (rev 1 0xaa) ∷ [])
unfolding computed
what_is_listed_of_an_unknown_document_is_missing = refl

an_unknown_document_has_no_leaves : answer [] (OpenRevs d None plain) ≡ Opened []
unfolding computed
an_unknown_document_has_no_leaves = refl

-- ---- two branches of unequal length

abbrev uneven : List Command
uneven = Merges (path d (rev 2 0xbb) (rev 1 0xaa ∷ []) ∷ path d (rev 3 0xcc) (rev 2 0xdd ∷ rev 1 0xaa ∷ []) ∷ []) ∷ []

all_leaves_stand_in_the_order_of_the_winner : answer uneven (OpenRevs d None plain) ≡ Opened (Ok (shown d (rev 3 0xcc) braces) ∷ Ok (shown d (rev 2 0xbb) braces) ∷ [])
unfolding computed
all_leaves_stand_in_the_order_of_the_winner = refl

the_latest_of_a_shared_ancestor_are_both_leaves : answer uneven (OpenRevs d (Some (rev 1 0xaa ∷ rev 9 0x99 ∷ [])) (record plain { latest = true })) ≡ Opened (Ok (shown d (rev 3 0xcc) braces) ∷ Ok (shown d (rev 2 0xbb) braces) ∷ Err (rev 9 0x99) ∷ [])
unfolding computed
the_latest_of_a_shared_ancestor_are_both_leaves = refl

a_leaf_is_given_once_and_an_unknown_revision_as_often_as_asked : answer uneven (OpenRevs d (Some (rev 9 0x99 ∷ rev 3 0xcc ∷ rev 2 0xdd ∷ rev 9 0x99 ∷ [])) (record plain { latest = true })) ≡ Opened (Err (rev 9 0x99) ∷ Ok (shown d (rev 3 0xcc) braces) ∷ Err (rev 9 0x99) ∷ [])
unfolding computed
a_leaf_is_given_once_and_an_unknown_revision_as_often_as_asked = refl

the_latest_of_an_ancestor_is_got : answer uneven (Get d (Some (rev 2 0xdd)) (record plain { latest = true })) ≡ Found (Ok (shown d (rev 3 0xcc) braces))
unfolding computed
the_latest_of_an_ancestor_is_got = refl

of_two_leaves_below_the_first_in_the_order_of_the_winner_is_the_latest : answer uneven (Get d (Some (rev 1 0xaa)) (record plain { latest = true })) ≡ Found (Ok (shown d (rev 3 0xcc) braces))
unfolding computed
of_two_leaves_below_the_first_in_the_order_of_the_winner_is_the_latest = refl

an_ancestor_without_body_is_missing : answer uneven (Get d (Some (rev 2 0xdd)) plain) ≡ Found (Err IsMissing)
unfolding computed
an_ancestor_without_body_is_missing = refl

leaves_below_the_largest_missing_generation_may_be_ancestors : answer uneven (RevsDiff (of d (rev 3 0xcc ∷ rev 3 0xee ∷ rev 2 0xff ∷ []))) ≡ Differences (put empty d (record { missing = rev 3 0xee ∷ rev 2 0xff ∷ []; possible_ancestors = rev 2 0xbb ∷ [] }))
unfolding computed
leaves_below_the_largest_missing_generation_may_be_ancestors = refl

the_largest_missing_generation_may_stand_last : answer uneven (RevsDiff (of d (rev 2 0xff ∷ rev 3 0xee ∷ []))) ≡ Differences (put empty d (record { missing = rev 2 0xff ∷ rev 3 0xee ∷ []; possible_ancestors = rev 2 0xbb ∷ [] }))
unfolding computed
the_largest_missing_generation_may_stand_last = refl

possible_ancestors_stand_in_rising_order : answer uneven (RevsDiff (of d (rev 4 0xee ∷ []))) ≡ Differences (put empty d (record { missing = rev 4 0xee ∷ []; possible_ancestors = rev 2 0xbb ∷ rev 3 0xcc ∷ [] }))
unfolding computed
possible_ancestors_stand_in_rising_order = refl

a_revision_that_is_asked_for_twice_is_missing_once : answer uneven (RevsDiff (of d (rev 3 0xee ∷ rev 3 0xee ∷ []))) ≡ Differences (put empty d (record { missing = rev 3 0xee ∷ []; possible_ancestors = rev 2 0xbb ∷ [] }))
unfolding computed
a_revision_that_is_asked_for_twice_is_missing_once = refl

of_an_unknown_document_all_is_missing_and_nothing_an_ancestor : answer [] (RevsDiff (of d (rev 3 0xee ∷ rev 1 0xaa ∷ []))) ≡ Differences (put empty d (record { missing = rev 3 0xee ∷ rev 1 0xaa ∷ []; possible_ancestors = [] }))
unfolding computed
of_an_unknown_document_all_is_missing_and_nothing_an_ancestor = refl

what_lacks_nothing_is_left_out : answer uneven (RevsDiff (of d (rev 3 0xcc ∷ rev 1 0xaa ∷ []))) ≡ Differences empty
unfolding computed
what_lacks_nothing_is_left_out = refl

-- ---- what a limit of one revision leaves

abbrev limited : List Command
limited = SetLimit 1 ∷ put_new a ∷ put_over a a1 (counting 1) ∷ put_over a a2 (counting 2) ∷ []

stemmed_revisions_are_no_longer_known : answer limited (RevsDiff (of a (a1 ∷ a2 ∷ a3 ∷ []))) ≡ Differences (put empty a (record { missing = a1 ∷ a2 ∷ []; possible_ancestors = [] }))
unfolding computed
stemmed_revisions_are_no_longer_known = refl

the_limit_is_told : answer limited RevsLimit ≡ Limit 1
unfolding computed
the_limit_is_told = refl

at_first_it_is_a_thousand : answer [] RevsLimit ≡ Limit 1000
unfolding computed
at_first_it_is_a_thousand = refl

-- ---- a document that was deleted

abbrev one_of_three_deleted : List Command
one_of_three_deleted = put_new a ∷ put_new b ∷ put_new c ∷ delete a (Some a1) ∷ []

a_deleted_document_is_not_got : answer one_of_three_deleted (Get a None plain) ≡ Found (Err WasDeleted)
unfolding computed
a_deleted_document_is_not_got = refl

but_its_deletion_is_by_its_name : answer one_of_three_deleted (Get a (Some x2) plain) ≡ Found (Ok (record (shown a x2 braces) { deleted = true }))
unfolding computed
but_its_deletion_is_by_its_name = refl

live_documents_are_listed_by_their_ids : answer one_of_three_deleted AllDocuments ≡ Documents ((b, a1) ∷ (c, a1) ∷ [])
unfolding computed
live_documents_are_listed_by_their_ids = refl

live_and_deleted_documents_are_counted : answer one_of_three_deleted Info ≡ Counted (record { doc_count = 2; doc_del_count = 1; update_seq = 4; purge_seq = 0 })
unfolding computed
live_and_deleted_documents_are_counted = refl

-- ---- a deletion above a leaf

abbrev born_dead : List Command
born_dead = Merges (record (path d (rev 1 0xaa) []) { deleted = true } ∷ path d (rev 2 0xbb) (rev 1 0xaa ∷ []) ∷ []) ∷ []

an_inner_deletion_has_its_body : answer born_dead (Get d None (record plain { revs_info = true })) ≡ Found (Ok (record (shown d (rev 2 0xbb) braces) { revs_info = Some ((rev 2 0xbb, Available) ∷ (rev 1 0xaa, IsDeleted) ∷ []) }))
unfolding computed
an_inner_deletion_has_its_body = refl

until_a_compaction_takes_it : answer (born_dead ++ Compact ∷ []) (Get d None (record plain { revs_info = true })) ≡ Found (Ok (record (shown d (rev 2 0xbb) braces) { revs_info = Some ((rev 2 0xbb, Available) ∷ (rev 1 0xaa, NoBody) ∷ []) }))
unfolding computed
until_a_compaction_takes_it = refl
