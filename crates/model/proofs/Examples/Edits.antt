-- Edits: which are taken, what they answer, which numbers they take and what they leave.
use Rattle.std.specs.Prelude.{◌≡◌, true, List, [], ◌∷◌, Some, None, Ok, Err, refl}
use Rattle.model.specs.Map.{empty, put}
use Rattle.model.specs.Revision.{Rev}
use Rattle.model.specs.Command.{Command, Edits, SetLimit, Conflict, Missing, Deleted, GenerationLimit, Wrote, Done}
use Rattle.model.specs.Database.{empty_database}
use Rattle.model.proofs.Examples.Fixtures.{computed, replies, after, braces, counting, rev, edit, put_new, put_over, delete, merge, with_body, record_of, a, a1, a2, a3, x2, x3}

-- ---- a document's first revision

abbrev twice : List Command
twice = put_new a ∷ put_new a ∷ []

a_second_put_is_a_conflict : replies twice ≡ Wrote (Ok a1 ∷ []) ∷ Wrote (Err Conflict ∷ []) ∷ []
unfolding computed
a_second_put_is_a_conflict = refl

a_conflict_changes_the_number_of_calls_alone : after twice ≡ record empty_database { docs = put empty a (record_of 1 ((a1, with_body None braces) ∷ [])); update_seq = 1; calls = put empty 0 2 }
unfolding computed
a_conflict_changes_the_number_of_calls_alone = refl

an_unknown_document_has_no_revision_to_name : replies (put_over a a1 braces ∷ []) ≡ Wrote (Err Conflict ∷ []) ∷ []
unfolding computed
an_unknown_document_has_no_revision_to_name = refl

an_unknown_document_is_not_deleted : replies (delete a None ∷ delete a (Some a1) ∷ []) ≡ Wrote (Err Missing ∷ []) ∷ Wrote (Err Missing ∷ []) ∷ []
unfolding computed
an_unknown_document_is_not_deleted = refl

-- ---- over a revision

abbrev bulks : List Command
bulks = put_new a ∷ Edits (edit a (Some a1) (counting 1) ∷ edit a (Some a1) (counting 2) ∷ []) ∷ Edits [] ∷ []

one_of_two_edits_of_a_revision_is_taken : replies bulks ≡ Wrote (Ok a1 ∷ []) ∷ Wrote (Ok a2 ∷ Err Conflict ∷ []) ∷ Wrote [] ∷ []
unfolding computed
one_of_two_edits_of_a_revision_is_taken = refl

the_edit_keeps_its_parent : after bulks ≡ record empty_database { docs = put empty a (record_of 2 ((a1, with_body None braces) ∷ (a2, with_body (Some a1) (counting 1)) ∷ [])); update_seq = 2; calls = put empty 0 3 }
unfolding computed
the_edit_keeps_its_parent = refl

-- over 4294967294 with `{}`
abbrev last_revision : Rev
last_revision = record { generation = 4294967295; hash = 0x4b ∷ 0x0f ∷ 0x95 ∷ 0xaf ∷ 0xd0 ∷ 0x4d ∷ 0xa5 ∷ 0x17 ∷ 0x15 ∷ 0x46 ∷ 0x63 ∷ 0x04 ∷ 0x17 ∷ 0x2a ∷ 0xa2 ∷ 0x51 ∷ [] }

abbrev to_the_last_generation : List Command
to_the_last_generation = merge a (rev 4294967294 0xaa) [] ∷ put_over a (rev 4294967294 0xaa) braces ∷ put_over a last_revision braces ∷ []

no_revision_follows_the_last_generation : replies to_the_last_generation ≡ Wrote (Ok (rev 4294967294 0xaa) ∷ []) ∷ Wrote (Ok last_revision ∷ []) ∷ Wrote (Err GenerationLimit ∷ []) ∷ []
unfolding computed
no_revision_follows_the_last_generation = refl

-- ---- deletions

abbrev deleted_and_again : List Command
deleted_and_again = put_new a ∷ delete a (Some a1) ∷ delete a None ∷ put_new a ∷ []

a_deleted_document_is_put_over_its_deletion : replies deleted_and_again ≡ Wrote (Ok a1 ∷ []) ∷ Wrote (Ok x2 ∷ []) ∷ Wrote (Err Deleted ∷ []) ∷ Wrote (Ok x3 ∷ []) ∷ []
unfolding computed
a_deleted_document_is_put_over_its_deletion = refl

the_deletion_stays_below_it : after deleted_and_again ≡ record empty_database {
  docs = put empty a (record_of 3 ((a1, with_body None braces) ∷ (x2, record { parent = Some a1; deleted = true; body = Some braces }) ∷ (x3, with_body (Some x2) braces) ∷ []));
  update_seq = 3;
  calls = put empty 0 4;
}
unfolding computed
the_deletion_stays_below_it = refl

-- ---- a limit of one revision

abbrev limited : List Command
limited = SetLimit 1 ∷ put_new a ∷ put_over a a1 (counting 1) ∷ put_over a a2 (counting 2) ∷ []

each_edit_is_taken_over_the_leaf : replies limited ≡ Done ∷ Wrote (Ok a1 ∷ []) ∷ Wrote (Ok a2 ∷ []) ∷ Wrote (Ok a3 ∷ []) ∷ []
unfolding computed
each_edit_is_taken_over_the_leaf = refl

a_limit_of_one_keeps_the_leaf_alone : after limited ≡ record empty_database { docs = put empty a (record_of 3 ((a3, with_body None (counting 2)) ∷ [])); update_seq = 3; revs_limit = 1; calls = put empty 0 4 }
unfolding computed
a_limit_of_one_keeps_the_leaf_alone = refl

a_limit_acts_at_the_next_write : (after (put_new a ∷ put_over a a1 (counting 1) ∷ SetLimit 1 ∷ [])).docs ≡ put empty a (record_of 2 ((a1, with_body None braces) ∷ (a2, with_body (Some a1) (counting 1)) ∷ []))
unfolding computed
a_limit_acts_at_the_next_write = refl
