-- Merges: revisions from other replicas, put beside what is known.
use Rattle.std.specs.Prelude.{◌≡◌, true, List, [], ◌∷◌, Some, None, Ok, Err, refl}
use Rattle.model.specs.Map.{empty, put}
use Rattle.model.specs.Command.{Command, Merges, BadHistory, Wrote}
use Rattle.model.specs.Database.{empty_database}
use Rattle.model.specs.Query.{Info, Counted}
use Rattle.model.proofs.Examples.Fixtures.{computed, replies, after, answer, braces, counting, rev, path, merge, with_body, without_body, record_of, d}

abbrev dead_and_alive : List Command
dead_and_alive = Merges (record (path d (rev 2 0xff) []) { deleted = true } ∷ path d (rev 1 0) [] ∷ []) ∷ []

each_merge_takes_a_number : after dead_and_alive ≡ record empty_database { docs = put empty d (record_of 2 ((rev 1 0, with_body None braces) ∷ (rev 2 0xff, record { parent = None; deleted = true; body = Some braces }) ∷ [])); update_seq = 2; calls = put empty 0 1 }
unfolding computed
each_merge_takes_a_number = refl

abbrev repeated : List Command
repeated = merge d (rev 1 0xaa) [] ∷ merge d (rev 1 0xaa) [] ∷ []

a_repeated_merge_is_answered_alike : replies repeated ≡ Wrote (Ok (rev 1 0xaa) ∷ []) ∷ Wrote (Ok (rev 1 0xaa) ∷ []) ∷ []
unfolding computed
a_repeated_merge_is_answered_alike = refl

a_repeated_merge_takes_no_number : answer repeated Info ≡ Counted (record { doc_count = 1; doc_del_count = 0; update_seq = 1; purge_seq = 0 })
unfolding computed
a_repeated_merge_takes_no_number = refl

a_known_revision_keeps_its_body_and_flag : after (merge d (rev 1 0xaa) [] ∷ Merges (record (path d (rev 1 0xaa) []) { deleted = true; body = counting 1 } ∷ []) ∷ []) ≡ after repeated
unfolding computed
a_known_revision_keeps_its_body_and_flag = refl

-- ---- a path that contradicts what is known

abbrev contradicting : List Command
contradicting = merge d (rev 2 0xbb) (rev 1 0xaa ∷ []) ∷ merge d (rev 2 0xbb) (rev 1 0xcc ∷ []) ∷ []

a_second_parent_is_refused : replies contradicting ≡ Wrote (Ok (rev 2 0xbb) ∷ []) ∷ Wrote (Err BadHistory ∷ []) ∷ []
unfolding computed
a_second_parent_is_refused = refl

and_the_record_stays_as_it_was : after contradicting ≡ record empty_database { docs = put empty d (record_of 1 ((rev 1 0xaa, without_body None) ∷ (rev 2 0xbb, with_body (Some (rev 1 0xaa)) braces) ∷ [])); update_seq = 1; calls = put empty 0 2 }
unfolding computed
and_the_record_stays_as_it_was = refl

-- ---- a path that goes on from what is known, and below it

abbrev joined : List Command
joined = merge d (rev 2 0xbb) [] ∷ merge d (rev 3 0xcc) (rev 2 0xbb ∷ rev 1 0xaa ∷ []) ∷ []

a_longer_path_is_taken : replies joined ≡ Wrote (Ok (rev 2 0xbb) ∷ []) ∷ Wrote (Ok (rev 3 0xcc) ∷ []) ∷ []
unfolding computed
a_longer_path_is_taken = refl

a_path_joins_what_is_known : after joined ≡ record empty_database {
  docs = put empty d (record_of 2 ((rev 1 0xaa, without_body None) ∷ (rev 2 0xbb, with_body (Some (rev 1 0xaa)) braces) ∷ (rev 3 0xcc, with_body (Some (rev 2 0xbb)) braces) ∷ []));
  update_seq = 2;
  calls = put empty 0 2;
}
unfolding computed
a_path_joins_what_is_known = refl
