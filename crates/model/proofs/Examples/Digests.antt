-- Digests and identities of revisions, compared with `md5sum`.
use Rattle.std.specs.Prelude.{◌≡◌, true, false, [], codes, Some, None, refl}
use Rattle.md5.specs.Md5.{md5}
use Rattle.hex.specs.Hex.{encode_lower}
use Rattle.model.specs.Revision.{rev_text, child}
use Rattle.model.proofs.Examples.Fixtures.{computed, braces, counting, a1, a2, x2}

digest_of_nothing : encode_lower (md5 []) ≡ codes "d41d8cd98f00b204e9800998ecf8427e"
unfolding computed
digest_of_nothing = refl

digest_of_a_letter : encode_lower (md5 (codes "a")) ≡ codes "0cc175b9c0f1b6a831c399e269772661"
unfolding computed
digest_of_a_letter = refl

digest_of_three_letters : encode_lower (md5 (codes "abc")) ≡ codes "900150983cd24fb0d6963f7d28e17f72"
unfolding computed
digest_of_three_letters = refl

first_revision : rev_text (child None false braces) ≡ codes "1-b7a5841aeb59f1be5d0e27b640827094"
unfolding computed
first_revision = refl

second_revision : rev_text (child (Some a1) false (counting 1)) ≡ codes "2-da7da3d3a3fd852f31bbfc77446d4d45"
unfolding computed
second_revision = refl

third_revision : rev_text (child (Some a2) false (counting 2)) ≡ codes "3-1f86e4a276555b9f7bb0770774ad36bb"
unfolding computed
third_revision = refl

deletion : rev_text (child (Some a1) true braces) ≡ codes "2-afb96502f106d3ac58e31b6f3d8bc9a9"
unfolding computed
deletion = refl

revision_over_a_deletion : rev_text (child (Some x2) false braces) ≡ codes "3-7a57802714973760ed7c24f0c768b2a7"
unfolding computed
revision_over_a_deletion = refl
