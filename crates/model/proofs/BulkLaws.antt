-- Bulks and purges act in the order listed.
use Rattle.std.specs.Prelude.{◌≡◌, List, [], ◌∷◌, ◌++◌, refl}
use Rattle.std.proofs.Common.{ap}
use Rattle.model.specs.Revision.{Rev}
use Rattle.model.specs.Command.{Id, Edit, Merge}
use Rattle.model.specs.Edit.{revision_written}
use Rattle.model.specs.Database.{Database, edit_in, merge_in, after_edit, after_edits, edit_replies, after_merge, after_merges, merge_replies, after_purge, after_purges}

pub after_edits-append : (d : Database) (es fs : List Edit) → after_edits d (es ++ fs) ≡ after_edits (after_edits d es) fs
after_edits-append d [] fs = refl
after_edits-append d (e ∷ es) fs = after_edits-append (after_edit d e) es fs

pub edit_replies-append : (d : Database) (es fs : List Edit) → edit_replies d (es ++ fs) ≡ edit_replies d es ++ edit_replies (after_edits d es) fs
edit_replies-append d [] fs = refl
edit_replies-append d (e ∷ es) fs = ap (λ rs. revision_written (edit_in d e) ∷ rs) (edit_replies-append (after_edit d e) es fs)

pub after_merges-append : (d : Database) (ms ns : List Merge) → after_merges d (ms ++ ns) ≡ after_merges (after_merges d ms) ns
after_merges-append d [] ns = refl
after_merges-append d (m ∷ ms) ns = after_merges-append (after_merge d m) ms ns

pub merge_replies-append : (d : Database) (ms ns : List Merge) → merge_replies d (ms ++ ns) ≡ merge_replies d ms ++ merge_replies (after_merges d ms) ns
merge_replies-append d [] ns = refl
merge_replies-append d (m ∷ ms) ns = ap (λ rs. revision_written (merge_in d m) ∷ rs) (merge_replies-append (after_merge d m) ms ns)

pub after_purges-append : (d : Database) (es fs : List (Id × List Rev)) → after_purges d (es ++ fs) ≡ after_purges (after_purges d es) fs
after_purges-append d [] fs = refl
after_purges-append d (e ∷ es) fs = after_purges-append (after_purge d e) es fs
