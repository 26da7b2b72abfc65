-- The special members of a document in three groups, of which the length of its text is the sum.
use Rattle.std.specs.Prelude.{codes}
use Rattle.json_profile.specs.Joined.{join}
use Rattle.model.specs.Query.{Document}
use Rattle.serde_json.specs.Data.{Members, member, no_members, string}
use Rattle.document_json.specs.Written.{flag_member, infos_member, rev_data, revisions_member, revs_member}

-- the conflicts, and whether the revision is deleted
abbrev pub conflict_members : Document → Members
conflict_members d =
    join (revs_member (codes "_conflicts") d.conflicts) (join (revs_member (codes "_deleted_conflicts") d.deleted_conflicts) (flag_member d.deleted))

abbrev pub naming_members : Document → Members
naming_members d = member (codes "_id") (string d.id) (member (codes "_rev") (rev_data d.rev) no_members)

abbrev pub ancestor_members : Document → Members
ancestor_members d = join (revisions_member d.revisions) (infos_member d.revs_info)
