use Rattle.std.proofs.Common.{[], ◌∷◌, ◌++◌, map, take, string_bytes}
use Rattle.std.specs.Prelude.{OnOk}
use Rattle.serde_json.specs.Data.{member, no_members}
use Rattle.document_json.specs.MembersText.{IsMembersAfter, Writes}
use Rattle.api_json.specs.Objects.{Named, members_from}
use Rattle.api_json.proofs.objects.append_object.Given as goal

-- what was written so far
abbrev pub invariant-loop-item : goal.invariant-loop-item
invariant-loop-item g l =
    (of : _ → Named)
    → ((written : _) (item : _) (told : _) (longer : _) → goal.F-post g l.push written item told longer
    → OnOk told (Writes written.now longer.now (member (of item.now).0 (of item.now).1 no_members)))
    → IsMembersAfter (string_bytes l.fn.text ++ 123 ∷ []) l.members (members_from (map of (take l.item-index l.items)))
