use Rattle.std.proofs.Common.{◌≡◌, ◌∙◌, ◌<◌, Some, length, rules}
use Rattle.serde_json.specs.View.{items_view}
use Rattle.document_json.specs.Path.{revs_down}
use Rattle.document_json.proofs.Paths.{list-is_path, list-path}
use Rattle.document_json.proofs.path.read_path.Goals as goal

pub invariant_of-result : goal.invariant_of-result
invariant_of-result c =
    let some : 0 < length c.args.hashes.now = search rules in
    let found : Some c.in-Some.revisions.items ≡ revs_down c.args.start (items_view c.args.hashes.now) = rw c.in-Some.is at c.in_ok-revisions.ensures in
    list-is_path c.args.start c.args.hashes.now c.in-Some.revisions.items some found

pub returns-in-Some : goal.returns-in-Some
returns-in-Some c =
    let some : 0 < length c.args.hashes.now = search rules in
    let found : Some c.in-Some.revisions.items ≡ revs_down c.args.start (items_view c.args.hashes.now) = rw c.in-Some.is at c.in_ok-revisions.ensures in
    found ∙ list-path c.args.start c.args.hashes.now some
