use Rattle.std.proofs.Common.{All, IsTrue, rules, subst, sym}
use Rattle.model.specs.Body.{IsBody}
use Rattle.model.specs.Revision.{IsRev}
use Rattle.model.specs.TreeChange.{IsPath}
use Rattle.commands.proofs.Merges.{path-parts}
use Rattle.commands.proofs.merge.Merge.new.Goals as goal

pub invariant_of-result : goal.invariant_of-result
invariant_of-result c =
    let passed : IsTrue c.is_path.result = search rules in
    let path : IsPath c.args.path.items = subst IsPath c.deref.ensures.value (c.is_path.ensures.is_path.0 passed) in
    let revs : All IsRev c.args.path.items = subst (All IsRev) c.deref.ensures.value (c.is_path.ensures.are_revs passed) in
    let parts = path-parts c.args.path.items path in (
      path,
      record {
        id = c.as_str-recalled.ensures.is_id;
        path = subst IsPath (sym parts) path;
        revs = subst (All IsRev) (sym parts) revs;
        body = subst IsBody c.deref-2.ensures c.text-recalled.ensures.body;
      },
    )
