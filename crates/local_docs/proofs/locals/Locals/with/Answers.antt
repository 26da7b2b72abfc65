use Rattle.std.proofs.Common.{◌≡◌, ap, ◌∙◌}
use Rattle.std.specs.FinMap.Entries.{put}
use Rattle.model.specs.Command.{Id, names}
use Rattle.model.specs.Local.{Local}
use Rattle.model.specs.Map.{Map, same_list}
use Rattle.local_docs.proofs.locals.Locals.with.Goals as goal

pub returns : goal.returns
returns c =
    let listed : c.self.inside.documents.entries ≡ c.args.self.now.list = ap (λ (m : Map names Local). m.list) c.self.view_is in
    let shared = ap (λ (id : Id). put names.cmp id c.args.document c.self.inside.documents.entries) c.in_ok-share.ensures.same in
    record {
      with = same_list _ _ (c.in_ok-insert.ensures.entries ∙ shared ∙ ap (put names.cmp c.args.id.now c.args.document) listed);
    }
