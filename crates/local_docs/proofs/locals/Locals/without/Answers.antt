use Rattle.std.proofs.Common.{◌≡◌, ap, sym, ◌∙◌}
use Rattle.cow_index.specs.Entries.{without}
use Rattle.model.specs.Command.{names}
use Rattle.model.specs.Local.{Local}
use Rattle.model.specs.Map.{Map, same_list}
use Rattle.local_docs.proofs.Removal.{refine_list-without}
use Rattle.local_docs.proofs.locals.Locals.without.Goals as goal

pub returns : goal.returns
returns c =
    let listed : c.self.inside.documents.entries ≡ c.args.self.now.list = ap (λ (m : Map names Local). m.list) c.self.view_is in
    record {
      without = same_list _ _ (c.in_ok-remove.ensures.entries ∙ ap (without names.cmp c.args.id.now) listed ∙ sym (refine_list-without c.args.id.now c.args.self.now.list));
    }
