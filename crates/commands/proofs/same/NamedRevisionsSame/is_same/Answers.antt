use Rattle.std.specs.Prelude.{List}
use Rattle.std.proofs.Common.{ap, sym, ◌∙◌}
use Rattle.model.specs.Command.{names}
use Rattle.model.specs.Map.{Map, same_list}
use Rattle.model.specs.Revision.{Rev}
use Rattle.commands.proofs.same.NamedRevisionsSame.is_same.Goals as goal

pub returns : goal.returns
returns c =
    let mine = c.documents.ensures.entries in
    let theirs = c.documents-2.ensures.entries in
    record {
      same = (
        λ t. same_list _ _ (sym mine ∙ c.are_same.ensures.same.0 t ∙ theirs),
        λ e. c.are_same.ensures.same.1 (mine ∙ ap (λ (m : Map names (List Rev)). m.list) e ∙ sym theirs),
      );
    }
