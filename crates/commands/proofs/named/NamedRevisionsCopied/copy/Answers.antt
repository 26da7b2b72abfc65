use Rattle.std.specs.Prelude.{List}
use Rattle.std.proofs.Common.{ap, ◌∙◌}
use Rattle.model.specs.Command.{names}
use Rattle.model.specs.Map.{Map, same_list}
use Rattle.model.specs.Revision.{Rev}
use Rattle.commands.proofs.named.NamedRevisionsCopied.copy.Goals as goal

pub returns : goal.returns
returns c = record { same = same_list _ _ (c.in_ok-documents.ensures.same ∙ c.deref.ensures.value ∙ ap (λ (m : Map names (List Rev)). m.list) c.self.view_is) }
