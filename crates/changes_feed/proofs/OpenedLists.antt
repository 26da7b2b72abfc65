-- A revision as an opening shows it: without lists of conflicts, and with them put in.
use Rattle.std.specs.Prelude.{◌≡◌, [], IfOk, Option, None, Some, Ok, option_map, ok_or, refl}
use Rattle.std.proofs.Common.{ap}
use Rattle.model.specs.Body.{Body}
use Rattle.model.specs.Command.{Id}
use Rattle.model.specs.Documents.{document, opened_at}
use Rattle.model.specs.Query.{Options}
use Rattle.model.specs.Revision.{Rev}
use Rattle.model.specs.Tree.{Tree, body_of}
use Rattle.changes_feed.specs.Opening.{conflicts_of, deleted_conflicts_of, listed_with, listing, unlisted}

module _ (id : Id) (t : Tree) (options : Options) (r : Rev) where
  listed-document : (body : Body) → listing (conflicts_of options t) (deleted_conflicts_of options t) (document id t (unlisted options) r body) ≡ document id t options r body
  unfolding document
  listed-document body = refl

  listed-stored : (b : Option Body)
      → listed_with (conflicts_of options t) (deleted_conflicts_of options t) (ok_or (option_map (document id t (unlisted options) r) b) r) ≡ ok_or (option_map (document id t options r) b) r
  listed-stored None = refl
  listed-stored (Some body) = ap Ok (listed-document body)

  pub listed-opened : listed_with (conflicts_of options t) (deleted_conflicts_of options t) (opened_at id t (unlisted options) r) ≡ opened_at id t options r
  listed-opened = listed-stored (body_of t r)

  none-stored : (b : Option Body) → IfOk (ok_or (option_map (document id t (unlisted options) r) b) r) (λ d. (d.conflicts ≡ []) × (d.deleted_conflicts ≡ []))
  unfolding document
  none-stored None = tt
  none-stored (Some body) = (refl, refl)

  pub none-opened : IfOk (opened_at id t (unlisted options) r) (λ d. (d.conflicts ≡ []) × (d.deleted_conflicts ≡ []))
  none-opened = none-stored (body_of t r)
