use Rattle.std.specs.Prelude.{◌≡◌, All, refl}
use Rattle.std.proofs.Common.{◌∙◌, arith, subst, sym}
use Rattle.std.proofs.lemmas.Bool.{true≢false}
use Rattle.std.proofs.lemmas.List.{take_all}
use Rattle.std.proofs.lemmas.List.Elements.{All-get_or, All-more}
use Rattle.model.specs.Command.{Id}
use Rattle.model.specs.Local.{Local}
use Rattle.model.specs.Database.{IsLocal}
use Rattle.local_docs.proofs.locals.listed.are_local.Goals as goal

abbrev Is : Id × Local → Type 0
Is d = IsLocal d.0 d.1

pub loop-id-preserved : goal.loop-id-preserved
loop-id-preserved c = All-more Is c.args.documents.now c.loop-id.id-index c.loop-id-item.result (omega arith) c.loop-id.invariant (subst Is c.loop-id-item.is (c.is_local.ensures.0 c.if-not-is_local.false))

pub returns-then-not-is_local : goal.returns-then-not-is_local
returns-then-not-is_local c = (
  λ e. absurd (true≢false (sym e)),
  λ all. absurd (true≢false (sym (c.is_local.ensures.1 (subst Is (sym c.loop-id-item.is) (All-get_or Is c.args.documents.now c.loop-id.id-index c.loop-id-item.result (omega arith) all))) ∙ c.if-not-is_local.true)),
)

pub returns : goal.returns
returns c = (λ _. subst (All Is) (take_all c.loop-id.id-index c.args.documents.now (omega arith)) c.loop-id.invariant, λ _. refl)
