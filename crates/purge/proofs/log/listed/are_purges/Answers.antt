use Rattle.std.specs.Prelude.{ℕ, All, refl}
use Rattle.std.proofs.Common.{◌∙◌, arith, subst, sym}
use Rattle.std.proofs.lemmas.Bool.{true≢false}
use Rattle.std.proofs.lemmas.List.{take_all}
use Rattle.std.proofs.lemmas.List.Elements.{All-get_or, All-more}
use Rattle.model.specs.PurgeLog.{IsPurgeInfo}
use Rattle.purge.specs.Log.{PurgedEntry, info_of}
use Rattle.purge.proofs.log.listed.are_purges.Goals as goal

abbrev Is : ℕ × PurgedEntry → Type 0
Is p = IsPurgeInfo (info_of p)

pub loop-entry-preserved : goal.loop-entry-preserved
loop-entry-preserved c = All-more Is c.args.purges.now c.loop-entry.entry-index c.entry-item.result (omega arith) c.loop-entry.invariant (subst Is c.entry-item.is ((c.lost_leaves.ensures c.entry-item.result.0).0 c.if-not-lost_leaves.false))

pub returns-then-not-lost_leaves : goal.returns-then-not-lost_leaves
returns-then-not-lost_leaves c = (
  λ e. absurd (true≢false (sym e)),
  λ all. absurd (true≢false (sym ((c.lost_leaves.ensures c.entry-item.result.0).1 (subst Is (sym c.entry-item.is) (All-get_or Is c.args.purges.now c.loop-entry.entry-index c.entry-item.result (omega arith) all))) ∙ c.if-not-lost_leaves.true)),
)

pub returns : goal.returns
returns c = (λ _. subst (All Is) (take_all c.loop-entry.entry-index c.args.purges.now (omega arith)) c.loop-entry.invariant, λ _. refl)
