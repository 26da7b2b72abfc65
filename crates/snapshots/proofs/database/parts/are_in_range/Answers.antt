use Rattle.std.specs.Prelude.{refl}
use Rattle.std.proofs.Common.{◌∙◌, arith, sym}
use Rattle.std.proofs.lemmas.Bool.{true≢false}
use Rattle.snapshots.proofs.database.parts.are_in_range.Goals as goal

pub returns-then-not-is_in_base : goal.returns-then-not-is_in_base
returns-then-not-is_in_base c = (
  λ e. absurd (true≢false (sym e)),
  λ h. absurd (true≢false (sym (c.is_in_base.ensures.1 h.updates) ∙ c.if-not-is_in_base.true)),
)

pub returns-then-not-is_in_base-2 : goal.returns-then-not-is_in_base-2
returns-then-not-is_in_base-2 c = (
  λ e. absurd (true≢false (sym e)),
  λ h. absurd (true≢false (sym (c.is_in_base-2.ensures.1 h.purges) ∙ c.if-not-is_in_base-2.true)),
)

pub returns-then-revs_limit-eq0 : goal.returns-then-revs_limit-eq0
returns-then-revs_limit-eq0 c = (λ e. absurd (true≢false (sym e)), λ h. absurd (omega (arith, h.revs_limit.0)))

pub returns : goal.returns
returns c = (
  λ e. record {
    updates = c.is_in_base.ensures.0 c.if-not-is_in_base.false;
    purges = c.is_in_base-2.ensures.0 c.if-not-is_in_base-2.false;
    revs_limit = (omega arith, omega (arith, c.ranges.revs_limit.fits));
  },
  λ h. refl,
)
