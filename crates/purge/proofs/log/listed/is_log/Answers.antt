use Rattle.std.proofs.Common.{◌∙◌, arith, sym}
use Rattle.std.proofs.lemmas.Bool.{true≢false}
use Rattle.purge.proofs.Numbers.{listed_log, log_listed}
use Rattle.purge.proofs.log.listed.is_log.Goals as goal

pub returns-then-not-has_room : goal.returns-then-not-has_room
returns-then-not-has_room c = (
  λ e. absurd (true≢false (sym e)),
  λ h. absurd (true≢false (sym (c.has_room.ensures.1 (listed_log c.args.purge_seq c.args.limit c.args.purges.now h).0) ∙ c.if-not-has_room.true)),
)

pub returns-then-not-are_numbered : goal.returns-then-not-are_numbered
returns-then-not-are_numbered c = (
  λ e. absurd (true≢false (sym e)),
  λ h. absurd (true≢false (sym (c.are_numbered.ensures.1 (listed_log c.args.purge_seq c.args.limit c.args.purges.now h).1) ∙ c.if-not-are_numbered.true)),
)

pub returns : goal.returns
returns c = (
  λ e. log_listed c.args.purge_seq c.args.limit c.args.purges.now (omega (arith, c.ranges.limit.fits)) (c.has_room.ensures.0 c.if-not-has_room.false) (c.are_numbered.ensures.0 c.if-not-are_numbered.false) (c.are_purges.ensures.0 e),
  λ h. c.are_purges.ensures.1 (listed_log c.args.purge_seq c.args.limit c.args.purges.now h).2,
)
