use Rattle.std.specs.Prelude.{◌≡◌, ℕ, List, Some}
use Rattle.std.proofs.Common.{◌∙◌, ap, subst, sym}
use Rattle.std.proofs.lemmas.Bool.{true≢false}
use Rattle.std.proofs.lemmas.Option.{none-some, same_Some}
use Rattle.model.specs.PurgeLog.{IsLog}
use Rattle.purge.specs.Log.{PurgedEntry, IsKept, log_of}
use Rattle.purge.proofs.Numbers.{log_kept}
use Rattle.purge.proofs.log.PurgeLog.from_list.Goals as goal

pub returns-then-not-is_log : goal.returns-then-not-is_log
returns-then-not-is_log c = record {
  listed = λ l. (
    λ e. absurd (none-some l e),
    λ h. absurd (true≢false (sym (c.is_log.ensures.1 (subst (λ (es : List (ℕ × PurgedEntry)). IsLog (log_of c.args.purge_seq es c.args.limit)) (sym c.deref.ensures.value) (subst IsLog h.0 h.1))) ∙ c.if-not-is_log.true)),
  );
}

pub map_of-requires : goal.map_of-requires
map_of-requires c = (subst (λ (es : List (ℕ × PurgedEntry)). IsLog (log_of c.args.purge_seq es c.args.limit)) c.deref.ensures.value (c.is_log.ensures.0 c.if-not-is_log.false)).numbered

pub invariant_of-result : goal.invariant_of-result
invariant_of-result c =
    let is = subst (λ (es : List (ℕ × PurgedEntry)). IsLog (log_of c.args.purge_seq es c.args.limit)) c.deref.ensures.value (c.is_log.ensures.0 c.if-not-is_log.false) in
    subst (λ (es : List (ℕ × PurgedEntry)). IsKept c.args.purge_seq es c.args.limit) (sym c.in_ok-map_of.ensures) (log_kept c.args.purge_seq c.args.limit c.args.purges.items is)

pub returns : goal.returns
returns c =
    let is = subst (λ (es : List (ℕ × PurgedEntry)). IsLog (log_of c.args.purge_seq es c.args.limit)) c.deref.ensures.value (c.is_log.ensures.0 c.if-not-is_log.false) in
    let made : _ ≡ log_of c.args.purge_seq c.args.purges.items c.args.limit = ap (λ (es : List (ℕ × PurgedEntry)). log_of c.args.purge_seq es c.args.limit) c.in_ok-map_of.ensures in
    record {
      listed = λ l. (
        λ e. let same = sym (same_Some _ l e) ∙ made in (same, subst IsLog (sym same) is),
        λ h. ap Some (made ∙ sym h.0),
      );
    }
