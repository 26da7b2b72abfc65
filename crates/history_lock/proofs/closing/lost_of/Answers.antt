use Rattle.std.proofs.Common.{◌++◌, ◌∷◌, [], if◌then◌else◌, ap, sym, ◌∙◌, subst, arith, ℕ}
use mathlib.Core.List.{IsPrefix}
use Rattle.version_log.specs.Histories.{newest}
use Rattle.sessions.specs.Known.{Known}
use Rattle.sessions.specs.Ends.{IsExact}
use Rattle.history_lock.proofs.Noted.{noted, all_more}
use Rattle.history_lock.proofs.closing.lost_of.Goals as goal

pub loop-end-preserved : goal.loop-end-preserved
loop-end-preserved g c =
    let h = newest c.args.last.now in
    let ks = c.args.ended.now in
    let i = c.loop-end.end-index in
    let k = c.end-item.result in
    let lt = c.loop-end-test.true in
    let at = c.end-item.is in
    let inv = c.loop-end.invariant in
    let b = c.is_lost-is_lost.result in
    let seen = subst (λ (q : Known). IsPrefix q.published c.args.last.now) (sym at) (c.requires.seen i k lt) in (
      noted h ks i k c.loop-end.lost.items c.note.new.lost.items b lt at c.is_lost-is_lost.ensures.lost inv.0 (c.note.ensures.items ∙ ap (λ (n : ℕ). c.loop-end.lost.items ++ (if b then n ∷ [] else [])) c.number.ensures),
      all_more (IsExact h) ks i k lt at inv.1 (c.is_lost-is_lost.ensures.exact seen),
      omega (arith, c.note.ensures.few, inv.2),
      c.note.ensures.capacity ∙ inv.3,
    )
