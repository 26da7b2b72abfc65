use Rattle.std.proofs.Common.{◌≡◌, ap, sym, ◌∙◌, subst, List, [], ◌∷◌, ◌++◌, length, append_assoc, length-append, arith}
use Rattle.std.specs.List.{All}
use Rattle.std.specs.Vec.Iter.{into_iter_items}
use Rattle.std.proofs.lemmas.List.{append-nil}
use Rattle.std.proofs.lemmas.List.Elements.{All-push}
use mathlib.Core.List.{IsPrefix}
use Rattle.model.specs.Command.{Entry}
use Rattle.version_log.proofs.Prefixes.{prefix_trans}
use Rattle.sessions.specs.Known.{Known}
use Rattle.sessions.proofs.Receipts.{nothing_left}
use Rattle.history_lock.proofs.closing.last_of_all.Goals as goal

pub loop-session-preserved : goal.loop-session-preserved
loop-session-preserved g c =
    let at = c.loop-session in
    let i = at.invariant in
    let last = c.later_of-last.result in
    let le = c.later_of-last.ensures in
    let P : Known → Type 0 = λ k. IsPrefix k.published last in
    let x = c.in-Some.session in
    let end = c.into_end-latest.result.1 in
    let is : end ≡ x = c.into_end-latest.ensures.end in
    let rest = into_iter_items c.next.new.self in
    let steps : into_iter_items at.session-iterator ≡ x ∷ rest = c.in-Some.ensures.steps.0 in
    let items = c.push_reserved.ensures.items in
    let one : P end = subst P (sym is) (subst (λ (l : List (List Entry)). IsPrefix l last) c.into_end-latest.ensures.latest le.extends.1) in (
      prefix_trans c.args.current at.last last i.0 le.extends.0,
      le.grows,
      subst (All P) (sym items) (All-push P at.ended.items end (λ k d lt. prefix_trans _ at.last last (i.2 k d lt) le.extends.0) one),
      ap (λ (l : List Known). l ++ rest) items ∙ append_assoc at.ended.items (end ∷ []) rest ∙ ap (λ (k : Known). at.ended.items ++ k ∷ rest) is ∙ ap (λ (l : List Known). at.ended.items ++ l) (sym steps) ∙ i.3,
      (let was = i.4 in let gone = c.in-Some.ensures.steps.1 in let short = ap length steps in omega arith),
      omega (arith, i.5, ap length items, length-append at.ended.items (end ∷ []), ap length steps, c.push_reserved.ensures.capacity),
    )

pub returns-clause-ended : goal.returns-clause-ended
returns-clause-ended g c =
    let at = c.loop-session in
    let none = c.in-None.ensures.steps in
    let empty : into_iter_items at.session-iterator ≡ [] = nothing_left _ (sym at.invariant.4 ∙ none.0) in
    sym (append-nil at.ended.items) ∙ ap (λ (l : List Known). at.ended.items ++ l) (sym empty) ∙ at.invariant.3 ∙ c.into_iter-session-iterator.ensures.into_iter_gives.0
