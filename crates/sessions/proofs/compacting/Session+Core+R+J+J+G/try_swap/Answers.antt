use Rattle.std.proofs.Common.{◌≡◌, ◌∙◌, false, ap, sym, option_map, arith}
use Rattle.std.specs.Arc.{arc_value}
use Rattle.model.specs.Command.{Seat}
use Rattle.sessions.specs.Known.{Known}
use Rattle.sessions.proofs.Settling.{holds_after, counted_after}
use Rattle.sessions.proofs.compacting.Session+Core+R+J+J+G.try_swap.Goals as goal

pub swap-swapped-requires-clause-next_call : goal.swap-swapped-requires-clause-next_call
swap-swapped-requires-clause-next_call g c =
    omega (arith, ap (λ (s : Seat). s.call) c.requires.seat, c.place-recalled.ensures.receipts c.requires.known, ap (λ (k : Known). k.entered) c.self.view_is)

pub invariant_of-self : goal.invariant_of-self
invariant_of-self g c =
    let s = c.self.inside in
    holds_after g.J.Naming.base s.number s.calls s.lost c.has_stood-self-inside.result s.latest s.receipted (option_map arc_value s.looked) s.caller c.swap-swapped.new.caller c.swap-swapped.result c.self.invariant
    (ap (λ (k : Known). k.lost) c.self.view_is ∙ c.requires.known)
    c.swap-swapped.ensures.counted
    c.has_stood-self-inside.ensures

pub returns-clause-counted : goal.returns-clause-counted
returns-clause-counted g c =
    let view = c.self.view_is in
    let lost : c.self.inside.lost ≡ false = ap (λ (k : Known). k.lost) view ∙ c.requires.known in
    let now = c.swap-swapped.new.caller in
    (λ i. record (view i) { pushes = now.turn.pushed; tried = now.behind; entered = now.entered; lost = c.has_stood-self-inside.ensures i })
    ∙ counted_after c.args.self.now c.self.inside.caller now c.swap-swapped.result ((λ i. record (sym view i) { pushes = c.self.inside.caller.turn.pushed; tried = c.self.inside.caller.behind; entered = c.self.inside.caller.entered; lost = sym lost i }) ∙ view) c.swap-swapped.ensures.counted
