use Rattle.std.proofs.Common.{sym, subst, refl, ◌∙◌}
use Rattle.replicator.specs.declared.fault.PeerFault.TheVariants as fault
use Rattle.replicator_http.specs.Connection.{GivenUp, IsGivenUp}
use Rattle.replicator_http.specs.declared.state.State.{State}
use Rattle.replicator_http.proofs.peer.HttpPeer.ask_apart_now.Goals as goal

pub returns-in-Failed-clause-fault : goal.returns-in-Failed-clause-fault
returns-in-Failed-clause-fault g c =
    let is = sym c.state.ensures ∙ c.in-Failed.is in
    (GivenUp fault.Failed, (subst (λ (s : State). IsGivenUp s fault.Failed) (sym is) refl, c.fail.ensures.rest), c.fail.ensures.failed)

pub returns-in-Unreadable-clause-fault : goal.returns-in-Unreadable-clause-fault
returns-in-Unreadable-clause-fault g c =
    let is = sym c.state.ensures ∙ c.in-Unreadable.is in
    (GivenUp fault.Unreadable, (subst (λ (s : State). IsGivenUp s fault.Unreadable) (sym is) refl, refl), refl)
