use Rattle.std.proofs.Common.{◌∙◌, ap, Bool, List, ℕ}
use Rattle.http_client.specs.declared.target.TheConstants.{SEGMENT}
use Rattle.replicator_http.specs.Requests.{local_put_request}
use Rattle.replicator_http.specs.Told.{counter_told}
use Rattle.replicator_http.proofs.Calls.{answered, failed}
use Rattle.replicator_http.proofs.peer.HttpPeerPeer.local_put.Goals as goal

pub returns-in_err-response-clause-goes : goal.returns-in_err-response-clause-goes
returns-in_err-response-clause-goes g c =
    let asked : List ℕ → Bool → List ℕ = λ host skips. local_put_request host skips SEGMENT c.args.id.now c.args.named c.args.last_seq in
    failed counter_told c.as_str.result.now (λ terms. asked terms.host terms.skips) c.args.self.now c.ask.new.self c.in_err-response.field-0.0 c.from_residual-in_err-response.result
    (c.as_str.ensures.value ∙ c.in_ok-request.ensures.request ∙ ap (λ (host : List ℕ). asked host c.skips.result) c.host.ensures ∙ ap (λ (skips : Bool). asked c.args.self.now.terms.host skips) c.skips.ensures) c.from_residual-in_err-response.ensures.1 c.in_err-response.ensures.fault

pub returns-clause-goes : goal.returns-clause-goes
returns-clause-goes g c =
    let asked : List ℕ → Bool → List ℕ = λ host skips. local_put_request host skips SEGMENT c.args.id.now c.args.named c.args.last_seq in
    answered counter_told c.as_str.result.now (λ terms. asked terms.host terms.skips) c.args.self.now c.ask.new.self c.take_told.new.self c.in_ok-response.response c.body.result.now c.counter_told-counter.result c.take_told.result
    (c.as_str.ensures.value ∙ c.in_ok-request.ensures.request ∙ ap (λ (host : List ℕ). asked host c.skips.result) c.host.ensures ∙ ap (λ (skips : Bool). asked c.args.self.now.terms.host skips) c.skips.ensures) c.in_ok-response.ensures.come c.take_told.ensures.rest c.body.ensures c.take_told.ensures.told c.counter_told-counter.ensures.told
