use Rattle.std.proofs.Common.{◌∙◌, ap, List, ℕ}
use Rattle.http_client.specs.declared.target.TheConstants.{SEGMENT}
use Rattle.replicator_http.specs.Requests.{open_revs_request}
use Rattle.replicator_http.specs.Told.{opened_told}
use Rattle.replicator_http.proofs.Calls.{answered, failed}
use Rattle.replicator_http.proofs.peer.HttpPeerPeer.open_revs.Goals as goal

pub returns-in_err-response-clause-goes : goal.returns-in_err-response-clause-goes
returns-in_err-response-clause-goes g c =
    let by_host : List ℕ → List ℕ = λ host. open_revs_request host SEGMENT c.args.id.now c.args.revs.now in
    failed opened_told c.as_str.result.now (λ terms. by_host terms.host) c.args.self.now c.ask.new.self c.in_err-response.field-0.0 c.from_residual-in_err-response.result
    (c.as_str.ensures.value ∙ c.in_ok-request.ensures.request ∙ ap by_host c.host.ensures) c.from_residual-in_err-response.ensures.1 c.in_err-response.ensures.fault

pub returns-clause-goes : goal.returns-clause-goes
returns-clause-goes g c =
    let by_host : List ℕ → List ℕ = λ host. open_revs_request host SEGMENT c.args.id.now c.args.revs.now in
    answered opened_told c.as_str.result.now (λ terms. by_host terms.host) c.args.self.now c.ask.new.self c.take_told.new.self c.in_ok-response.response c.body.result.now c.opened_told-opened.result c.take_told.result
    (c.as_str.ensures.value ∙ c.in_ok-request.ensures.request ∙ ap by_host c.host.ensures) c.in_ok-response.ensures.come c.take_told.ensures.rest c.body.ensures c.take_told.ensures.told c.opened_told-opened.ensures.told
