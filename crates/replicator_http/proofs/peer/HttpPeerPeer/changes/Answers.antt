use Rattle.std.proofs.Common.{◌∙◌, ap, List, ℕ}
use Rattle.replicator_http.specs.Requests.{changes_request}
use Rattle.replicator_http.specs.Told.{page_told}
use Rattle.replicator_http.proofs.Calls.{answered, failed}
use Rattle.replicator_http.proofs.peer.HttpPeerPeer.changes.Goals as goal

pub returns-in_err-response-clause-goes : goal.returns-in_err-response-clause-goes
returns-in_err-response-clause-goes g c =
    let by_host : List ℕ → List ℕ = λ host. changes_request host c.args.since c.args.limit in
    failed page_told c.as_str.result.now (λ terms. by_host terms.host) c.args.self.now c.ask.new.self c.in_err-response.field-0.0 c.from_residual-in_err-response.result
    (c.as_str.ensures.value ∙ c.in_ok-request.ensures.request ∙ ap by_host c.host.ensures) c.from_residual-in_err-response.ensures.1 c.in_err-response.ensures.fault

pub returns-clause-goes : goal.returns-clause-goes
returns-clause-goes g c =
    let by_host : List ℕ → List ℕ = λ host. changes_request host c.args.since c.args.limit in
    answered page_told c.as_str.result.now (λ terms. by_host terms.host) c.args.self.now c.ask.new.self c.take_told.new.self c.in_ok-response.response c.body.result.now c.page_told-page.result c.take_told.result
    (c.as_str.ensures.value ∙ c.in_ok-request.ensures.request ∙ ap by_host c.host.ensures) c.in_ok-response.ensures.come c.take_told.ensures.rest c.body.ensures c.take_told.ensures.told c.page_told-page.ensures.told
