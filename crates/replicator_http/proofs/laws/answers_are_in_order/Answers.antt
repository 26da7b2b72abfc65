use Rattle.replicator_http.proofs.Inputs.{Laws}
use Rattle.replicator_http.proofs.Orders.{in_order}
use Rattle.replicator_http.proofs.laws.answers_are_in_order.Goals as goal

pub returns : goal.returns
returns c =
    let laws : Laws = record {
      same = c.one_response.ensures.same;
      whole = c.one_response.ensures.whole;
      readable = c.one_response.ensures.readable;
      part = c.one_response.ensures.part;
      more = c.more_bytes.ensures.response;
      unreadable = c.more_bytes.ensures.unreadable;
    } in in_order laws
