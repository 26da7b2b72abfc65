use Rattle.replicator_http.proofs.Inputs.{Laws, decides, same}
use Rattle.replicator_http.proofs.laws.answers_are_of_the_input.Goals as goal

pub returns-clause-decides : goal.returns-clause-decides
returns-clause-decides c =
    let laws : Laws = record {
      same = c.one_response.ensures.same;
      whole = c.one_response.ensures.whole;
      readable = c.one_response.ensures.readable;
      part = c.one_response.ensures.part;
      more = c.more_bytes.ensures.response;
      unreadable = c.more_bytes.ensures.unreadable;
    } in decides laws

pub returns-clause-same : goal.returns-clause-same
returns-clause-same c =
    let laws : Laws = record {
      same = c.one_response.ensures.same;
      whole = c.one_response.ensures.whole;
      readable = c.one_response.ensures.readable;
      part = c.one_response.ensures.part;
      more = c.more_bytes.ensures.response;
      unreadable = c.more_bytes.ensures.unreadable;
    } in same laws
