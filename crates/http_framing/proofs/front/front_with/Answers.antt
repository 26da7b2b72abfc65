use Rattle.std.proofs.Common.{rules, [], inr, append-nil, subst}
use Rattle.httparse.specs.Grammar.{HasNoRequest, NeverHasRequest}
use Rattle.http_framing.proofs.front.front_with.Goals as goal

pub front_of_part-requires-in-Err : goal.front_of_part-requires-in-Err
front_of_part-requires-in-Err c =
    let never : NeverHasRequest c.head_window-window.result.now = search rules in
    record {
      window = c.head_window-window.ensures;
      none = subst HasNoRequest (append-nil c.head_window-window.result.now) (never []);
      may = inr (c.ends_in_target.ensures.0 c.if-ends_in_target.true);
    }
