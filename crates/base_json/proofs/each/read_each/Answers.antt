use Rattle.std.proofs.lemmas.Result.{IfOk-weaker}
use Rattle.history_json.proofs.Lists.{listed}
use Rattle.base_json.proofs.each.read_each.Goals as goal

pub returns : goal.returns
returns g c =
    let array = rw c.in-Some.is at c.in_ok-values.ensures in
    IfOk-weaker c.read_items.result _ _ (λ found h items within is. h items within (listed c.args.value c.in-Some.values.items _ array is)) c.read_items.ensures
