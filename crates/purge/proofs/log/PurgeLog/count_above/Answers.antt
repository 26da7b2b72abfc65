use Rattle.std.proofs.Common.{◌+◌, ap, sym, length, ◌∙◌}
use Rattle.std.proofs.Math.ListN.{length-map}
use Rattle.purge.specs.Log.{info_of}
use Rattle.purge.proofs.Logs.{above-mark}
use Rattle.purge.proofs.log.PurgeLog.count_above.Goals as goal

pub returns : goal.returns
returns c =
    c.count_from.ensures.count ∙ sym (length-map _ info_of)
    ∙ ap length (above-mark c.self.inside.purge_seq c.self.inside.limit c.self.inside.infos.entries c.args.self.now c.self.invariant c.self.view_is c.args.mark (c.min.result + 1) (ap (λ n. n + 1) c.min.ensures))
