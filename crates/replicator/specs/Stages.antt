-- How far the code has come.
use Rattle.std.specs.Prelude.{Result}
use Rattle.std.specs.Result.{result_map_both}
use Rattle.replicator.specs.declared.fault.PeerFault.{PeerFault}
use Rattle.replicator.specs.declared.progress.Progress.{Progress}
use Rattle.replicator.specs.declared.stage.Stage.{Stage as StageKind}
use Rattle.replicator.specs.declared.stage.Stage.TheVariants as kind
use Rattle.replicator.specs.Learned.{Learned}
use Rattle.replicator.specs.Stage.{Stage, Unread, SourceRead, Ready, Paged, Passing}

abbrev pub stage_of : StageKind → Stage
stage_of kind.Unread = Unread
stage_of (kind.SourceRead source) = SourceRead source
stage_of (kind.Ready ends) = Ready ends
stage_of (kind.Paged ends page) = Paged ends page
stage_of (kind.Passing pass) = Passing pass

abbrev pub learned_of : Result (StageKind × Progress) PeerFault → Learned
learned_of next = result_map_both (λ n. (stage_of n.0, n.1)) (λ f. f) next
