use Rattle.std.proofs.Common.{[], ◌∷◌, ◌++◌, ◌+◌, ◌⊎◌, refl, subst}
use Rattle.std.specs.Prelude.{Option, option_map}
use Rattle.std.proofs.lemmas.Fn.{FoldsTo-push}
use Rattle.http_front.specs.Opening.{server_config}
use Rattle.http_front.specs.Server.{server_turns}
use Rattle.journal_front.specs.Server.{EndsEpoch, GoesOnAfter}
use Rattle.journal_front.proofs.server.run_kept.Goals as goal

pub loop-init : goal.loop-init
loop-init g c = ([], refl)

pub loop-preserved : goal.loop-preserved
loop-preserved g c =
    let config = server_config (c.args.service.now.workers + 1) c.args.service.now.max_places in
    let ended = subst
    (λ (next : Option _).
    EndsEpoch config g.F.Appended.said g.F.Appended.told (g.L.Notices.reported ⊎ g.E.Epochs.reported) c.args.service.now.policy server_turns c.args.service.now.terms.connections
    c.loop.epoch.version.base c.in-Some-serve_epoch.journal (option_map (λ e. e.version.base) next)) c.in-Some-next.is c.in-Some-serve_epoch.ensures in (
      c.loop.invariant.0 ++ c.in-Some-serve_epoch.journal ∷ [],
      FoldsTo-push
          (GoesOnAfter config g.F.Appended.said g.F.Appended.told (g.L.Notices.reported ⊎ g.E.Epochs.reported) c.args.service.now.policy server_turns c.args.service.now.terms.connections)
          c.args.first.version.base c.loop.invariant.0 c.loop.epoch.version.base c.in-Some-serve_epoch.journal c.in-Some-next.next.version.base c.loop.invariant.1 ended,
    )
