use Rattle.std.specs.Prelude.{List, ◌+◌, ◌⊎◌}
use Rattle.std.specs.List.{FoldsTo}
use Rattle.journal.specs.Kept.{Kept}
use Rattle.http_front.specs.Opening.{server_config}
use Rattle.http_front.specs.Server.{server_turns}
use Rattle.journal_front.specs.Server.{GoesOnAfter}
use Rattle.journal_front.proofs.server.run_kept.Given as goal

-- the epochs so far, one after another
abbrev pub invariant-loop : goal.invariant-loop
invariant-loop g l =
    (full : List Kept)
    × FoldsTo
    (GoesOnAfter (server_config (l.fn.service.workers + 1) l.fn.service.max_places) g.F.Appended.said g.F.Appended.told (g.L.Notices.reported ⊎ g.E.Epochs.reported) l.fn.service.policy server_turns l.fn.service.terms.connections)
    l.fn.first.version.base full l.epoch.version.base
