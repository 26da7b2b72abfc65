use Rattle.history_lock.proofs.Lending.{no_more}
use Rattle.probe_threads.proofs.epochs.epoch.Goals as goal

pub close-closed-requires : goal.close-closed-requires
close-closed-requires g c =
    let lent = c.as_mut_slice in
    record { all = no_more c.in_ok-master.sessions.items lent.result.now _ c.in_ok-master.sessions.len _ _ c.in_ok-master.ensures.sessions c.requires.named.sessions_is lent.ensures.value lent.ensures.len }
