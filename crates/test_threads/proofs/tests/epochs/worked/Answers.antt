use Rattle.history_lock.proofs.Lending.{no_more}
use Rattle.test_threads.proofs.tests.epochs.worked.Goals as goal

pub close-closed-requires : goal.close-closed-requires
close-closed-requires g c =
    let lent = c.as_mut_slice in
    record { all = no_more c.in-Ok.sessions.items lent.result.now _ c.in-Ok.sessions.len _ _ c.in-Ok.ensures.sessions c.requires.named.sessions_is lent.ensures.value lent.ensures.len }
