use Rattle.snapshots.proofs.Crossing.{crosses}
use Rattle.test_threads.proofs.tests.shares.places.Goals as goal

pub join-requires-send-F : goal.join-requires-send-F
join-requires-send-F g c κs within = search crosses depth 60
