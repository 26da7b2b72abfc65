-- What may cross threads: the ends of the queue, as a job may.
use denote.RattleType.{RattleType}
use denote.Param.Send.{IsSend, IsSync, sendable}
use Rattle.atomic_table.proofs.shared.Seat.TheSendSync as Pass
use Rattle.commands.proofs.Crossing as commands
use Rattle.crossbeam_queue.proofs.array_queue.Slotted.TheSendSync as Slots
use Rattle.std.proofs.Crossing as std
use Rattle.std.proofs.marker.PhantomData.TheSendSync as PhantomData
use Rattle.job_queue.specs.contracts.consumer.Consumer as Consumer
use Rattle.job_queue.specs.contracts.queue.Queue as Queue
use Rattle.job_queue.specs.contracts.producer.Producer as Producer
use Rattle.job_queue.specs.contracts.taken_count.TakenCount as TakenCount
use Rattle.job_queue.specs.declared.queue.Queued as Queued

ruleset parts = (commands.crosses, Pass.the_send, Slots.the_field_send, Slots.the_field_sync, PhantomData.the_field_send, PhantomData.the_field_sync, std.crosses, sendable)

module _ (J : RattleType) (q : Queued.Ghosts J.Denot) where
  pub producer-send : IsSend (Producer.the_row J q)
  producer-send = search parts depth 60

  pub taken_count-send : IsSend (TakenCount.the_row J q)
  taken_count-send = search parts depth 60

  pub consumer-send : IsSend (Consumer.the_row J q)
  consumer-send = search parts depth 60

  -- as the field of another
  pub queue-send : IsSend (Queue.the_field J q).row
  queue-send = search parts depth 60

  pub queue-sync : IsSync (Queue.the_field J q).row
  queue-sync = search parts depth 60

pub ruleset crosses = (producer-send, taken_count-send, consumer-send, queue-send, queue-sync)
