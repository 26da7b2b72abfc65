-- What may cross threads: what is published, and its two ends, as a version may.
use denote.RattleType.{RattleType}
use denote.Param.Send.{IsSend, IsSync}
use Rattle.left_right.proofs.reader.Reader.TheSendSync as ShownSide
use Rattle.left_right.proofs.writer.Writer.TheSendSync as Writer
use Rattle.logbook.proofs.tokens.Seen.TheSendSync as Seen
use Rattle.logbook.proofs.word.Word.TheSendSync as Word
use Rattle.version_log.specs.contracts.front.Book as Book
use Rattle.version_log.specs.contracts.front.Front as Front
use Rattle.version_log.specs.contracts.publisher.Reader as Reader
use Rattle.version_log.specs.contracts.publisher.Publisher as Publisher
use Rattle.version_log.specs.contracts.published.Published as Published
use Rattle.version_log.specs.contracts.published.Shown as Shown
use Rattle.version_log.specs.declared.front.Naming as Naming
use Rattle.snapshots.proofs.Crossing as versions
use Rattle.std.proofs.marker.PhantomData.TheSendSync as PhantomData

ruleset parts = (Seen.the_send, Seen.the_sync, Word.the_send, PhantomData.the_field_send, versions.crosses)

shown-send : IsSend Shown.the_row
shown-send = search parts depth 60

shown-sync : IsSync Shown.the_row
shown-sync = search parts depth 60

module _ (J : RattleType) (n : Naming.Ghosts J.Denot) where
  pub front-send : IsSend (Front.the_row J n)
  front-send = search parts depth 60

  pub published-send : IsSend (Published.the_row J n)
  published-send = search (front-send, parts) depth 60

  pub reader-send : IsSend (Reader.the_row J n)
  reader-send = search (shown-sync, ShownSide.the_field_send, parts) depth 60

  -- as the field of another
  pub book-send : IsSend (Book.the_field J n).row
  book-send = search parts depth 60

  pub publisher-send : (R : RattleType) → IsSend R → IsSend (Publisher.the_row R J n)
  publisher-send R r = search (shown-send, shown-sync, Writer.the_field_send, parts) depth 60

pub ruleset crosses = (front-send, published-send, reader-send, book-send, publisher-send)
