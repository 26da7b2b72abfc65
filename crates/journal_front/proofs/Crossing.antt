-- What may cross threads: what lies under a pen, and a session that answers what a journal has.
use denote.RattleType.{RattleType}
use denote.Ref.{NamedLft}
use denote.Param.Send.{IsSend, IsSync, sendable}
use Rattle.std.proofs.Crossing as std
use Rattle.snapshots.proofs.Crossing as versions
use Rattle.version_log.proofs.Crossing as publications
use Rattle.journal.specs.contracts.journal.Journal as Journal
use Rattle.journal.specs.declared.appended.Appended as Appended
use Rattle.durable_calls.specs.contracts.durable.Durable as Durable
use Rattle.durable_calls.specs.declared.keeping.Progress as Progress
use Rattle.journal_front.specs.contracts.epochs.Epoch as Epoch
use Rattle.journal_front.specs.contracts.journaled.Account as Account
use Rattle.journal_front.specs.contracts.journaled.Journaled as Journaled
use Rattle.journal_front.specs.contracts.pen.Pen as Pen
use Rattle.journal_front.specs.contracts.pen.Round as Round

module _ (F : RattleType) (a : Appended.Ghosts F.Denot) where
  pub journal-send : IsSend F → IsSend (Journal.the_row F a)
  journal-send f = search (std.crosses, sendable) depth 60

  pub epoch-send : IsSend F → IsSend (Epoch.the_row F a)
  epoch-send f = search (journal-send, versions.crosses) depth 60

-- What is known of a journal is tokens and numbers.
module _ (N : RattleType) where
  pub journaled-send : (k : _) (n : _) → IsSend (Journaled.the_row N k n)
  journaled-send k n = search (publications.crosses, std.crosses, sendable) depth 60

  pub account-send : (k : _) (n : _) → IsSend (Account.the_row N k n)
  account-send k n = search (journaled-send, publications.crosses, std.crosses, sendable) depth 60

module _ (p : NamedLft) (S G P R : RattleType) (n : Progress.Ghosts G.Denot) where
  pub durable-send : IsSend S → IsSend G → IsSync P → IsSync R → IsSend (Durable.the_row p S G P R n)
  durable-send s h q r = search (std.crosses, sendable) depth 60

-- What lies under a pen is handed on, so the pen may be shared. What its bounds know follows the types: O is what K opens.
module _ (K F N L E O : RattleType) where
  pub round-send : (v : _) (o : _) (f : _) (k : _) (n : _) (l : _) (e : _) → IsSend K → IsSend F → IsSend L → IsSend E → IsSend (Round.the_row K F N L E O v o f k n l e)
  round-send v o f k n l e sk sf sl se = search (journal-send, epoch-send, account-send, std.crosses, sendable) depth 60

  pub pen-sync : (s : NamedLft) (v : _) (o : _) (f : _) (k : _) (n : _) (l : _) (e : _) → IsSend K → IsSend F → IsSend L → IsSync L → IsSend E → IsSend O → IsSync (Pen.the_row s K F N L E O v o f k n l e)
  pen-sync s v o f k n l e sk sf sl yl se so = search (round-send, journaled-send, std.crosses, sendable) depth 60
