use Rattle.model.proofs.KeptLaws.{IsDatabase-act, IsDatabase-replay, winner_has_body}
use Rattle.model.proofs.ReplyLaws.{FitsReply-reply_to}
use Rattle.model.proofs.databases.databases_stay_valid.Goals as goal

pub returns-clause-kept : goal.returns-clause-kept
returns-clause-kept c = IsDatabase-act

pub returns-clause-history : goal.returns-clause-history
returns-clause-history c = IsDatabase-replay

pub returns-clause-reply : goal.returns-clause-reply
returns-clause-reply c = FitsReply-reply_to

pub returns-clause-winner : goal.returns-clause-winner
returns-clause-winner c = winner_has_body
