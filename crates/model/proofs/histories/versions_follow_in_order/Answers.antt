use Rattle.model.proofs.HistoryLaws.{Extends-extended, now-extended, Follows-itself, Follows-through}
use Rattle.model.proofs.LastLaws.{Lasts-follows, purge_seq-follows}
use Rattle.model.proofs.histories.versions_follow_in_order.Goals as goal

pub returns-clause-extended : goal.returns-clause-extended
returns-clause-extended c v es = (Extends-extended v es, now-extended v es)

pub returns-clause-follows_itself : goal.returns-clause-follows_itself
returns-clause-follows_itself c = Follows-itself

pub returns-clause-follows_through : goal.returns-clause-follows_through
returns-clause-follows_through c = Follows-through

pub returns-clause-update_numbers : goal.returns-clause-update_numbers
returns-clause-update_numbers c later earlier f = (Lasts-follows earlier later f).updates

pub returns-clause-purge_numbers : goal.returns-clause-purge_numbers
returns-clause-purge_numbers c later earlier f = purge_seq-follows earlier later f
