use Rattle.model.proofs.FeedLaws.{cursor_rises, cursor_within}
use Rattle.model.proofs.FollowLaws.{IsRightFeed-follows, IsRightFeed-page}
use Rattle.model.proofs.histories.feeds_stay_right.Goals as goal

pub returns-clause-next : goal.returns-clause-next
returns-clause-next c = IsRightFeed-follows

pub returns-clause-cursor : goal.returns-clause-cursor
returns-clause-cursor c wanted style from n d num le = (cursor_rises style wanted d from n, cursor_within style wanted d from n num le)

pub returns-clause-page : goal.returns-clause-page
returns-clause-page c = IsRightFeed-page
