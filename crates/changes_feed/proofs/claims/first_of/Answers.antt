use Rattle.changes_feed.proofs.FirstPlaces.{beside_all}
use Rattle.changes_feed.proofs.claims.first_of.Goals as goal

pub returns-in-Some : goal.returns-in-Some
returns-in-Some c = λ g e. beside_all g c.args.nodes.now c.in-Some.place 0 c.args.rev c.in-Some.ensures.place c.args.firsts.now e
