use Rattle.revision_tree.specs.Rows.{nodes_of}
use Rattle.revision_tree.proofs.Ranked.{live_winner, deleted_winner, some_greatest}
use Rattle.revision_tree.proofs.leaf.winner_of.Goals as goal

pub returns-in-Some : goal.returns-in-Some
returns-in-Some c = live_winner (nodes_of c.args.rows.now) c.requires.nodes c.greatest.result c.greatest.ensures c.in-Some.live c.in-Some.is

pub unreachable-requires : goal.unreachable-requires
unreachable-requires c = some_greatest (nodes_of c.args.rows.now) c.requires.nodes c.greatest.result c.greatest.ensures c.in_default.is c.greatest-2.result c.greatest-2.ensures c.in-None.is

pub returns : goal.returns
returns c =
    deleted_winner (nodes_of c.args.rows.now) c.requires.nodes c.greatest.result c.greatest.ensures c.in_default.is c.greatest-2.result c.greatest-2.ensures c.in-Some-greatest.leaf c.in-Some-greatest.is
