use Rattle.std.proofs.Common.{◌∙◌, sym}
use Rattle.revision_tree.proofs.Steps.{first_forest, first_rooted, first_runs}
use Rattle.revision_tree.proofs.members.with_newest.Goals as goal

pub returns-then-knows : goal.returns-then-knows
returns-then-knows c = λ body deleted. first_runs c.args.tree.now c.requires.tree c.args.newest body deleted c.requires.path (sym c.knows.ensures ∙ c.if-knows.true) c.args.runs c.requires.runs

pub returns : goal.returns
returns c = λ body deleted.
    let t = c.args.tree.now in
    c.rooted.ensures t _ (record { before = c.requires.tree; after = first_forest t c.requires.tree c.args.newest body deleted c.requires.path; runs = c.requires.runs })
    (first_rooted t c.requires.tree c.args.newest body deleted c.requires.path (sym c.knows.ensures ∙ c.if-knows.false))
