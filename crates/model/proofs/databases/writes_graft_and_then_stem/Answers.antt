use Rattle.model.specs.Database.{tree_at}
use Rattle.model.proofs.EditLaws.{merged-taken, taken-merged, merged-refused, refused-merged, edited-taken, taken-edited, edited-past, past-edited}
use Rattle.model.proofs.databases.writes_graft_and_then_stem.Goals as goal

pub returns-clause-edit : goal.returns-clause-edit
returns-clause-edit c d e w = (
  λ taken. let h = edited-taken d.revs_limit (tree_at d e.id) e w taken in (h.parent, h.grafted.tree, h.found, h.in_range, h.grafted.grafts, h.grafted.is),
  λ h. taken-edited d.revs_limit (tree_at d e.id) e w (record { parent = h.0; found = h.2; in_range = h.3; grafted = record { tree = h.1; grafts = h.4; is = h.5 } }),
)

pub returns-clause-past : goal.returns-clause-past
returns-clause-past c d e = (edited-past d.revs_limit (tree_at d e.id) e, λ h. past-edited d.revs_limit (tree_at d e.id) e h.0 h.1 h.2)

pub returns-clause-merge : goal.returns-clause-merge
returns-clause-merge c d m w = (
  λ taken. let h = merged-taken d.revs_limit (tree_at d m.id) m w taken in (h.tree, h.grafts, h.is),
  λ h. taken-merged d.revs_limit (tree_at d m.id) m w (record { tree = h.0; grafts = h.1; is = h.2 }),
)

pub returns-clause-contradicts : goal.returns-clause-contradicts
returns-clause-contradicts c d m f = (merged-refused d.revs_limit (tree_at d m.id) m f, refused-merged d.revs_limit (tree_at d m.id) m f)
