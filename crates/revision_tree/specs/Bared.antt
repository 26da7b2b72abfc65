-- Nodes without the bodies of those that are parents.
use Rattle.std.specs.Prelude.{None, if◌then◌else◌}
use Rattle.revision_tree.specs.Nodes.{Row}

-- without its body, if it is marked as a parent
abbrev pub bare_row : Row → Row
bare_row r = (r.0, (if r.1.1 then record r.1.0 { body = None } else r.1.0, r.1.1))
