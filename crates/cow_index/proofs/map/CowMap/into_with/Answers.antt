use Rattle.std.specs.FinMap.Entries.{is_sorted-put}
use Rattle.cow_index.proofs.map.CowMap.into_with.Goals as goal

pub of_root-requires : goal.of_root-requires
of_root-requires g c = rw c.in_ok-root.ensures.entries (is_sorted-put g.K.Ord.cmp g.met.K.Ord.total _ _ c.self.inside.root.0 c.self.invariant)
