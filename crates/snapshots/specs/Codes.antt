-- The codes of what contracts see.
use Rattle.std.specs.Prelude.{ℕ, refl}
use Rattle.std.specs.Coded.{Coded, code_by, coded×, coded_ℕ, coded_list}
use Rattle.model.specs.Map.{Map, coded_map}
use Rattle.model.specs.Revision.{Rev, coded_rev}
use Rattle.model.specs.Edit.{Written}
use Rattle.model.specs.Tree.{Tree, coded_tree}
use Rattle.model.specs.Command.{names}
use Rattle.model.specs.Database.{Record}

abbrev pub coded_record : Coded Record
coded_record = code_by (Tree × ℕ) (coded× coded_tree coded_ℕ) (λ r. (r.tree, r.seq)) (λ p. record { tree = p.0; seq = p.1 }) (λ _. refl)

abbrev pub coded_records : Coded (Map names Record)
coded_records = coded_map (coded_list coded_ℕ) coded_record

abbrev pub coded_written : Coded Written
coded_written = code_by (Rev × Tree) (coded× coded_rev coded_tree) (λ w. (w.rev, w.tree)) (λ p. record { rev = p.0; tree = p.1 }) (λ _. refl)
