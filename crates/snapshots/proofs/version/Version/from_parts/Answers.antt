use Rattle.snapshots.proofs.Epochs.{begun_only, not_begun}
use Rattle.snapshots.proofs.version.Version.from_parts.Goals as goal

pub returns-in_default : goal.returns-in_default
returns-in_default c = record { begun = λ v. not_begun c.args.parts c.in_ok-database.field-0 v c.in_default.is c.in_ok-database.ensures }

pub over-requires : goal.over-requires
over-requires c = let fits = (c.in_ok-database.ensures c.in-Some.database).0 c.in-Some.is in fits.1

pub returns : goal.returns
returns c = record { begun = λ v. begun_only c.args.parts c.in_ok-database.field-0 c.in-Some.database _ v c.in-Some.is c.in_ok-over.ensures c.in_ok-database.ensures }
