-- The kinds of queries in the model's terms.
use Rattle.std.specs.Prelude.{None, option_map}
use Rattle.model.specs.Query as model
use Rattle.queries.specs.declared.query.QueryKind.{QueryKind}
use Rattle.queries.specs.declared.query.QueryKind.TheVariants.{Get, OpenRevs, RevsDiff, Changes, AllDocuments, Info, GetLocal, RevsLimit, PurgedInfosLimit}

abbrev pub query_of : QueryKind → model.Query
query_of (Get id rev options) = model.Get id rev options
query_of (OpenRevs id asked options) = model.OpenRevs id (option_map (λ revs. revs.items) asked) options
query_of (RevsDiff named) = model.RevsDiff named
query_of (Changes since limit style ids) = model.Changes since limit style ids
query_of AllDocuments = model.AllDocuments
query_of Info = model.Info
query_of (GetLocal id) = model.GetLocal id
query_of RevsLimit = model.RevsLimit
query_of PurgedInfosLimit = model.PurgedInfosLimit
