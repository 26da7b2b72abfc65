-- Revisions that are made one by one: changes_feed and session_api say the same of them.
use Rattle.std.proofs.Common.{◌≡◌, List, refl}
use Rattle.std.specs.Prelude.{Result, Ok, Err}
use Rattle.model.specs.Query.{Document}
use Rattle.model.specs.Revision.{Rev}
use Rattle.changes_feed.specs.Opening.{listed_with as listed_in_feed}
use Rattle.session_api.specs.Revisions.{listed_with}

pub same_listed : (live deleted : List Rev) (found : Result Document Rev) → listed_in_feed live deleted found ≡ listed_with live deleted found
same_listed live deleted (Ok d) = refl
same_listed live deleted (Err rev) = refl
