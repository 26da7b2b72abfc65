-- Which answers can be read.
use Rattle.std.specs.Prelude.{ℕ, Bool, true, ◌&&◌, List, [], ◌∷◌, length, Option, unwrap_or, Result, Ok, Err, nat_lt, nat_le}
use Rattle.std.specs.List.{list_all, list_any}
use Rattle.model.specs.Map.{Map, entries, get, same_key}
use Rattle.model.specs.Changes.{wanted_by}
use Rattle.model.specs.Command.{Id, Merge, names}
use Rattle.model.specs.Query.{ChangesPage, Difference, Row}
use Rattle.model.specs.Revision.{Rev, same_rev}

-- whether the numbers of the rows rise, from above this one
abbrev pub rises_above : ℕ → List Row → Bool
rises_above since [] = true
rises_above since (row ∷ rows) = nat_lt since row.seq && rises_above row.seq rows

-- the number of the last row, or this one where there is none
abbrev pub last_number : ℕ → List Row → ℕ
last_number since [] = since
last_number since (row ∷ rows) = last_number row.seq rows

-- whether each row is of a document that was asked for
abbrev pub are_wanted : Option (List Id) → List Row → Bool
are_wanted ids rows = list_all (λ row. wanted_by ids row.id) rows

-- the rows rise from above the number that was given, at most so many and all of documents that were asked for, and the
-- page ends at the last one or later
abbrev pub is_readable_page : Option (List Id) → ℕ → ℕ → ChangesPage → Bool
is_readable_page ids since limit page =
    rises_above since page.rows && nat_le (length page.rows) limit && nat_le (last_number since page.rows) page.last_seq && are_wanted ids page.rows

-- the revisions that were asked about under an id, and none where it was not named
abbrev pub asked_about : Map names (List Rev) → Id → List Rev
asked_about asked id = unwrap_or (get asked id) []

-- whether a revision is one of these
abbrev pub is_among : List Rev → Rev → Bool
is_among revs rev = list_any (λ r. same_rev r rev) revs

-- whether each revision that is missing was asked about under its id
abbrev pub is_readable_difference : Map names (List Rev) → Map names Difference → Bool
is_readable_difference asked differences = list_all (λ d. list_all (is_among (asked_about asked d.0)) d.1.missing) (entries differences)

-- the revisions that a document brings, newest first
abbrev pub path_of : Merge → List Rev
path_of document = document.newest ∷ document.older

-- whether an answer reports a revision: it is in the path of a document, or is missing
abbrev pub tells_of : Rev → Result Merge Rev → Bool
tells_of rev (Ok document) = is_among (path_of document) rev
tells_of rev (Err missing) = same_rev missing rev

-- whether what is given is the document of this id
abbrev pub is_of : Id → Result Merge Rev → Bool
is_of id (Ok document) = same_key names document.id id
is_of id (Err missing) = true

-- whether each revision that was asked for is reported, and no other document is given
abbrev pub is_readable_opened : Id → List Rev → List (Result Merge Rev) → Bool
is_readable_opened id revs opened = list_all (λ rev. list_any (tells_of rev) opened) revs && list_all (is_of id) opened
