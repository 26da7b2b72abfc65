-- How long rows are.
use Rattle.std.proofs.Common.{◌≡◌, ℕ, ◌+◌, Bool, List, ◌++◌, length, decimal, ap, length-append, arith}
use Rattle.std.specs.Prelude.{codes}
use Rattle.json.specs.Print.{quoted}
use Rattle.serde_json.specs.Written.{compact_text}
use Rattle.model.specs.Command.{Id}
use Rattle.model.specs.Query.{ChangesPage, Row}
use Rattle.model.specs.Revision.{Rev}
use Rattle.document_json.specs.Written.{rev_data}
use Rattle.api_json.specs.AllDocs.{all_docs_data, all_listed_data, listed_data}
use Rattle.api_json.specs.Changes.{before_id, leaves_data, named_rev_data, page_data, row_data, rows_data}
use Rattle.api_json.proofs.AnswerTexts.{all_docs_data-parts, all_docs_front, all_docs_end, listed_data-parts, named_rev-parts, page_data-parts, page_front, row_data-parts, row_end}

pub length-named_rev : (rev : Rev) → length (compact_text (named_rev_data rev)) ≡ length (compact_text (rev_data rev)) + 8
length-named_rev rev =
    let whole = ap length (named_rev-parts rev) in
    let closed = length-append (codes "{\"rev\":" ++ compact_text (rev_data rev)) (codes "}") in
    omega (arith, whole, closed)

pub length-row : (row : Row)
    → length (compact_text (row_data row)) ≡ (((length (compact_text (leaves_data row.changes)) + length (before_id row.deleted)) + length (quoted row.id)) + length (decimal row.seq)) + 19
length-row row =
    let front = codes "{\"changes\":" ++ compact_text (leaves_data row.changes) in
    let marked = front ++ before_id row.deleted in
    let named = marked ++ quoted row.id in
    let whole = ap length (row_data-parts row) in
    let first = length-append front (before_id row.deleted) in
    let second = length-append marked (quoted row.id) in
    let third = length-append named (row_end row.seq) in
    let last = length-append (decimal row.seq) (codes "}") in
    omega (arith, whole, first, second, third, last)

pub length-page : (page : ChangesPage)
    → length (compact_text (page_data page)) ≡ ((length (compact_text (rows_data page.rows)) + length (decimal page.last_seq)) + length (decimal page.pending)) + 35
length-page page =
    let rows = compact_text (rows_data page.rows) in
    let whole = ap length (page_data-parts page) in
    let closed = length-append (page_front page ++ rows) (codes "}") in
    let listed = length-append (page_front page) rows in
    let first = length-append (decimal page.last_seq) (codes ",\"pending\":" ++ (decimal page.pending ++ codes ",\"results\":")) in
    let second = length-append (decimal page.pending) (codes ",\"results\":") in
    omega (arith, whole, closed, listed, first, second)

pub length-listed : (id : Id) (winner : Rev)
    → length (compact_text (listed_data (id, winner))) ≡ ((length (quoted id) + length (quoted id)) + length (compact_text (named_rev_data winner))) + 23
length-listed id winner =
    let value = compact_text (named_rev_data winner) in
    let from_value = codes ",\"value\":" ++ (value ++ codes "}") in
    let whole = ap length (listed_data-parts id winner) in
    let first = length-append (quoted id) (codes ",\"key\":" ++ (quoted id ++ from_value)) in
    let second = length-append (quoted id) from_value in
    let third = length-append value (codes "}") in
    omega (arith, whole, first, second, third)

pub length-all_docs : (documents : List (Id × Rev))
    → length (compact_text (all_docs_data documents)) ≡ (length (compact_text (all_listed_data documents)) + length (decimal (length documents))) + 34
length-all_docs documents =
    let rows = compact_text (all_listed_data documents) in
    let whole = ap length (all_docs_data-parts documents) in
    let outer = length-append (all_docs_front ++ rows) (all_docs_end documents) in
    let inner = length-append all_docs_front rows in
    let last = length-append (decimal (length documents)) (codes "}") in
    omega (arith, whole, outer, inner, last)
