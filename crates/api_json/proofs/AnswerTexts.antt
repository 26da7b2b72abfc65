-- The texts of answers, in parts.
use Rattle.std.proofs.Common.{◌≡◌, ℕ, Bool, true, false, List, ◌++◌, append_assoc, length, refl, sym, ap, ◌∙◌, decimal, arith}
use Rattle.std.specs.Prelude.{codes}
use Rattle.std.proofs.lemmas.Fmt.{decimal_digit}
use Rattle.serde_json.specs.Written.{compact_text}
use Rattle.serde_json.proofs.OnLiterals.{serde_json_on_literals}
use Rattle.json.specs.Print.{quoted}
use Rattle.model.specs.Command.{Id, names}
use Rattle.model.specs.Map.{Map}
use Rattle.model.specs.Query.{ChangesPage, Document, Row}
use Rattle.model.specs.Revision.{Rev}
use Rattle.api_json.specs.AllDocs.{all_docs_data, all_listed_data, listed_data}
use Rattle.api_json.specs.Changes.{before_id, leaves_data, named_rev_data, page_data, row_data, rows_data}
use Rattle.api_json.specs.Opened.{found_data}
use Rattle.api_json.specs.Purge.{purged_data, removed_data}
use Rattle.api_json.specs.Replies.{write_data}
use Rattle.document_json.specs.Written.{document_data, rev_data}

joined : (a b c d e f g : List ℕ) → (((a ++ (b ++ (c ++ (d ++ e)))) ++ f) ++ g) ≡ a ++ (b ++ (c ++ (d ++ (e ++ (f ++ g)))))
joined a b c d e f g = simp append_assoc refl

-- what comes before the rows
abbrev pub page_front : ChangesPage → List ℕ
page_front page = codes "{\"last_seq\":" ++ (decimal page.last_seq ++ (codes ",\"pending\":" ++ (decimal page.pending ++ codes ",\"results\":")))

pub page_data-parts : (page : ChangesPage) → ((page_front page ++ compact_text (rows_data page.rows)) ++ codes "}") ≡ compact_text (page_data page)
unfolding serde_json_on_literals
page_data-parts page =
    joined (codes "{\"last_seq\":") (decimal page.last_seq) (codes ",\"pending\":") (decimal page.pending) (codes ",\"results\":")
    (compact_text (rows_data page.rows)) (codes "}")

-- what comes before the documents of a purge
abbrev pub purged_front : ℕ → List ℕ
purged_front purge_seq = codes "{\"purge_seq\":" ++ (decimal purge_seq ++ codes ",\"purged\":")

joined_purge : (a b c d e : List ℕ) → ((a ++ (b ++ c)) ++ d) ++ e ≡ a ++ (b ++ (c ++ (d ++ e)))
joined_purge a b c d e = simp append_assoc refl

pub purged_data-parts : (purge_seq : ℕ) (removed : Map names (List Rev)) → (purged_front purge_seq ++ compact_text (removed_data removed)) ++ codes "}" ≡ compact_text (purged_data purge_seq removed)
unfolding serde_json_on_literals
purged_data-parts purge_seq removed =
    joined_purge (codes "{\"purge_seq\":") (decimal purge_seq) (codes ",\"purged\":") (compact_text (removed_data removed)) (codes "}")

-- what comes before and behind the documents
abbrev pub all_docs_front : List ℕ
all_docs_front = codes "{\"offset\":0,\"rows\":"

abbrev pub all_docs_end : List (Id × Rev) → List ℕ
all_docs_end documents = codes ",\"total_rows\":" ++ (decimal (length documents) ++ codes "}")

pub all_docs_data-parts : (documents : List (Id × Rev)) → (all_docs_front ++ compact_text (all_listed_data documents)) ++ all_docs_end documents ≡ compact_text (all_docs_data documents)
unfolding serde_json_on_literals
all_docs_data-parts documents =
    let rows = compact_text (all_listed_data documents) in
    append_assoc all_docs_front rows (all_docs_end documents)
    ∙ ap (λ zero. codes "{\"offset\":" ++ (zero ++ (codes ",\"rows\":" ++ (rows ++ all_docs_end documents)))) (sym (decimal_digit 0 (omega arith)))

-- a document and its winner
pub listed_data-parts : (id : Id) (winner : Rev)
    → codes "{\"id\":" ++ (quoted id ++ (codes ",\"key\":" ++ (quoted id ++ (codes ",\"value\":" ++ (compact_text (named_rev_data winner) ++ codes "}"))))) ≡ compact_text (listed_data (id, winner))
unfolding serde_json_on_literals
listed_data-parts id winner = refl

-- a revision under its name
pub named_rev-parts : (rev : Rev) → (codes "{\"rev\":" ++ compact_text (rev_data rev)) ++ codes "}" ≡ compact_text (named_rev_data rev)
unfolding serde_json_on_literals
named_rev-parts rev = append_assoc (codes "{\"rev\":") (compact_text (rev_data rev)) (codes "}")

joined_row : (a b c d e : List ℕ) → (((a ++ b) ++ c) ++ d) ++ e ≡ a ++ (b ++ (c ++ (d ++ e)))
joined_row a b c d e = simp append_assoc refl

-- what comes behind the id of a row
abbrev pub row_end : ℕ → List ℕ
row_end seq = codes ",\"seq\":" ++ (decimal seq ++ codes "}")

row-parts : (changes : List Rev) (deleted : Bool) (id : Id) (seq : ℕ)
    → (((codes "{\"changes\":" ++ compact_text (leaves_data changes)) ++ before_id deleted) ++ quoted id) ++ row_end seq
    ≡ compact_text (row_data (record { seq = seq; id = id; changes = changes; deleted = deleted }))
unfolding serde_json_on_literals
row-parts changes true id seq = joined_row (codes "{\"changes\":") (compact_text (leaves_data changes)) (before_id true) (quoted id) (row_end seq)
row-parts changes false id seq = joined_row (codes "{\"changes\":") (compact_text (leaves_data changes)) (before_id false) (quoted id) (row_end seq)

-- a row of the changes
pub row_data-parts : (row : Row) → (((codes "{\"changes\":" ++ compact_text (leaves_data row.changes)) ++ before_id row.deleted) ++ quoted row.id) ++ row_end row.seq ≡ compact_text (row_data row)
row_data-parts row = row-parts row.changes row.deleted row.id row.seq

-- a revision that is found
pub found-text : (d : Document) (text : List ℕ) → text ≡ compact_text (document_data d) → codes "{\"ok\":" ++ (text ++ codes "}") ≡ compact_text (found_data d)
unfolding serde_json_on_literals
found-text d text is = ap (λ t. codes "{\"ok\":" ++ (t ++ codes "}")) is

-- what is said of a write
pub write_data-parts : (id rev : List ℕ) → (((codes "{\"id\":" ++ quoted id) ++ codes ",\"ok\":true,\"rev\":") ++ quoted rev) ++ codes "}" ≡ compact_text (write_data id rev)
unfolding serde_json_on_literals
write_data-parts id rev =
    let front = codes "{\"id\":" in
    let middle = codes ",\"ok\":true,\"rev\":" in
    append_assoc ((front ++ quoted id) ++ middle) (quoted rev) (codes "}")
    ∙ append_assoc (front ++ quoted id) middle (quoted rev ++ codes "}")
    ∙ append_assoc front (quoted id) (middle ++ (quoted rev ++ codes "}"))
