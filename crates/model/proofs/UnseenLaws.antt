-- A compaction strips each tree and changes nothing else, so no query about leaves, known revisions or numbers shows it.
use Rattle.std.specs.Prelude.{◌≡◌, ℕ, Bool, true, false, not, ◌&&◌, cond, List, [], ◌∷◌, length, map, filter, filter_map, nat_lt, ◌-◌, ◌==◌, take, if◌then◌else◌, Option, Some, None, option_map, unwrap_or, refl}
use Rattle.std.specs.List.{cons_option}
use Rattle.std.specs.FinMap.Entries.{find}
use Rattle.std.proofs.Common.{sym, ap, ◌∙◌}
use Rattle.model.specs.Map.{Order, Map, entries, empty, get, from_list, refine, refine_list, same_map, get-from_list, same_key}
use Rattle.std.proofs.Math.ListN.{length-map}
use Rattle.model.specs.Lists.{first_of, each_once}
use Rattle.model.specs.Revision.{Rev, same_rev}
use Rattle.model.specs.Tree.{Tree, revs_of}
use Rattle.model.specs.TreeChange.{strip}
use Rattle.model.specs.Command.{Id, names, numbers}
use Rattle.model.specs.Query.{Style, Row, ChangesPage, Difference, MainOnly, AllDocs}
use Rattle.model.specs.Database.{Database, Record, tree_at, stripped, compacted}
use Rattle.model.specs.Documents.{largest_generation, in_order, difference_of, missing_from, difference, differences}
use Rattle.model.specs.Changes.{at_numbers, by_seq, changed_since, row, rows_since, first_rows, last_seq_of, changes_page}
use Rattle.model.specs.Answers.{is_live, live_document, live_documents, counts}
use Rattle.model.proofs.MapLaws.{get-refine_all}
use Rattle.model.proofs.StripLaws.{knows-strip, leaves-strip}
use Rattle.model.proofs.TouchedLaws.{Update}

-- ---- the entries of a map with other values

module _ {K X Y : Type 0} (g : X → Y) where
  abbrev with_value : K × X → K × Y
  with_value e = (e.0, g e.1)

filter-map : {X Y : Type 0} (p : Y → Bool) (f : X → Y) (xs : List X) → filter p (map f xs) ≡ map f (filter (λ x. p (f x)) xs)
filter-map p f [] = refl
filter-map p f (x ∷ xs) = let rest = filter-map p f xs in
    elim (p (f x)) as (λ b. cond b (f x ∷ filter p (map f xs)) (filter p (map f xs)) ≡ map f (cond b (x ∷ filter (λ y. p (f y)) xs) (filter (λ y. p (f y)) xs))) [ true ↦ ap (λ ys. f x ∷ ys) rest | false ↦ rest ]

filter_map-map : {X Y Z : Type 0} (h : Y → Option Z) (f : X → Y) (xs : List X) → filter_map h (map f xs) ≡ filter_map (λ x. h (f x)) xs
filter_map-map h f [] = refl
filter_map-map h f (x ∷ xs) = ap (cons_option (h (f x))) (filter_map-map h f xs)

map-map : {X Y Z : Type 0} (f : Y → Z) (g : X → Y) (xs : List X) → map f (map g xs) ≡ map (λ x. f (g x)) xs
map-map f g [] = refl
map-map f g (x ∷ xs) = ap (λ zs. f (g x) ∷ zs) (map-map f g xs)

entries-refine : {O : Order} {X Y : Type 0} (g : X → Y) (m : Map O X) → entries (refine (λ _ x. Some (g x)) m) ≡ map (with_value g) (entries m)
entries-refine {O} {X} {Y} g m = go m.list
  where
    go : (es : List (O.key × X)) → refine_list O (λ _ x. Some (g x)) es ≡ map (with_value g) es
    go [] = refl
    go (e ∷ es) = ap (λ fs. (e.0, g e.1) ∷ fs) (go es)

from_list-map : (O : Order) {X Y : Type 0} (g : X → Y) (es : List (O.key × X)) → from_list {O = O} (map (with_value g) es) ≡ refine (λ _ x. Some (g x)) (from_list {O = O} es)
from_list-map O {X} {Y} g es = same_map _ _ (λ q. get-from_list O (map (with_value g) es) q ∙ found es q ∙ ap (option_map g) (sym (get-from_list O es q)) ∙ sym (get-refine_all (λ _ x. g x) (from_list {O = O} es) q))
  where
    found : (es : List (O.key × X)) (q : O.key) → find O.cmp q (map (with_value g) es) ≡ option_map g (find O.cmp q es)
    found [] q = refl
    found (e ∷ es) q = let rest = found es q in
        elim (same_key O q e.0) as (λ b. cond b (Some (g e.1)) (find O.cmp q (map (with_value g) es)) ≡ option_map g (cond b (Some e.1) (find O.cmp q es))) [ true ↦ refl | false ↦ rest ]

-- ---- documents

pub tree_at-compacted : (d : Database) (id : Id) → tree_at (compacted d) id ≡ option_map strip (tree_at d id)
tree_at-compacted d id = ap (option_map (λ r. r.tree)) (get-refine_all (λ _ r. stripped r) d.docs id) ∙ at (get d.docs id)
  where
    at : (o : Option Record) → option_map (λ r. r.tree) (option_map stripped o) ≡ option_map strip (option_map (λ r. r.tree) o)
    at None = refl
    at (Some r) = refl

-- ---- changes

abbrev stripped_update : Update → Update
stripped_update e = (e.0, (e.1.0, stripped e.1.1))

by_seq-compacted : (d : Database) → by_seq (compacted d) ≡ map stripped_update (by_seq d)
unfolding by_seq
by_seq-compacted d =
    ap (λ es. entries (from_list {O = numbers} (map (λ e. (e.1.seq, e)) es))) (entries-refine stripped d.docs)
    ∙ ap (λ es. entries (from_list {O = numbers} es)) (map-map (λ e. (e.1.seq, e)) (with_value stripped) (entries d.docs) ∙ sym (map-map (with_value (λ e. (e.0, stripped e.1))) (λ e. (e.1.seq, e)) (entries d.docs)))
    ∙ ap entries (from_list-map numbers (λ e. (e.0, stripped e.1)) (map (λ e. (e.1.seq, e)) (entries d.docs)))
    ∙ entries-refine (λ e. (e.0, stripped e.1)) (at_numbers d)

pub row-stripped : (style : Style) (e : Update) → row style (stripped_update e) ≡ row style e
row-stripped MainOnly e = ap (λ ls. record { seq = e.0; id = e.1.0; changes = take 1 (revs_of ls); deleted = unwrap_or (option_map (λ l. l.deleted) (first_of ls)) false }) (leaves-strip e.1.1.tree)
row-stripped AllDocs e = ap (λ ls. record { seq = e.0; id = e.1.0; changes = revs_of ls; deleted = unwrap_or (option_map (λ l. l.deleted) (first_of ls)) false }) (leaves-strip e.1.1.tree)

module _ (wanted : Id → Bool) (d : Database) (since : ℕ) (style : Style) where
  rows-compacted : rows_since wanted (compacted d) since style ≡ rows_since wanted d since style
  rows-compacted =
      ap (λ es. map (row style) (filter (λ e. nat_lt since e.0 && wanted e.1.0) es)) (by_seq-compacted d)
      ∙ ap (map (row style)) (filter-map (λ e. nat_lt since e.0 && wanted e.1.0) stripped_update (by_seq d))
      ∙ map-map (row style) stripped_update (changed_since wanted d since)
      ∙ (λ i. map (λ e. row-stripped style e i) (changed_since wanted d since))

  pub changes-compacted : (limit : Option ℕ) → changes_page wanted (compacted d) since limit style ≡ changes_page wanted d since limit style
  unfolding changes_page
  changes-compacted limit = ap page rows-compacted
    where
      page : List Row → ChangesPage
      page all =
          let given = first_rows limit all in
          let left = length all - length given in
          record { last_seq = if left == 0 then d.update_seq else last_seq_of since given; pending = left; rows = given }

-- ---- differences

difference-compacted : (d : Database) (id : Id) (asked : List Rev) → difference (compacted d) id asked ≡ difference d id asked
difference-compacted d id asked = ap (λ t. difference_in (unwrap_or t empty)) (tree_at-compacted d id) ∙ at (tree_at d id)
  where
    difference_in : Tree → Option Difference
    difference_in t = difference_of t (missing_from t asked)

    by_leaves : (t : Tree) (missing : List Rev) → difference_of (strip t) missing ≡ difference_of t missing
    by_leaves t [] = refl
    by_leaves t (r ∷ rs) = ap (λ ls. Some (record { missing = r ∷ rs; possible_ancestors = in_order (filter (λ l. nat_lt l.generation (largest_generation (r ∷ rs))) (revs_of ls)) })) (leaves-strip t)

    same : (t : Tree) → difference_in (strip t) ≡ difference_in t
    same t = (λ i. difference_of (strip t) (each_once same_rev (filter (λ r. not (knows-strip t r i)) asked))) ∙ by_leaves t (missing_from t asked)

    at : (o : Option Tree) → difference_in (unwrap_or (option_map strip o) empty) ≡ difference_in (unwrap_or o empty)
    at None = refl
    at (Some t) = same t

pub differences-compacted : (d : Database) (asked : Map names (List Rev)) → differences (compacted d) asked ≡ differences d asked
differences-compacted d asked = λ i. refine (λ id revs. difference-compacted d id revs i) asked

-- ---- live documents and counts

abbrev stripped_document : Id × Record → Id × Record
stripped_document e = (e.0, stripped e.1)

documents-compacted : (d : Database) → entries (compacted d).docs ≡ map stripped_document (entries d.docs)
documents-compacted d = entries-refine stripped d.docs

is_live-stripped : (r : Record) → is_live (stripped r) ≡ is_live r
is_live-stripped r = ap (λ ls. not (unwrap_or (option_map (λ l. l.deleted) (first_of ls)) false)) (leaves-strip r.tree)

pub live-compacted : (d : Database) → live_documents (compacted d) ≡ live_documents d
live-compacted d = ap (filter_map live_document) (documents-compacted d) ∙ filter_map-map live_document stripped_document (entries d.docs) ∙ (λ i. filter_map (λ e. same e i) (entries d.docs))
  where
    same : (e : Id × Record) → live_document (stripped_document e) ≡ live_document e
    same e = ap (λ ls. if not (unwrap_or (option_map (λ l. l.deleted) (first_of ls)) false) then option_map (λ l. (e.0, l.rev)) (first_of ls) else None) (leaves-strip e.1.tree)

pub counts-compacted : (d : Database) → counts (compacted d) ≡ counts d
counts-compacted d = λ i. record { doc_count = count is_live is_live-stripped i; doc_del_count = count (λ r. not (is_live r)) (λ r. ap not (is_live-stripped r)) i; update_seq = d.update_seq; purge_seq = d.purges.purge_seq }
  where
    count : (test : Record → Bool) → ((r : Record) → test (stripped r) ≡ test r) → length (filter (λ e. test e.1) (entries (compacted d).docs)) ≡ length (filter (λ e. test e.1) (entries d.docs))
    count test same =
        ap (λ es. length (filter (λ e. test e.1) es)) (documents-compacted d) ∙ ap length (filter-map (λ e. test e.1) stripped_document (entries d.docs))
        ∙ length-map (filter (λ e. test (stripped e.1)) (entries d.docs)) stripped_document ∙ (λ i. length (filter (λ e. same e.1 i) (entries d.docs)))
