-- Lists of rows and of documents, as a walk makes them.
use Rattle.std.specs.Prelude.{◌≡◌, ◌-◌, ◌==◌, ℕ, suc, Bool, if◌then◌else◌, List, [], ◌∷◌, ◌++◌, length, map, take, slice_get, Option, Some, None, refl}
use Rattle.std.specs.List.{filter_map}
use Rattle.std.proofs.Common.{sym, ap, ◌∙◌, append-nil, arith}
use Rattle.std.proofs.lemmas.List.{map-append, take_all}
use Rattle.std.proofs.lemmas.List.Elements.{filter_map-append}
use Rattle.std.proofs.lemmas.Option.{none-some, same_Some}
use Rattle.std.proofs.Math.ListN.{length-map}
use Rattle.model.specs.Command.{Id}
use Rattle.model.specs.Query.{Row}
use Rattle.model.specs.declared.style.Style.{Style}
use Rattle.model.specs.Database.{Database}
use Rattle.model.specs.Changes.{changed_since, changes_page, first_rows, last_seq_of, row, rows_since}
use Rattle.changes_feed.specs.Followed.{most_of}

-- the number of the last row
pub last_seq-get : (since : ℕ) (rows : List Row) (r : Row) → slice_get rows (length rows - 1) ≡ Some r → last_seq_of since rows ≡ r.seq
last_seq-get since [] r e = absurd (none-some r e)
last_seq-get since (q ∷ []) r e = ap (λ (s : Row). s.seq) (same_Some q r e)
last_seq-get since (q ∷ p ∷ rs) r e =
    let whole : length (q ∷ p ∷ rs) - 1 ≡ suc (length rs) = omega arith in
    let rest : length (p ∷ rs) - 1 ≡ length rs = omega arith in
    last_seq-get q.seq (p ∷ rs) r (ap (slice_get (p ∷ rs)) rest ∙ ap (slice_get (q ∷ p ∷ rs)) (sym whole) ∙ e)

-- the rows of a page
pub first_rows-most : (limit : Option ℕ) (n : ℕ) (rows : List Row) → n ≡ length rows → take (most_of limit n) rows ≡ first_rows limit rows
first_rows-most None n rows e = take_all n rows (omega (arith, e))
first_rows-most (Some limit) n rows e = refl

-- a page of the first rows, with what is counted beyond them
pub page-is : (wanted : Id → Bool) (d : Database) (since : ℕ) (limit : Option ℕ) (style : Style) (count len last : ℕ) (rows : List Row)
    → count ≡ length (changed_since wanted d since) → rows ≡ take (most_of limit count) (rows_since wanted d since style) → len ≡ length rows
    → last ≡ (if (count - len) == 0 then d.update_seq else last_seq_of since rows)
    → record { last_seq = last; pending = count - len; rows = rows } ≡ changes_page wanted d since limit style
unfolding changes_page
page-is wanted d since limit style count len last rows counted first long ends =
    let all = rows_since wanted d since style in
    let many : count ≡ length all = counted ∙ sym (length-map (changed_since wanted d since) (row style)) in
    let given : rows ≡ first_rows limit all = first ∙ first_rows-most limit count all many in
    let left : count - len ≡ length all - length (first_rows limit all) = λ i. many i - (long ∙ ap (λ (rs : List Row). length rs) given) i in
    let last_is : last ≡ (if (length all - length (first_rows limit all)) == 0 then d.update_seq else last_seq_of since (first_rows limit all)) =
    ends ∙ (λ i. if left i == 0 then d.update_seq else last_seq_of since (given i)) in
    λ i. record { last_seq = last_is i; pending = left i; rows = given i }

module _ {A X Y : Type 0} (f : A → X) (h : X → Option Y) where
  -- what a further element gives goes last
  pub filter_map-more : (xs : List A) (x : A) (y : Y) → h (f x) ≡ Some y → filter_map h (map f (xs ++ x ∷ [])) ≡ filter_map h (map f xs) ++ y ∷ []
  filter_map-more xs x y e = ap (filter_map h) (map-append f xs (x ∷ [])) ∙ filter_map-append h (map f xs) (f x ∷ []) ∙ ap (λ ys. filter_map h (map f xs) ++ ys) (rw e refl)

  pub filter_map-same : (xs : List A) (x : A) → h (f x) ≡ None → filter_map h (map f (xs ++ x ∷ [])) ≡ filter_map h (map f xs)
  filter_map-same xs x e = ap (filter_map h) (map-append f xs (x ∷ [])) ∙ filter_map-append h (map f xs) (f x ∷ []) ∙ ap (λ ys. filter_map h (map f xs) ++ ys) (rw e refl) ∙ append-nil (filter_map h (map f xs))
