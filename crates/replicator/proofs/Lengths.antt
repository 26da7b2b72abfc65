-- How long the text of a bulk is.
use Rattle.std.proofs.Common.{◌≡◌, ℕ, zero, suc, ◌+◌, ◌-◌, ◌<◌, ◌≤◌, max, List, [], ◌∷◌, ◌++◌, length, get_or, take, map, refl, ap, sym, subst, ◌∙◌, arith, length-append, add-one, inl, inr}
use Rattle.std.specs.Prelude.{codes}
use Rattle.std.specs.List.{join_with_byte}
use Rattle.std.proofs.lemmas.List.{length-take-le}
use Rattle.model.specs.Command.{Merge}
use Rattle.replicator.specs.Bulk.{IsBulkLen, bulk_text, merge_text}

-- the bytes of texts, with a comma for each
abbrev pub total : List (List ℕ) → ℕ
total [] = 0
total (t ∷ ts) = length t + 1 + total ts

joined-length : (t : List ℕ) (ts : List (List ℕ)) → length (join_with_byte 44 (t ∷ ts)) + 1 ≡ total (t ∷ ts)
joined-length t [] = omega arith
joined-length t (s ∷ ts) =
    let rest = joined-length s ts in
    let here = length-append t (44 ∷ join_with_byte 44 (s ∷ ts)) in
    omega arith

around-length : (text : List ℕ) → length (codes "{\"docs\":[" ++ text ++ codes "],\"new_edits\":false}") ≡ 29 + length text
around-length text = simp length-append (omega arith)

module _ (f : Merge → List ℕ) where
  total-more : (ms : List Merge) (i : ℕ) (d : Merge) → i < length ms → total (map f (take (suc i) ms)) ≡ total (map f (take i ms)) + (length (f (get_or ms i d)) + 1)
  total-more [] i d h = absurd (omega arith)
  total-more (m ∷ ms) zero d h = omega arith
  total-more (m ∷ ms) (suc i) d h = let rest = total-more ms i d (omega arith) in omega arith

  text-length : (ms : List Merge) → 0 < length ms → length (codes "{\"docs\":[" ++ join_with_byte 44 (map f ms) ++ codes "],\"new_edits\":false}") ≡ 28 + total (map f ms)
  text-length [] h = absurd (omega arith)
  text-length (m ∷ ms) h =
      let around = around-length (join_with_byte 44 (map f (m ∷ ms))) in
      let joined = joined-length (f m) (map f ms) in
      omega arith

-- one more document
pub one-more : (ms : List Merge) (i : ℕ) (m : Merge) (n : ℕ) → i < length ms → m ≡ get_or ms i m → n ≡ length (merge_text m)
    → total (map merge_text (take (i + 1) ms)) ≡ total (map merge_text (take i ms)) + (n + 1)
one-more ms i m n h is text =
    let here : length (merge_text m) ≡ length (merge_text (get_or ms i m)) = ap (λ (x : Merge). length (merge_text x)) is in
    rw add-one (total-more merge_text ms i m h ∙ ap (λ (k : ℕ). total (map merge_text (take i ms)) + (k + 1)) (sym (text ∙ here)))

bulk-length : (ms : List Merge) (n : ℕ) → 0 < n → n ≤ length ms → length (bulk_text (take n ms)) ≡ 28 + total (map merge_text (take n ms))
bulk-length ms n some within =
    let len = length-take-le n ms within in
    text-length merge_text (take n ms) (omega arith)

-- all documents go
pub all-go : (ms : List Merge) (n size : ℕ) → 0 < length ms → n ≡ length ms → size ≡ 28 + total (map merge_text (take n ms)) → size ≤ 1048576 → IsBulkLen ms n
all-go ms n size some all is within =
    let text = bulk-length ms n (omega arith) (omega arith) in
    record { some = omega arith; within = omega arith; fits = inr (omega arith); most = inl all }

-- the first document alone is too long
first-alone : (ms : List Merge) (m : Merge) (text : ℕ) → 0 < length ms → m ≡ get_or ms 0 m → text ≡ length (merge_text m) → 1048576 - 28 ≤ text → IsBulkLen ms 1
first-alone [] m text some is len long = absurd (omega arith)
first-alone (a ∷ []) m text some is len long = record { some = omega arith; within = omega arith; fits = inl refl; most = inl refl }
first-alone (a ∷ b ∷ ms) m text some is len long =
    let here : length (merge_text m) ≡ length (merge_text a) = ap (λ (x : Merge). length (merge_text x)) is in
    let texts = text-length merge_text (a ∷ b ∷ []) (omega arith) in
    record { some = omega arith; within = omega arith; fits = inl refl; most = inr (omega arith) }

-- one more document is too many
pub one-too-many : (ms : List Merge) (i size : ℕ) (m : Merge) (text n : ℕ) → i < length ms → m ≡ get_or ms i m → text ≡ length (merge_text m)
    → size ≡ 28 + total (map merge_text (take i ms)) → size ≤ 1048576 → 1048576 - size ≤ text → n ≡ max i 1 → IsBulkLen ms n
one-too-many ms zero size m text n h is len size_is within long n_is =
    subst (λ (k : ℕ). IsBulkLen ms k) (sym n_is) (first-alone ms m text (omega arith) is len (omega arith))
one-too-many ms (suc i) size m text n h is len size_is within long n_is =
    let same : n ≡ suc i = omega arith in
    let here = bulk-length ms (suc i) (omega arith) (omega arith) in
    let more = one-more ms (suc i) m text h is len in
    let there = bulk-length ms (suc i + 1) (omega arith) (omega arith) in
    subst (λ (k : ℕ). IsBulkLen ms k) (sym same)
    (record { some = omega arith; within = omega arith; fits = inr (omega arith); most = inr (omega arith) })
