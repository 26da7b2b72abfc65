-- The lines of rows, some at a time.
use Rattle.std.proofs.Common.{◌≡◌, ℕ, ◌+◌, ◌-◌, ◌<◌, ◌≤◌, List, ◌++◌, length, take, drop, Option, ap, sym, ◌∙◌, subst, arith, length-append}
use Rattle.std.specs.List.{flat_map}
use Rattle.std.specs.Io.KnownBytes.{Appends}
use Rattle.std.proofs.KnownBytes.{Appends-trans}
use Rattle.std.proofs.Math.Seq.{take-add, take-append-add}
use Rattle.std.proofs.lemmas.Grind.{flat_map-append}
use Rattle.std.proofs.lemmas.List.{take-append-drop, take-append-le}
use Rattle.api_json.specs.Changes.{feed_line}
use Rattle.model.specs.Query.{Row}

module _ (rows : List Row) (at end : ℕ) (le : at ≤ end) where
  abbrev next : List ℕ
  next = flat_map feed_line (take (end - at) (drop at rows))

  with_next : flat_map feed_line (take at rows) ++ next ≡ flat_map feed_line (take end rows)
  with_next =
      let both : at + (end - at) ≡ end = omega (arith, le) in
      sym (flat_map-append feed_line (take at rows) (take (end - at) (drop at rows)))
      ∙ ap (flat_map feed_line) (sym (take-add at (end - at) rows) ∙ ap (λ (n : ℕ). take n rows) both)

  -- the next ones are written
  pub next_written : (first taken taken' : Option (List ℕ)) (text : List ℕ) → Appends first taken (flat_map feed_line (take at rows)) → text ≡ next → Appends taken taken' text
      → Appends first taken' (flat_map feed_line (take end rows))
  next_written first taken taken' text before is more =
      subst (Appends first taken') (ap (λ (t : List ℕ). flat_map feed_line (take at rows) ++ t) is ∙ with_next) (Appends-trans first taken taken' _ text before more)

  -- a part of them is written
  pub next_cut : (first taken taken' : Option (List ℕ)) (text : List ℕ) → Appends first taken (flat_map feed_line (take at rows)) → text ≡ next
      → (n : ℕ) × (n < length text) × Appends taken taken' (take n text)
      → (n : ℕ) × (n < length (flat_map feed_line rows)) × Appends first taken' (take n (flat_map feed_line rows))
  next_cut first taken taken' text before is (n, short, more) =
      let so_far : List ℕ = flat_map feed_line (take at rows) in
      let rest : List ℕ = flat_map feed_line (drop end rows) in
      let whole : (so_far ++ text) ++ rest ≡ flat_map feed_line rows =
      ap (λ (t : List ℕ). t ++ rest) (ap (λ (t : List ℕ). so_far ++ t) is ∙ with_next)
      ∙ sym (flat_map-append feed_line (take end rows) (drop end rows)) ∙ ap (flat_map feed_line) (take-append-drop end rows) in
      let size = ap length whole in
      let front = length-append so_far text in
      let all = length-append (so_far ++ text) rest in
      let first_bytes : so_far ++ take n text ≡ take (length so_far + n) (flat_map feed_line rows) =
      sym (take-append-add so_far text n)
      ∙ sym (take-append-le (length so_far + n) (so_far ++ text) rest (omega (arith, front, short)))
      ∙ ap (take (length so_far + n)) whole in (
        length so_far + n,
        omega (arith, size, front, all, short),
        subst (Appends first taken') first_bytes (Appends-trans first taken taken' so_far (take n text) before more),
      )
