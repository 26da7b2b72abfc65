-- Rows of a feed of which some are written, and memory is refused for the others.
use Rattle.std.proofs.Common.{◌≡◌, ◌⊎◌, ℕ, ◌-◌, ◌<◌, ◌≤◌, Bool, true, false, List, [], ◌∷◌, ◌++◌, length, map, take, drop, Option, None, Ok, inl, inr, refl, ap, sym, ◌∙◌, subst, arith, length-drop}
use Rattle.std.specs.Prelude.{◌&&◌, filter, nat_lt}
use Rattle.std.specs.List.{flat_map, take-map}
use Rattle.std.specs.Io.KnownBytes.{Appends}
use Rattle.std.proofs.KnownBytes.{Appends-trans}
use Rattle.std.proofs.Math.ListN.{length-map}
use Rattle.std.proofs.lemmas.Bool.Decides.{nat_tests}
use Rattle.std.proofs.lemmas.List.{length-take, take-append-drop, take-append-le}
use Rattle.api_json.specs.Changes.{feed_line}
use Rattle.model.specs.Command.{Id}
use Rattle.model.specs.Query.{Row}
use Rattle.model.specs.declared.style.Style.{Style}
use Rattle.model.specs.Database.{Database}
use Rattle.model.specs.Changes.{by_seq, changed_since, last_seq_of, row, rows_since, wanted_by}
use Rattle.model.proofs.RisingLaws.{above, above-last_number, last_number, last_number-le}
use Rattle.model.proofs.RowLaws.{above_since}
use Rattle.model.proofs.TouchedLaws.{Update, number}
use Rattle.session_api.specs.Known.{Known, database_at}
use Rattle.session_api.specs.SessionCall.{SessionCall}
use Rattle.http_turns.specs.Feed.{GivesPiece, Piece, piece_text, rows_at}
use Rattle.http_turns.specs.FeedCalls.{HasMore}
use Rattle.http_turns.specs.FeedWritten.{GivesNext, GivesPart, GoesOn, WritesRows}
use Rattle.http_turns.specs.declared.progress.Progress.{Progress}
use Rattle.http_turns.proofs.Feeds.{Going, goes_refused, going-on}

-- ---- rows that are left

module _ (style : Style) (wanted : Id → Bool) (d : Database) (c : ℕ) where
  abbrev updates : List Update
  updates = changed_since wanted d c

  last-rows : (low : ℕ) (es : List Update) → last_seq_of low (map (row style) es) ≡ last_number number low es
  last-rows low [] = refl
  last-rows low (e ∷ es) = last-rows e.0 es

  above-wanted : (last : ℕ) → c ≤ last → (es : List Update) → above number last (filter (λ e. nat_lt c e.0 && wanted e.1.0) es) ≡ filter (λ e. nat_lt last e.0 && wanted e.1.0) es
  above-wanted last le [] = refl
  above-wanted last le (e ∷ es) = grind (arith, nat_tests, above-wanted last le es)

  -- where more than n rows are above a number, some are above that of the n-th
  pub rows_left : (n : ℕ) → n < length (rows_since wanted d c style) → 0 < length (rows_since wanted d (last_seq_of c (take n (rows_since wanted d c style))) style)
  rows_left n some =
      let last = last_number number c (take n updates) in
      let rises = above_since wanted d c in
      let last_is : last_seq_of c (take n (rows_since wanted d c style)) ≡ last = ap (last_seq_of c) (take-map (row style) n updates) ∙ last-rows c (take n updates) in
      let left : changed_since wanted d last ≡ drop n updates = sym (above-wanted last (last_number-le number c n updates rises) (by_seq d)) ∙ above-last_number number c n updates rises in
      let size : length (rows_since wanted d last style) ≡ length updates - n = length-map (changed_since wanted d last) (row style) ∙ ap length left ∙ length-drop n updates in
      let many = length-map updates (row style) in
      subst (λ (m : ℕ). 0 < length (rows_since wanted d m style)) (sym last_is) (omega (arith, size, many, some))

-- ---- a part of a piece

module _ (k : Known) {before after : Progress} (piece : Piece) (gives : GivesPiece k before piece after) (here : piece.place ≡ length k.seen) (n : ℕ) (some : n < length piece.rows) where
  abbrev all : List Row
  all = rows_at k piece.place before.following

  abbrev part : Piece
  part = record { place = piece.place; rows = take n piece.rows }

  abbrev part_after : Progress
  part_after = record { following = record before.following { cursor = last_seq_of before.following.cursor (take n piece.rows) }; left = before.left - n }

  given : length piece.rows ≤ length all
  given = omega (arith, ap length gives.rows, length-take gives.count all)

  first_of_all : take n piece.rows ≡ take n all
  first_of_all =
      ap (take n) gives.rows
      ∙ sym (take-append-le n (take gives.count all) (drop gives.count all) (omega (arith, some, ap length gives.rows)))
      ∙ ap (take n) (take-append-drop gives.count all)

  part-gives : GivesPiece k before part part_after
  part-gives = record {
    within = gives.within;
    count = n;
    rows = first_of_all;
    following = refl;
    left = omega (arith, gives.left, some, length-take n piece.rows);
  }

  part-more : 0 < length (rows_at k (length k.seen) part_after.following)
  part-more =
      subst (λ (place : ℕ). 0 < length (rows_at k place part_after.following)) here
      (subst (λ (rows : List Row). 0 < length (rows_since (wanted_by before.following.ids) (database_at k piece.place) (last_seq_of before.following.cursor rows) before.following.style)) (sym first_of_all)
      (rows_left before.following.style (wanted_by before.following.ids) (database_at k piece.place) before.following.cursor n (omega (arith, some, given))))

  pub gives_part : (taken taken' : Option (List ℕ)) → Appends taken taken' (flat_map feed_line (take n piece.rows)) → GivesPart k before taken taken'
  gives_part taken taken' writes = record {
    piece = part;
    after = part_after;
    gives = part-gives;
    here = here;
    writes = writes;
    to_give = omega (arith, gives.left, some);
    more = part-more;
  }

-- ---- where memory is refused

pub wrote_some : (taken taken' : Option (List ℕ)) (whole : Bool) (rows : List Row) → whole ≡ false → WritesRows taken taken' (Ok whole) rows
    → (n : ℕ) × (n < length rows) × Appends taken taken' (flat_map feed_line (take n rows))
wrote_some taken taken' whole rows is writes = subst (λ (b : Bool). WritesRows taken taken' (Ok b) rows) is writes

pub gave_none : (k : Known) (before after : Progress) (taken taken' : Option (List ℕ)) (answer : Option ℕ) → answer ≡ None → GivesNext k before after (Ok answer) taken taken'
    → (taken' ≡ taken) ⊎ GivesPart k before taken taken'
gave_none k before after taken taken' answer is gives = subst (λ (o : Option ℕ). GivesNext k before after (Ok o) taken taken') is gives

module _ {S : Type 0} (goes : S → SessionCall → S → Type 0) (known : S → Known) (turns : ℕ) {old here : S} {start state : Progress} {text : List ℕ} (going : Going goes known turns old here start state text) where
  -- the feed ends behind what was written
  pub goes_short : (whole : Bool) (first taken taken' : Option (List ℕ)) → Appends first taken text → (taken' ≡ taken) ⊎ GivesPart (known here) state taken taken'
      → (said : List ℕ) × GoesOn goes known turns old here start whole said × Appends first taken' said
  goes_short whole first taken taken' appends (inl same) = (text, goes_refused goes known turns going whole, subst (λ (t : Option (List ℕ)). Appends first t text) (sym same) appends)
  goes_short whole first taken taken' appends (inr part) =
      let more : HasMore goes known turns part.after here [] here (Ok true) = inr (inl (part.to_give, part.more, (refl, refl), refl)) in (
        text ++ piece_text part.piece,
        goes_refused goes known turns (going-on goes known turns going part.piece part.after part.here part.gives [] here more) whole,
        Appends-trans first taken taken' text (piece_text part.piece) appends part.writes,
      )
