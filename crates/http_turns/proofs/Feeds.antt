-- A feed so far, and its end.
use Rattle.std.proofs.Common.{◌≡◌, ◌⊎◌, ℕ, ◌+◌, ◌<◌, ◌≤◌, Bool, true, false, List, [], ◌∷◌, ◌++◌, length, map, take, Option, Some, Ok, Err, inl, inr, refl, ap, sym, ◌∙◌, subst, arith, length-append}
use Rattle.std.specs.Prelude.{Result, IsFalse}
use Rattle.std.specs.List.{FoldsTo}
use Rattle.std.specs.Io.KnownBytes.{Appends}
use Rattle.std.proofs.KnownBytes.{Appends-trans}
use Rattle.std.proofs.lemmas.List.{append-nil, length-take, map-append}
use Rattle.std.proofs.Math.Seq.{take-append-add}
use Rattle.std.proofs.lemmas.Grind.{flat_map-append}
use Rattle.std.proofs.lemmas.Fn.{FoldsTo-push}
use Rattle.streams.specs.Writes.{Writes}
use Rattle.streams.specs.declared.traits.Failed.{Failed}
use Rattle.model.specs.Query.{Row}
use Rattle.model.specs.Database.{Database}
use Rattle.model.specs.History.{IsLegal, now, base_of}
use Rattle.model.specs.Changes.{last_seq_of, rows_since, wanted_by}
use Rattle.model.specs.Told.{NoneFalls}
use Rattle.http_response.specs.Feed.{feed_last_text}
use Rattle.session_api.specs.Known.{Known, history_of}
use Rattle.session_api.specs.Learns.{Looks, Makes}
use Rattle.session_api.specs.SessionCall.{SessionCall}
use Rattle.http_turns.specs.Feed.{Piece, Ending, LastLine, LookRefused, RowsRefused, WriteFailed, GivesPiece, EndsBy, MayBeWhole, ending_places, ending_text, pieces_text, piece_text, rows_at}
use Rattle.http_turns.specs.FeedCalls.{Feeding, GivesFeed, GivesRound, GoesRound, HasMore, Round, Stops, StopsAfter, pieces_of, waits_of}
use Rattle.http_turns.specs.FeedWritten.{GivesNext, GivesOne, GoesOn}
use Rattle.session_api.specs.declared.fault.CallFault.{CallFault}
use Rattle.http_turns.specs.declared.progress.Progress.{Progress}
use Rattle.http_turns.proofs.CallLaws.{folds-append, none_runs, seen_itself, wait_runs, wait_sees}
use Rattle.session_api.proofs.Histories.{database_seen, looks_itself, looks_length, looks_then}
use Rattle.http_turns.proofs.Told.{ends-append, runs-append}

-- ---- places

abbrev pub places_of : List Piece → List ℕ
places_of pieces = map (λ piece. piece.place) pieces

falls-raise : (low : ℕ) (ps : List ℕ) (m n : ℕ) → m ≤ n → NoneFalls low (ps ++ m ∷ []) → NoneFalls low (ps ++ n ∷ [])
falls-raise low [] m n le h = (omega (arith, le, h.0), tt)
falls-raise low (p ∷ ps) m n le h = (h.0, falls-raise p ps m n le h.1)

-- the last place once more
falls-again : (low : ℕ) (ps : List ℕ) (m n : ℕ) → m ≤ n → NoneFalls low (ps ++ m ∷ []) → NoneFalls low ((ps ++ m ∷ []) ++ n ∷ [])
falls-again low [] m n le h = (h.0, (le, tt))
falls-again low (p ∷ ps) m n le h = (h.0, falls-again p ps m n le h.1)

-- ---- a longer history

runs-longer : (k later : Known) → Looks k later → (pieces : List Piece) (before after : Progress) → FoldsTo (GivesPiece k) before pieces after → FoldsTo (GivesPiece later) before pieces after
runs-longer k later looks pieces before after runs =
    subst (λ (l : Known). FoldsTo (GivesPiece l) before pieces after) (sym looks.extends) (runs-append k looks.more pieces before after runs)

ends-longer : (k later : Known) → Looks k later → (after : Progress) (ending : Ending) → EndsBy k after ending → EndsBy later after ending
ends-longer k later looks after ending ends = subst (λ (l : Known). EndsBy l after ending) (sym looks.extends) (ends-append k looks.more after ending ends)

-- where no rows are left, none are counted
none_left : {P : Type 0} {n : ℕ} (pending : ℕ) → pending ≡ n → P ⊎ (n ≡ 0) → P ⊎ (pending ≡ 0)
none_left pending counted (inl enough) = inl enough
none_left pending counted (inr none) = inr (counted ∙ none)

-- ---- a feed so far

module _ {S : Type 0} (goes : S → SessionCall → S → Type 0) (known : S → Known) (turns : ℕ) where
  has_more_sees : (after : Progress) (here : S) (waits : List SessionCall) (later : S) (more : Result Bool CallFault) → IsLegal (base_of (known here).base) (known here).seen
      → HasMore goes known turns after here waits later more → Looks (known here) (known later)
  has_more_sees after here waits later more legal (inl (enough, none, is)) = seen_itself goes known here later legal none.1
  has_more_sees after here waits later more legal (inr (inl (some, left, none, is))) = seen_itself goes known here later legal none.1
  has_more_sees after here waits later more legal (inr (inr (some, left, wait))) = wait_sees goes known turns _ _ after.following.ids here waits later more legal wait

  has_more_runs : (after : Progress) (here : S) (waits : List SessionCall) (later : S) (more : Result Bool CallFault) → HasMore goes known turns after here waits later more
      → FoldsTo (Makes goes known) here waits later
  has_more_runs after here waits later more (inl (enough, none, is)) = none_runs goes known here waits later none
  has_more_runs after here waits later more (inr (inl (some, left, none, is))) = none_runs goes known here waits later none
  has_more_runs after here waits later more (inr (inr (some, left, wait))) = wait_runs goes known turns _ _ after.following.ids here waits later more wait

  -- there is no more to give where there are enough rows, or none are left
  no_more : (after : Progress) (here : S) (waits : List SessionCall) (later : S) → HasMore goes known turns after here waits later (Ok false)
      → (after.left ≡ 0) ⊎ (length (rows_at (known here) (length (known here).seen) after.following) ≡ 0)
  no_more after here waits later (inl (enough, none, is)) = inl enough
  no_more after here waits later (inr (inl (some, left, none, is))) = absurd (cc)
  no_more after here waits later (inr (inr (some, none, wait))) = inr none

  rounds_run : (start : Feeding S) (rounds : List Round) (here : Feeding S) → FoldsTo (GoesRound goes known turns) start rounds here → FoldsTo (Makes goes known) start.session (waits_of rounds) here.session
  rounds_run start [] here same = ap (λ (f : Feeding S). f.session) same
  rounds_run start (round ∷ rounds) here (mid, goes_round, runs) =
      folds-append (Makes goes known) round.waits (waits_of rounds) start.session mid.session here.session
      (has_more_runs mid.progress start.session round.waits mid.session (Ok true) goes_round.has_more) (rounds_run mid rounds here runs)

  last_runs : (here : Feeding S) (last : List Round) (new : S) (more : Result Bool CallFault) → StopsAfter goes known turns here last new more → FoldsTo (Makes goes known) here.session (waits_of last) new
  last_runs here last new more (round, after, is, gives) =
      subst (λ (rounds : List Round). FoldsTo (Makes goes known) here.session (waits_of rounds) new) (sym is)
      (subst (λ (ds : List SessionCall). FoldsTo (Makes goes known) here.session ds new) (sym (append-nil round.waits)) (has_more_runs after here.session round.waits new more gives.has_more))

  stops_run : (ending : Ending) (here : Feeding S) (last : List Round) (new : S) → Stops goes known turns ending here last new → FoldsTo (Makes goes known) here.session (waits_of last) new
  stops_run (LastLine place pending) here last new stops = last_runs here last new (Ok false) stops
  stops_run (LookRefused why) here last new stops = last_runs here last new (Err why) stops
  stops_run RowsRefused here last new (none, same) =
      subst (λ (rounds : List Round). FoldsTo (Makes goes known) here.session (waits_of rounds) new) (sym none) (sym same)
  stops_run WriteFailed here last new (none, same) = none_runs goes known here.session (waits_of last) new (none, same)

  pub feed_runs : (start : Feeding S) (pieces : List Piece) (calls : List SessionCall) (ending : Ending) (new : S) → GivesFeed goes known turns start pieces calls ending new
      → FoldsTo (Makes goes known) start.session calls new
  feed_runs start pieces calls ending new gives =
      subst (λ (ds : List SessionCall). FoldsTo (Makes goes known) start.session ds new) (sym (gives.calls_are ∙ flat_map-append (λ (round : Round). round.waits) gives.rounds gives.last))
      (folds-append (Makes goes known) (waits_of gives.rounds) (waits_of gives.last) start.session gives.here.session new
      (rounds_run start gives.rounds gives.here gives.runs) (stops_run ending gives.here gives.last new gives.stops))

  pub record Going (old here : S) (start state : Progress) (text : List ℕ) : Type 0 where
    pub looks : Looks (known old) (known here)
    pub rounds : List Round
    pub goes_rounds : FoldsTo (GoesRound goes known turns) (record { progress = start; session = old }) rounds (record { progress = state; session = here })
    pub runs : FoldsTo (GivesPiece (known here)) start (pieces_of rounds) state
    pub places : NoneFalls (length (known old).seen) (places_of (pieces_of rounds) ++ length (known here).seen ∷ [])
    pub said : text ≡ pieces_text (pieces_of rounds)

  pub going-start : (s : S) (start : Progress) → IsLegal (base_of (known s).base) (known s).seen → Going s s start start []
  going-start s start legal = record { looks = looks_itself (known s) legal; rounds = []; goes_rounds = refl; runs = refl; places = (omega arith, tt); said = refl }

  module _ {old here : S} {start state : Progress} {text : List ℕ} (going : Going old here start state text) where
    -- it ends before the next piece, with no last line
    goes_none : (ending : Ending) (whole : Bool) → ending_places ending ≡ [] → ending_text state.following.cursor ending ≡ [] → EndsBy (known here) state ending → MayBeWhole ending whole
        → Stops goes known turns ending (record { progress = state; session = here }) [] here → GoesOn goes known turns old here start whole text
    goes_none ending whole no_place no_text ends may stops =
        let all = pieces_of (going.rounds ++ []) in
        record {
          looks = going.looks;
          pieces = all;
          calls = waits_of (going.rounds ++ []);
          ending = ending;
          after = state;
          gives = record { rounds = going.rounds; last = []; here = record { progress = state; session = here }; runs = going.goes_rounds; stops = stops; pieces_are = refl; calls_are = refl };
          runs = subst (λ (rounds : List Round). FoldsTo (GivesPiece (known here)) start (pieces_of rounds) state) (sym (append-nil going.rounds)) going.runs;
          ends = ends;
          places = subst (λ (ps : List ℕ). NoneFalls (length (known old).seen) (ps ++ length (known here).seen ∷ [])) (sym (ap (λ (ps : List ℕ). places_of all ++ ps) no_place ∙ append-nil (places_of all)))
              (subst (λ (rounds : List Round). NoneFalls (length (known old).seen) (places_of (pieces_of rounds) ++ length (known here).seen ∷ [])) (sym (append-nil going.rounds)) going.places);
          said = going.said ∙ ap (λ (rounds : List Round). pieces_text (pieces_of rounds)) (sym (append-nil going.rounds)) ∙ sym (ap (λ (t : List ℕ). pieces_text all ++ t) no_text ∙ append-nil (pieces_text all));
          may_be_whole = may;
        }

    -- memory for rows was refused
    pub goes_refused : (whole : Bool) → GoesOn goes known turns old here start whole text
    goes_refused whole = goes_none RowsRefused whole refl refl tt tt (refl, refl)

    -- the write of the head failed
    pub goes_unbegun : (whole : Bool) → IsFalse whole → GoesOn goes known turns old here start whole text
    goes_unbegun whole cut = goes_none WriteFailed whole refl refl tt cut (refl, refl)

    -- one piece more
    module _ (piece : Piece) (next : Progress) (there : piece.place ≡ length (known here).seen) (gives : GivesPiece (known here) state piece next) (waits : List SessionCall) where
      abbrev round : Round
      round = record { piece = piece; waits = waits }

      abbrev all : List Round
      all = going.rounds ++ round ∷ []

      pieces-more : pieces_of all ≡ pieces_of going.rounds ++ piece ∷ []
      pieces-more = map-append (λ (r : Round). r.piece) going.rounds (round ∷ [])

      places-more : NoneFalls (length (known old).seen) (places_of (pieces_of all) ++ length (known here).seen ∷ [])
      places-more =
          let moved : places_of (pieces_of all) ≡ places_of (pieces_of going.rounds) ++ length (known here).seen ∷ [] =
          ap places_of pieces-more ∙ map-append (λ (p : Piece). p.place) (pieces_of going.rounds) (piece ∷ []) ∙ ap (λ (n : ℕ). places_of (pieces_of going.rounds) ++ n ∷ []) there in
          subst (λ (ps : List ℕ). NoneFalls (length (known old).seen) (ps ++ length (known here).seen ∷ [])) (sym moved)
          (falls-again (length (known old).seen) (places_of (pieces_of going.rounds)) (length (known here).seen) (length (known here).seen) (omega arith) going.places)

      said-more : text ++ piece_text piece ≡ pieces_text (pieces_of all)
      said-more =
          let more : pieces_text (pieces_of going.rounds ++ piece ∷ []) ≡ pieces_text (pieces_of going.rounds) ++ piece_text piece =
          flat_map-append piece_text (pieces_of going.rounds) (piece ∷ []) ∙ ap (λ (t : List ℕ). pieces_text (pieces_of going.rounds) ++ t) (append-nil (piece_text piece)) in
          ap (λ (t : List ℕ). t ++ piece_text piece) going.said ∙ sym more ∙ ap pieces_text (sym pieces-more)

      module _ (later : S) (looks : Looks (known here) (known later)) where
        runs-more : FoldsTo (GivesPiece (known later)) start (pieces_of all) next
        runs-more =
            subst (λ (ps : List Piece). FoldsTo (GivesPiece (known later)) start ps next) (sym pieces-more)
            (runs-longer (known here) (known later) looks (pieces_of going.rounds ++ piece ∷ []) start next
            (FoldsTo-push (GivesPiece (known here)) start (pieces_of going.rounds) state piece next going.runs gives))

        places-later : NoneFalls (length (known old).seen) (places_of (pieces_of all) ++ length (known later).seen ∷ [])
        places-later = falls-raise (length (known old).seen) (places_of (pieces_of all)) (length (known here).seen) (length (known later).seen) (looks_length _ _ looks) places-more

        -- where no last line follows
        ends-plainly : (ending : Ending) (whole : Bool) → ending_places ending ≡ [] → ending_text next.following.cursor ending ≡ [] → EndsBy (known later) next ending → MayBeWhole ending whole
            → Stops goes known turns ending (record { progress = state; session = here }) (round ∷ []) later → GoesOn goes known turns old later start whole (text ++ piece_text piece)
        ends-plainly ending whole no_place no_text ends may stops = record {
          looks = looks_then (known old) (known here) (known later) going.looks looks;
          pieces = pieces_of all;
          calls = waits_of all;
          ending = ending;
          after = next;
          gives = record { rounds = going.rounds; last = round ∷ []; here = record { progress = state; session = here }; runs = going.goes_rounds; stops = stops; pieces_are = refl; calls_are = refl };
          runs = runs-more;
          ends = ends;
          places = subst (λ (ps : List ℕ). NoneFalls (length (known old).seen) (ps ++ length (known later).seen ∷ [])) (sym (ap (λ (ps : List ℕ). places_of (pieces_of all) ++ ps) no_place ∙ append-nil (places_of (pieces_of all)))) places-later;
          said = said-more ∙ sym (ap (λ (t : List ℕ). pieces_text (pieces_of all) ++ t) no_text ∙ append-nil (pieces_text (pieces_of all)));
          may_be_whole = may;
        }

      -- the write of the piece failed
      pub goes_cut : waits ≡ [] → (whole : Bool) → IsFalse whole → GoesOn goes known turns old here start whole (text ++ piece_text piece)
      goes_cut none whole cut = ends-plainly here (looks_itself (known here) going.looks.legal) WriteFailed whole refl refl tt cut (append-nil waits ∙ none, refl)

      module _ (later : S) where
        goes_round : (more : Result Bool CallFault) → HasMore goes known turns next here waits later more
            → GivesRound goes known turns (record { progress = state; session = here }) round (record { progress = next; session = later }) more
        goes_round more has_more = record { gives = gives; here = there; has_more = has_more }

        seen_later : (more : Result Bool CallFault) → HasMore goes known turns next here waits later more → Looks (known here) (known later)
        seen_later more has_more = has_more_sees next here waits later more going.looks.legal has_more

        -- there is more to give
        pub going-on : HasMore goes known turns next here waits later (Ok true) → Going old later start next (text ++ piece_text piece)
        going-on has_more =
            let looks = seen_later (Ok true) has_more in
            record {
              looks = looks_then (known old) (known here) (known later) going.looks looks;
              rounds = all;
              goes_rounds = FoldsTo-push (GoesRound goes known turns) _ going.rounds _ round _ going.goes_rounds (goes_round (Ok true) has_more);
              runs = runs-more later looks;
              places = places-later later looks;
              said = said-more;
            }

        -- a look was refused
        pub goes_unseen : (why : CallFault) (whole : Bool) → HasMore goes known turns next here waits later (Err why) → GoesOn goes known turns old later start whole (text ++ piece_text piece)
        goes_unseen why whole has_more = ends-plainly later (seen_later (Err why) has_more) (LookRefused why) whole refl refl tt tt (round, next, refl, goes_round (Err why) has_more)

        -- it ends with its last line, which counts what was seen when the last piece was given
        pub goes_ended : (whole : Bool) (pending : ℕ) → pending ≡ length (rows_at (known here) (length (known here).seen) next.following) → HasMore goes known turns next here waits later (Ok false)
            → GoesOn goes known turns old later start whole ((text ++ piece_text piece) ++ feed_last_text next.following.cursor pending)
        goes_ended whole pending counted has_more =
            let line = feed_last_text next.following.cursor pending in
            let place = length (known here).seen in
            let looks = seen_later (Ok false) has_more in
            record {
              looks = looks_then (known old) (known here) (known later) going.looks looks;
              pieces = pieces_of all;
              calls = waits_of all;
              ending = LastLine place pending;
              after = next;
              gives = record { rounds = going.rounds; last = round ∷ []; here = record { progress = state; session = here }; runs = going.goes_rounds; stops = (round, next, refl, goes_round (Ok false) has_more); pieces_are = refl; calls_are = refl };
              runs = runs-more later looks;
              ends = ends-longer (known here) (known later) looks next (LastLine place pending) (record { within = omega arith; counted = counted; all = none_left pending counted (no_more next here waits later has_more) });
              places = falls-again (length (known old).seen) (places_of (pieces_of all)) place (length (known later).seen) (looks_length _ _ looks) places-more;
              said = ap (λ (t : List ℕ). t ++ line) said-more;
              may_be_whole = tt;
            }

-- ---- what was written

-- what was written before, and then the next text or a part of it
pub writes-later : {A E : Type 0} (old mid new : Option (List ℕ)) (r : Result A E) (text more : List ℕ) → Appends old mid text → Writes mid new r more → Writes old new r (text ++ more)
writes-later old mid new (Ok x) text more before writes = (Appends-trans old mid new text more before writes.0, tt)
writes-later old mid new (Err e) text more before writes = (
  tt,
  (
    length text + writes.1.0,
    omega (arith, writes.1.1, length-append text more),
    subst (Appends old new) (sym (take-append-add text more writes.1.0)) (Appends-trans old mid new text (take writes.1.0 more) before writes.1.2),
  ),
)

-- a part of this text was written
pub cut_as : (old new : Option (List ℕ)) (text same : List ℕ) → text ≡ same → (n : ℕ) × (n < length text) × Appends old new (take n text) → (n : ℕ) × (n < length same) × Appends old new (take n same)
cut_as old new text same is cut = subst (λ (t : List ℕ). (n : ℕ) × (n < length t) × Appends old new (take n t)) is cut

-- ---- a piece

-- the rows that a following gave of what has been seen
pub gives_rows : (k : Known) (before : Progress) {after : Progress} {rows : List Row} (most : ℕ)
    → rows ≡ take most (rows_since (wanted_by before.following.ids) (now (history_of k)) before.following.cursor before.following.style)
    → after.following ≡ record before.following { cursor = last_seq_of before.following.cursor rows }
    → after.left + length rows ≡ before.left
    → GivesPiece k before (record { place = length k.seen; rows = rows }) after
gives_rows k before most given moved left = record {
  within = omega arith;
  count = most;
  rows = given ∙ ap (λ (d : Database). take most (rows_since (wanted_by before.following.ids) d before.following.cursor before.following.style)) (database_seen k);
  following = moved;
  left = left;
}

-- ---- what was given

module _ {k : Known} {before after : Progress} {r : Result (Option ℕ) Failed} {taken taken' : Option (List ℕ)} (one : GivesOne k before after r taken taken') where
  pub one_writes : (first : Option (List ℕ)) (text : List ℕ) → Appends first taken text → Writes first taken' r (text ++ piece_text one.piece)
  one_writes first text appends = writes-later first taken taken' r text (piece_text one.piece) appends one.writes

pub gave_some : (k : Known) (before after : Progress) (taken taken' : Option (List ℕ)) (given : Option ℕ) (pending : ℕ) → given ≡ Some pending → GivesNext k before after (Ok given) taken taken'
    → GivesNext k before after (Ok (Some pending)) taken taken'
gave_some k before after taken taken' given pending is gives = subst (λ (o : Option ℕ). GivesNext k before after (Ok o) taken taken') is gives

-- they are no more than are still to give
pub few : (most left : ℕ) (all : List Row) {rows : List Row} → rows ≡ take most all → most ≤ left → length rows ≤ left
few most left all given within = omega (arith, ap length given, length-take most all, within)
