-- What a history records of completed calls.
use Rattle.std.specs.Prelude.{◌≡◌, ◌<◌, ◌≤◌, ◌-◌, ℕ, List, [], ◌∷◌, length, take, slice_get, filter_map, Option, Some, None, if◌then◌else◌, ⊤}
use Rattle.model.specs.Map.{same_key}
use Rattle.model.specs.Command.{numbers, Entry}
use Rattle.model.specs.Database.{Database}
use Rattle.model.specs.History.{replay}
use Rattle.model.specs.Answers.{answer_to}
use Rattle.model.specs.World.{Completed, WroteAt, Asked}

-- places are counted from 1, and a query at place 0 sees the base
abbrev pub Tells : Database → List Entry → Completed → Type 0
Tells base h (WroteAt seat command place reply) = (0 < place) × (slice_get h (place - 1) ≡ Some (record { seat = seat; command = command; reply = reply }))
Tells base h (Asked session query place answer) = (place ≤ length h) × (answer ≡ answer_to (replay base (take place h)) query)

abbrev pub AllTold : Database → List Entry → List Completed → Type 0
AllTold base h [] = ⊤
AllTold base h (c ∷ cs) = Tells base h c × AllTold base h cs

-- the entry of a completed command
abbrev pub wrote : Completed → Option Entry
wrote (WroteAt seat command place reply) = Some (record { seat = seat; command = command; reply = reply })
wrote (Asked session query place answer) = None

-- the place of a completed call of the session
abbrev pub place_for : ℕ → Completed → Option ℕ
place_for s (WroteAt seat command place reply) = if same_key numbers s seat.session then Some place else None
place_for s (Asked session query place answer) = if same_key numbers s session then Some place else None

-- in the order in which they were completed
abbrev pub places_of : ℕ → List Completed → List ℕ
places_of s cs = filter_map (place_for s) cs

-- each is at least `low` and the one before
abbrev pub NoneFalls : ℕ → List ℕ → Type 0
NoneFalls low [] = ⊤
NoneFalls low (p ∷ ps) = (low ≤ p) × NoneFalls p ps
