-- Published histories over one base: each goes on from the one before.
use Rattle.std.specs.Prelude.{◌≡◌, ◌<◌, List, [], ◌∷◌, length, ⊤, Option}
use mathlib.Core.List.{IsPrefix}
use Rattle.model.specs.Command.{Entry}
use Rattle.model.specs.Database.{Database}
use Rattle.model.specs.History.{IsLegal, Chronicle, base_of}

-- the last of the histories that were published after this one
abbrev pub newest_after : List Entry → List (List Entry) → List Entry
newest_after h [] = h
newest_after h (g ∷ gs) = newest_after g gs

-- the history that was published last. Before any, it is empty
abbrev pub newest : List (List Entry) → List Entry
newest published = newest_after [] published

-- a later history begins with the earlier one and is longer, whatever the base
pub record Lengthens (earlier later : List Entry) : Type 0 where
  pub extends : IsPrefix earlier later
  pub longer : length earlier < length later

-- each published history, after this one, lengthens the one before
abbrev pub LengthensAfter : List Entry → List (List Entry) → Type 0
LengthensAfter h [] = ⊤
LengthensAfter h (g ∷ gs) = Lengthens h g × LengthensAfter g gs

-- a later history is legal over the base, begins with the earlier one and is longer
pub record GoesOn (base : Option Database) (earlier later : List Entry) : Type 0 where
  pub extends : IsPrefix earlier later
  pub longer : length earlier < length later
  pub legal : IsLegal (base_of base) later

abbrev pub GrowsAfter : Option Database → List Entry → List (List Entry) → Type 0
GrowsAfter base h [] = ⊤
GrowsAfter base h (g ∷ gs) = GoesOn base h g × GrowsAfter base g gs

-- each published history goes on from the one before
abbrev pub Grows : Option Database → List (List Entry) → Type 0
Grows base published = GrowsAfter base [] published

-- the version is that of the newest history over the base
pub record IsNewest (opened_over : Option Database) (version : Chronicle) (published : List (List Entry)) : Type 0 where
  pub base : version.base ≡ opened_over
  pub entries : version.entries ≡ newest published
