-- The views of the sessions in the model's terms.
use Rattle.std.specs.Prelude.{ℕ, ◌+◌, Bool, true, List, [], ◌∷◌, length, slice_set, slice_get, option_map, unwrap_or, map}
use Rattle.model.specs.Map.{Map, empty, put}
use Rattle.model.specs.Command.{numbers, Job}
use Rattle.model.specs.History.{Chronicle}
use Rattle.model.specs.World.{View}
use Rattle.machine.specs.declared.views.SessionView.{SessionView}
use Rattle.machine.specs.declared.views.Seen.{Seen}

abbrev pub view_of : SessionView → View
view_of v = record { place = length v.version.entries; free = v.free }

-- of the sessions from n on
abbrev pub views_from : ℕ → List SessionView → Map numbers View
views_from n [] = empty
views_from n (v ∷ vs) = put (views_from (n + 1) vs) n (view_of v)

abbrev pub views_of : List SessionView → Map numbers View
views_of vs = views_from 0 vs

-- the session is free, at that version
abbrev pub seeing : List SessionView → Seen → List SessionView
seeing vs s = slice_set vs s.session (record { version = s.version; free = true })

-- one after another
abbrev pub all_seeing : List SessionView → List Seen → List SessionView
all_seeing vs [] = vs
all_seeing vs (s ∷ ss) = all_seeing (seeing vs s) ss

-- what the jobs' sessions see
abbrev pub seen_by : Chronicle → List Job → List Seen
seen_by version jobs = map (λ j. record { session = j.seat.session; version = version }) jobs

-- the session is free or not, where it was
abbrev pub freed_one : List SessionView → ℕ → Bool → List SessionView
freed_one vs s free = unwrap_or (option_map (λ v. slice_set vs s (record { version = v.version; free = free })) (slice_get vs s)) vs

abbrev pub all_free : List SessionView → List Job → List SessionView
all_free vs [] = vs
all_free vs (j ∷ js) = all_free (freed_one vs j.seat.session true) js
