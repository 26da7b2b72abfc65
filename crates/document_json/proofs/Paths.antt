-- The revisions of a path.
use Rattle.std.proofs.Common.{◌≡◌, ℕ, ◌+◌, ◌-◌, ◌<◌, List, [], ◌∷◌, ◌++◌, Option, Some, None, refl, sym, ap, ◌∙◌, subst, length, arith, IfSome}
use Rattle.std.specs.Prelude.{option_map, option_and_then}
use Rattle.std.proofs.lemmas.List.{append-nil, append_assoc}
use Rattle.serde_json.specs.Data.{Data, Items, no_items, item}
use Rattle.serde_json.specs.Find.{as_str}
use Rattle.serde_json.specs.View.{view, items_view}
use Rattle.serde_json.specs.declared.value.Value.{Value}
use Rattle.model.specs.Revision.{Rev, IsRev}
use Rattle.model.specs.TreeChange.{IsPath}
use Rattle.document_json.specs.Path.{path_down, rev_at, revs_down}
use Rattle.document_json.specs.Revisions.{rev_with}
use Rattle.document_json.proofs.RevisionTexts.{rev_with-says}

-- ---- step by step

-- what was found so far, and what is found of the rest
abbrev pub after : List Rev → Option (List Rev) → Option (List Rev)
after revs rest = option_map (λ older. revs ++ older) rest

pub down-first : (rest : Option (List Rev)) → rest ≡ after [] rest
down-first None = refl
down-first (Some older) = refl

after-one : (revs : List Rev) (rev : Rev) (rest : Option (List Rev)) → after revs (option_map (λ older. rev ∷ older) rest) ≡ after (revs ++ rev ∷ []) rest
after-one revs rev None = refl
after-one revs rev (Some older) = ap Some (sym (append_assoc revs (rev ∷ []) older))

pub down-next : (revs : List Rev) (generation : ℕ) (hash : Data) (older : Items) (rev : Rev) → rev_at generation hash ≡ Some rev
    → after revs (revs_down generation (item hash older)) ≡ after (revs ++ rev ∷ []) (revs_down (generation - 1) older)
down-next revs generation hash older rev h =
    ap (λ found. after revs (option_and_then (λ r. option_map (λ rest. r ∷ rest) (revs_down (generation - 1) older)) found)) h
    ∙ after-one revs rev (revs_down (generation - 1) older)

pub down-none : (revs : List Rev) (generation : ℕ) (hash : Data) (older : Items) → rev_at generation hash ≡ None → after revs (revs_down generation (item hash older)) ≡ None
down-none revs generation hash older h =
    ap (λ found. after revs (option_and_then (λ r. option_map (λ rest. r ∷ rest) (revs_down (generation - 1) older)) found)) h

pub down-last : (revs : List Rev) (generation : ℕ) → after revs (revs_down generation no_items) ≡ Some revs
down-last revs generation = ap Some (append-nil revs)

-- ---- the generations fall by one

abbrev Says : ℕ → Rev → Type 0
Says generation r = (r.generation ≡ generation) × IsRev r

at-says : (generation : ℕ) (text : Option (List ℕ)) → IfSome (option_and_then (rev_with generation) text) (Says generation)
at-says generation None = tt
at-says generation (Some text) = rev_with-says generation text

abbrev IsDown : ℕ → List Rev → Type 0
IsDown generation [] = ⊥
IsDown generation (r ∷ older) = (r.generation ≡ generation) × IsPath (r ∷ older)

is_down : (generation : ℕ) (hash : Data) (older : Items) → IfSome (revs_down generation (item hash older)) (IsDown generation)
is_down generation hash no_items = one (rev_at generation hash) (at-says generation (as_str hash))
  where
    one : (found : Option Rev) → IfSome found (Says generation) → IfSome (option_and_then (λ r. option_map (λ rest. r ∷ rest) (Some [])) found) (IsDown generation)
    one None h = tt
    one (Some r) h = (h.0, h.1.not_zero)
is_down generation hash (item next older) = more (rev_at generation hash) (revs_down (generation - 1) (item next older)) (at-says generation (as_str hash)) (is_down (generation - 1) next older)
  where
    more : (found : Option Rev) (rest : Option (List Rev)) → IfSome found (Says generation) → IfSome rest (IsDown (generation - 1))
        → IfSome (option_and_then (λ r. option_map (λ older. r ∷ older) rest) found) (IsDown generation)
    more None rest h k = tt
    more (Some r) None h k = tt
    more (Some r) (Some []) h k = absurd k
    more (Some r) (Some (s ∷ older)) h k =
        let above = h.1.not_zero in
        let here = h.0 in
        let below = k.0 in
        let falls : r.generation ≡ s.generation + 1 = omega arith in
        (h.0, (falls, k.1))

path : (generation : ℕ) (revs : List Rev) → IsDown generation revs → IsPath revs
path generation [] h = absurd h
path generation (r ∷ older) h = h.1

-- what is found of a list that is not empty is a path
pub down-is_path : (generation : ℕ) (hash : Data) (older : Items) (revs : List Rev) → Some revs ≡ revs_down generation (item hash older) → IsPath revs
down-is_path generation hash older revs h = path generation revs (subst (λ found. IfSome found (IsDown generation)) (sym h) (is_down generation hash older))

-- ---- of a list of hashes

pub list-is_path : (start : ℕ) (hashes : List Value) (revs : List Rev) → 0 < length hashes → Some revs ≡ revs_down start (items_view hashes) → IsPath revs
list-is_path start [] revs some h = absurd (omega arith)
list-is_path start (hash ∷ older) revs some h = down-is_path start (view hash) (items_view older) revs h

pub list-path : (start : ℕ) (hashes : List Value) → 0 < length hashes → revs_down start (items_view hashes) ≡ path_down start (items_view hashes)
list-path start [] some = absurd (omega arith)
list-path start (hash ∷ older) some = refl
