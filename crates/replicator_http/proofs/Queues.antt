-- Requests that are ahead, one behind the other.
use Rattle.std.proofs.Common.{◌≡◌, ℕ, ◌+◌, ◌-◌, ◌<◌, ◌≤◌, List, [], ◌∷◌, ◌++◌, length, ap, sym, ◌∙◌, append-nil, append_assoc, arith}
use Rattle.std.specs.Prelude.{All, slice_index_or}
use Rattle.std.specs.List.{concat}
use Rattle.std.proofs.lemmas.List.{length-append, length_push}
use Rattle.std.proofs.lemmas.List.Elements.{All-nil, All-push}
use Rattle.std.proofs.lemmas.List.Folds.{concat-append}
use Rattle.replicator_http.specs.Ahead.{AsksRevisions, IsWithin}

pub next_of : (xs : List (List ℕ)) (x y : List ℕ) → 0 < length xs → x ≡ slice_index_or xs 0 x → x ≡ y → (rest : List (List ℕ)) × (xs ≡ y ∷ rest)
next_of [] x y some is same = absurd (omega arith)
next_of (z ∷ rest) x y some is same = (rest, ap (λ (w : List ℕ). w ∷ rest) (sym is ∙ same))

-- the bytes of one more
pub total_more : (xs : List (List ℕ)) (x : List ℕ) → length (concat (xs ++ x ∷ [])) ≡ length (concat xs) + length x
total_more xs x =
    ap (λ (b : List ℕ). length b) (concat-append xs (x ∷ [])) ∙ length-append (concat xs) (x ++ [])
    ∙ ap (λ (b : List ℕ). length (concat xs) + length b) (append-nil x)

pub pushed : (xs ys : List (List ℕ)) (x : List ℕ) (bytes n : ℕ) → (bytes ≡ length (concat xs)) × IsWithin xs → n ≡ length x → length xs < 100
    → n ≤ 16384 - bytes → ys ≡ xs ++ x ∷ [] → (bytes + n ≡ length (concat ys)) × IsWithin ys
pushed xs ys x bytes n (is, within) len few small same =
    let total : length (concat ys) ≡ length (concat xs) + length x = ap (λ (l : List (List ℕ)). length (concat l)) same ∙ total_more xs x in
    let count : length ys ≡ length xs + 1 = ap (λ (l : List (List ℕ)). length l) same ∙ length_push xs x in
    let below = within.small in
    (omega arith, record { few = omega arith; small = omega arith })

-- requests were added to those that are ahead, and their text behind the other
abbrev pub Added : List ℕ → List (List ℕ) → List (List ℕ) → List ℕ → List ℕ → Type 0
Added host old new before after = (more : List (List ℕ)) × (new ≡ old ++ more) × All (AsksRevisions host) more × (after ≡ before ++ concat more)

pub none_added : (host : List ℕ) (old : List (List ℕ)) (before : List ℕ) → Added host old old before before
none_added host old before = ([], sym (append-nil old), All-nil (AsksRevisions host), sym (append-nil before))

pub one_added : (host : List ℕ) (old now new : List (List ℕ)) (before text after : List ℕ) → Added host old now before text
    → (request : List ℕ) × (new ≡ now ++ request ∷ []) × AsksRevisions host request × (after ≡ text ++ request) → Added host old new before after
one_added host old now new before text after (more, is, asks, same) (request, also, one, behind) = (
  more ++ request ∷ [],
  also ∙ ap (λ (l : List (List ℕ)). l ++ request ∷ []) is ∙ append_assoc old more (request ∷ []),
  All-push (AsksRevisions host) more request asks one,
  behind ∙ ap (λ (b : List ℕ). b ++ request) same ∙ append_assoc before (concat more) request
      ∙ ap (λ (b : List ℕ). before ++ b) (sym (concat-append more (request ∷ []) ∙ ap (λ (b : List ℕ). concat more ++ b) (append-nil request))),
)
