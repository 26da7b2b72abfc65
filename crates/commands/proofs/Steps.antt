-- A step of a loop over a list.
use Rattle.std.proofs.Common.{◌≡◌, ℕ, ◌+◌, ◌<◌, List, [], ◌∷◌, All, take, length, get_or}
use Rattle.std.proofs.lemmas.List.{take_more}
use Rattle.std.proofs.lemmas.List.Elements.{All-append, All-cons, All-nil}
pub use Rattle.document_id.proofs.Steps.{drop_at}

-- all so far, and this one
pub All_next : {X : Type 0} (P : X → Type 0) (xs : List X) (i : ℕ) (x : X) → i < length xs → x ≡ get_or xs i x → All P (take i xs) → P x → All P (take (i + 1) xs)
All_next P xs i x h e some here =
    rw (take_more xs i x h, ← e) (All-append P (take i xs) (x ∷ []) some (All-cons P x [] here (All-nil P)))
