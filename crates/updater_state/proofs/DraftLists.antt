-- Drafts of the entries behind a place, and what is said of them.
use Rattle.std.proofs.Common.{◌≡◌, ℕ, zero, suc, ◌+◌, ◌<◌, ◌≤◌, List, [], ◌∷◌, ◌++◌, length, drop, get_or, Option, Some, refl, sym, ap, ◌∙◌, arith, append_assoc}
use Rattle.std.specs.Prelude.{slice_get, option_map, None}
use Rattle.snapshots.specs.Version.{entry_at}
use Rattle.std.specs.List.{All}
use Rattle.std.proofs.lemmas.Option.{none-some, same_Some}
use Rattle.model.specs.Command.{Entry}
use Rattle.model.specs.Database.{Database}
use Rattle.model.specs.History.{Chronicle}
use Rattle.updater_state.specs.Outcomes.{Fate, StoodAt, told, all_stand}
use Rattle.version_log.specs.Histories.{IsNewest}
use Rattle.updater_state.specs.Drafts.{Drafted, IsPublished, draft_of, drafts_from, stands_of, all_drafts_stand}

-- the item that is at a place is the first of those behind
pub drop_at_item : {X : Type 0} (xs : List X) (n : ℕ) (x : X) → slice_get xs n ≡ Some x → drop n xs ≡ x ∷ drop (n + 1) xs
drop_at_item [] n x at = absurd (none-some x at)
drop_at_item (y ∷ ys) zero x at = ap (λ z. z ∷ ys) (same_Some y x at)
drop_at_item (y ∷ ys) (suc n) x at = drop_at_item ys n x at ∙ ap (λ k. x ∷ drop k (y ∷ ys)) (next n)
  where
    next : (k : ℕ) → suc (k + 1) ≡ suc k + 1
    next k = omega arith

-- one draft more
pub drafts_more : (v : Chronicle) (drafts whole : List Drafted) (n : ℕ) (e : Entry) → slice_get v.entries n ≡ Some e → drafts ++ drafts_from v n (drop n v.entries) ≡ whole → (drafts ++ draft_of v (n + 1) e ∷ []) ++ drafts_from v (n + 1) (drop (n + 1) v.entries) ≡ whole
drafts_more v drafts whole n e at is =
    append_assoc drafts (draft_of v (n + 1) e ∷ []) (drafts_from v (n + 1) (drop (n + 1) v.entries))
    ∙ ap (λ (es : List Entry). drafts ++ drafts_from v n es) (sym (drop_at_item v.entries n e at)) ∙ is

All-first : {X : Type 0} (P : X → Type 0) (x : X) (xs : List X) → P x → All P xs → All P (x ∷ xs)
All-first {X} P x xs p all = at
  where
    at : (k : ℕ) (d : X) → k < length (x ∷ xs) → P (get_or (x ∷ xs) k d)
    at zero d lt = p
    at (suc k) d lt = all k d (omega (arith, lt))

-- each draft behind a place is of what was published last
pub all_published : (base : Option Database) (published : List (List Entry)) (v : Chronicle) (n : ℕ) (es : List Entry) → IsNewest base v published → length published ≤ n + 1 → All (IsPublished base published) (drafts_from v n es)
all_published base published v n [] is le = λ k d lt. absurd (omega arith)
all_published base published v n (e ∷ es) is le = All-first (IsPublished base published) (draft_of v (n + 1) e) (drafts_from v (n + 1) es) (record { newest = is; counted = le }) (all_published base published v (n + 1) es is (omega (arith, le)))

pub all_drafts_stand-from : (published : List (List Entry)) (outcomes : List (Option Fate)) (v : Chronicle) (n : ℕ) (es : List Entry) → all_drafts_stand published outcomes (drafts_from v n es) ≡ all_stand published n outcomes es
all_drafts_stand-from published outcomes v n [] = refl
all_drafts_stand-from published outcomes v n (e ∷ es) = all_drafts_stand-from published (told outcomes e.seat.session (StoodAt (stands_of published (draft_of v (n + 1) e)))) v (n + 1) es

pub All-tail : {X : Type 0} (P : X → Type 0) (x : X) (xs : List X) → All P (x ∷ xs) → All P xs
All-tail P x xs all = λ k d lt. all (suc k) d (omega (arith, lt))

-- the draft at a place is that of the entry there
pub drafted : (v : Chronicle) (place : ℕ) (found : Option Drafted) (d : Drafted) → found ≡ option_map (draft_of v (place + 1)) (entry_at v.entries (place + 1)) → found ≡ Some d → (e : Entry) × (slice_get v.entries place ≡ Some e) × (d ≡ draft_of v (place + 1) e)
drafted v place found d is some = from (slice_get v.entries place) refl
  where
    next : place + 1 ≡ suc place
    next = omega arith

    told_as : (o : Option Entry) → slice_get v.entries place ≡ o → Some d ≡ option_map (draft_of v (place + 1)) o
    told_as o at = sym some ∙ is ∙ ap (λ n. option_map (draft_of v (place + 1)) (entry_at v.entries n)) next ∙ ap (option_map (draft_of v (place + 1))) at

    from : (o : Option Entry) → slice_get v.entries place ≡ o → (e : Entry) × (slice_get v.entries place ≡ Some e) × (d ≡ draft_of v (place + 1) e)
    from None at = absurd (none-some d (sym (told_as None at)))
    from (Some e) at = (e, at, same_Some d (draft_of v (place + 1) e) (told_as (Some e) at))
