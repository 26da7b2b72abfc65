-- The calls that the entries behind a place complete.
use Rattle.std.specs.Prelude.{◌≡◌, ℕ, zero, suc, ◌+◌, List, [], ◌∷◌, ◌++◌, map, drop, slice_get, Option, Some, None, option_map, refl}
use Rattle.std.proofs.Common.{sym, ap, ◌∙◌, arith, append_assoc}
use Rattle.std.proofs.lemmas.Option.{none-some, same_Some}
use Rattle.std.proofs.lemmas.List.{map-append}
use Rattle.snapshots.specs.Version.{entry_at}
use Rattle.model.specs.Command.{Entry}
use Rattle.model.specs.World as model
use Rattle.machine.specs.declared.completed.Completed.{Completed}
use Rattle.machine.specs.Events.{completed_of, wrote_at, wrote_from}

-- the item that is at a place is the first of those behind
drop_at_item : {X : Type 0} (xs : List X) (n : ℕ) (x : X) → slice_get xs n ≡ Some x → drop n xs ≡ x ∷ drop (n + 1) xs
drop_at_item [] n x at = absurd (none-some x at)
drop_at_item (y ∷ ys) zero x at = ap (λ z. z ∷ ys) (same_Some y x at)
drop_at_item (y ∷ ys) (suc n) x at = drop_at_item ys n x at ∙ ap (λ k. x ∷ drop k (y ∷ ys)) (next n)
  where
    next : (k : ℕ) → suc (k + 1) ≡ suc k + 1
    next k = omega arith

pub found_entry : (es : List Entry) (place : ℕ) (found : Option Completed) (call : Completed) → option_map completed_of found ≡ option_map (wrote_at (place + 1)) (entry_at es (place + 1)) → found ≡ Some call → (e : Entry) × (slice_get es place ≡ Some e) × (completed_of call ≡ wrote_at (place + 1) e)
found_entry es place found call is some = from (slice_get es place) refl
  where
    next : place + 1 ≡ suc place
    next = omega arith

    told_as : (o : Option Entry) → slice_get es place ≡ o → Some (completed_of call) ≡ option_map (wrote_at (place + 1)) o
    told_as o at = sym (ap (option_map completed_of) some) ∙ is ∙ ap (λ n. option_map (wrote_at (place + 1)) (entry_at es n)) next ∙ ap (option_map (wrote_at (place + 1))) at

    from : (o : Option Entry) → slice_get es place ≡ o → (e : Entry) × (slice_get es place ≡ Some e) × (completed_of call ≡ wrote_at (place + 1) e)
    from None at = absurd (none-some (completed_of call) (sym (told_as None at)))
    from (Some e) at = (e, at, same_Some (completed_of call) (wrote_at (place + 1) e) (told_as (Some e) at))

-- one call more
pub wrote_more : (es : List Entry) (calls : List Completed) (call : Completed) (more : List Completed) (place : ℕ) (e : Entry) {whole : List model.Completed} → more ≡ calls ++ call ∷ [] → slice_get es place ≡ Some e → completed_of call ≡ wrote_at (place + 1) e → map completed_of calls ++ wrote_from place (drop place es) ≡ whole → map completed_of more ++ wrote_from (place + 1) (drop (place + 1) es) ≡ whole
wrote_more es calls call more place e pushed at told is =
    let rest = wrote_from (place + 1) (drop (place + 1) es) in
    ap (λ (cs : List Completed). map completed_of cs ++ rest) pushed
    ∙ ap (λ (ys : List model.Completed). ys ++ rest) (map-append completed_of calls (call ∷ []))
    ∙ append_assoc (map completed_of calls) (completed_of call ∷ []) rest
    ∙ ap (λ (y : model.Completed). map completed_of calls ++ y ∷ rest) told
    ∙ ap (λ (xs : List Entry). map completed_of calls ++ wrote_from place xs) (sym (drop_at_item es place e at))
    ∙ is
