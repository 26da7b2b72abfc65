-- One session after another, at the end.
use Rattle.std.proofs.Common.{◌≡◌, ℕ, ◌+◌, Bool, true, false, if◌then◌else◌, ◌<◌, get_or, take, map, filter, List, [], ◌∷◌, ◌++◌, length, refl, ap, sym, ◌∙◌, subst}
use Rattle.std.specs.List.{All}
use Rattle.std.proofs.lemmas.List.{take_more, map-append}
use Rattle.std.proofs.lemmas.List.Elements.{All-push, filter-append}
use Rattle.model.specs.Command.{Entry}
use Rattle.sessions.specs.Known.{Known}
use Rattle.sessions.specs.Ends.{is_lost}

-- one session more
pub noted : (h : List Entry) (ks : List Known) (i : ℕ) (k : Known) (before after : List ℕ) (b : Bool) → i < length ks → k ≡ get_or ks i k → b ≡ is_lost h k
    → before ≡ map (λ (q : Known). q.number) (filter (is_lost h) (take i ks)) → after ≡ before ++ (if b then k.number ∷ [] else []) → after ≡ map (λ (q : Known). q.number) (filter (is_lost h) (take (i + 1) ks))
noted h ks i k before after b lt at is was now =
    let num : Known → ℕ = λ q. q.number in
    let p = is_lost h in
    let more : take (i + 1) ks ≡ take i ks ++ k ∷ [] = take_more ks i k lt ∙ ap (λ (q : Known). take i ks ++ q ∷ []) (sym at) in
    let parts : map num (filter p (take (i + 1) ks)) ≡ map num (filter p (take i ks)) ++ map num (filter p (k ∷ [])) = ap (λ (l : List Known). map num (filter p l)) more ∙ ap (map num) (filter-append p (take i ks) (k ∷ [])) ∙ map-append num (filter p (take i ks)) (filter p (k ∷ [])) in
    now ∙ (λ j. was j ++ (if is j then k.number ∷ [] else [])) ∙ ap (λ (l : List ℕ). map num (filter p (take i ks)) ++ l) (one (p k) refl) ∙ sym parts
  where
    one : (c : Bool) → is_lost h k ≡ c → (if is_lost h k then k.number ∷ [] else []) ≡ map (λ (q : Known). q.number) (filter (is_lost h) (k ∷ []))
    one true e = ap (λ (c : Bool). if c then k.number ∷ [] else []) e ∙ sym (ap (λ (c : Bool). map (λ (q : Known). q.number) (if c then k ∷ [] else [])) e)
    one false e = ap (λ (c : Bool). if c then k.number ∷ [] else []) e ∙ sym (ap (λ (c : Bool). map (λ (q : Known). q.number) (if c then k ∷ [] else [])) e)

pub all_more : (P : Known → Type 0) (ks : List Known) (i : ℕ) (k : Known) → i < length ks → k ≡ get_or ks i k → All P (take i ks) → P k → All P (take (i + 1) ks)
all_more P ks i k lt at all one = subst (All P) (sym (take_more ks i k lt ∙ ap (λ (q : Known). take i ks ++ q ∷ []) (sym at))) (All-push P (take i ks) k all one)
