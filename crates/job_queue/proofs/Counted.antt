-- Of each session how many jobs were taken.
use Rattle.std.proofs.Common.{◌≡◌, ◌≢◌, ◌⊎◌, ℕ, ◌+◌, ◌<◌, ◌≤◌, ◌==◌, Bool, true, false, List, [], ◌∷◌, ◌++◌, length, set, get_or, sym, refl, ap, ◌∙◌, ⊎_elim, arith}
use Rattle.std.proofs.lemmas.Bool.Decides.{nat_tests}
use Rattle.std.proofs.lemmas.List.{get_or-set_same, get_or-set_other, length-set}
use Rattle.model.specs.Command.{Job}
use Rattle.job_queue.specs.Turns.{count}
use Rattle.job_queue.proofs.Moves.{one_count, count_is, count_not, count-append}

pub count_le : (s : ℕ) (xs : List Job) → count s xs ≤ length xs
count_le s [] = omega arith
count_le s (x ∷ xs) = go (x.seat.session == s) refl (count_le s xs)
  where
    go : (b : Bool) → (x.seat.session == s) ≡ b → count s xs ≤ length xs → count s (x ∷ xs) ≤ length (x ∷ xs)
    go true is le = omega (arith, one_count s x xs true is, le)
    go false is le = omega (arith, one_count s x xs false is, le)

-- the numbers are those of the jobs that were taken
abbrev pub AreCounts : List ℕ → List Job → Type 0
AreCounts ns taken = (s d : ℕ) → s < length ns → get_or ns s d ≡ count s taken

pub counts_more : (ns : List ℕ) (taken more : List Job) (x : Job) (k n : ℕ) → AreCounts ns taken → more ≡ taken ++ x ∷ [] → k ≡ x.seat.session → k < length ns → n ≡ get_or ns k n → AreCounts (set ns k (n + 1)) more
counts_more ns taken more x k n are is own lt was s d less =
    let long = length-set ns k (n + 1) in
    let after : count s more ≡ count s taken + count s (x ∷ []) = ap (count s) is ∙ count-append s taken (x ∷ []) in
    ⊎_elim
    (λ (e : s ≡ k). let one = count_is s x [] (sym own ∙ sym e) in let at = get_or-set_same ns k (n + 1) d lt in let here = ap (λ i. get_or (set ns k (n + 1)) i d) e in let old = are k n lt in let same = ap (λ i. count i taken) e in omega (arith, after, one, at, here, old, same, was))
    (λ (ne : s ≢ k). let none = count_not s x [] (λ e. ne (sym e ∙ sym own)) in let at = get_or-set_other ns k s (n + 1) d ne in let old = are s d (omega (arith, less, long)) in omega (arith, after, none, at, old))
    (same_or_not s k)
  where
    same_or_not : (a b : ℕ) → (a ≡ b) ⊎ (a ≢ b)
    same_or_not a b = grind (arith, nat_tests)
