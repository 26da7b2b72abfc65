-- Texts behind one another, from a place on.
use Rattle.std.proofs.Common.{◌≡◌, ◌∙◌, ℕ, ◌+◌, ◌-◌, ◌<◌, ◌≤◌, List, ◌++◌, length, take, drop, ap, sym, arith, take_all, take-add, drop-drop, length-drop, Option, Some, None}
use Rattle.std.specs.Io.KnownBytes.{Appends, Keeps}
use Rattle.std.proofs.lemmas.List.{drop-append-le, take-append-le}
use Rattle.std.proofs.Math.Seq.{drop-append-add}

-- the place is in the first text
pub part-within : (xs ys : List ℕ) (at : ℕ) → at < length xs → drop at (xs ++ ys) ≡ take (length xs - at) (drop at xs) ++ ys
part-within xs ys at less =
    drop-append-le at xs ys (omega (arith, less)) ∙ ap (λ (zs : List ℕ). zs ++ ys) (sym (take_all (length xs - at) (drop at xs) (omega (arith, length-drop at xs))))

-- it is behind it
pub part-behind : (xs ys : List ℕ) (at : ℕ) → length xs ≤ at → drop at (xs ++ ys) ≡ drop (at - length xs) ys
part-behind xs ys at le =
    let place : at ≡ length xs + (at - length xs) = omega (arith, le) in
    ap (λ (n : ℕ). drop n (xs ++ ys)) place ∙ drop-append-add xs ys (at - length xs)

-- what was taken from one place to another, and a front of what is there
pub grown : (lines part rest : List ℕ) (from at taken : ℕ) → from ≤ at → drop at lines ≡ part ++ rest → taken ≤ length part
    → take (at - from) (drop from lines) ++ take taken part ≡ take (at + taken - from) (drop from lines)
grown lines part rest from at taken le is within =
    let size : at + taken - from ≡ (at - from) + taken = omega (arith, le) in
    let place : from + (at - from) ≡ at = omega (arith, le) in
    let behind : drop (at - from) (drop from lines) ≡ part ++ rest = drop-drop (at - from) from lines ∙ ap (λ (n : ℕ). drop n lines) place ∙ is in
    ap (λ (xs : List ℕ). take (at - from) (drop from lines) ++ xs) (sym (ap (take taken) behind ∙ take-append-le taken part rest within))
    ∙ sym (take-add (at - from) taken (drop from lines)) ∙ ap (λ (n : ℕ). take n (drop from lines)) (sym size)

pub Appends-kept : (a b c : Option (List ℕ)) (xs : List ℕ) → Appends a b xs → Keeps b c → Appends a c xs
Appends-kept None b c xs grows kept = tt
Appends-kept (Some x) None c xs grows kept = absurd grows
Appends-kept (Some x) (Some y) None xs grows kept = absurd kept
Appends-kept (Some x) (Some y) (Some z) xs grows kept = kept ∙ grows
