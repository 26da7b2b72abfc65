-- Where the last segment of a path begins.
use Rattle.std.proofs.Common.{◌≡◌, ℕ, ◌+◌, ◌-◌, ◌<◌, ◌≤◌, ◌≢◌, ◌==◌, List, length, drop, get_or, not, true, false, refl, ap, sym, ◌∙◌, arith, lit<, length-drop, get_or-drop}
use Rattle.std.specs.Str.{NoCharPasses}
use Rattle.std.specs.Str.Pattern.{HasCharAt}
use Rattle.std.proofs.lemmas.Bool.Decides.{nat_tests}
use Rattle.std.proofs.lemmas.List.Sums.{suffix_len_is}
use Rattle.std.proofs.lemmas.Str.Pattern.{NoCharPasses-char}
use Rattle.http_routing.specs.Target.{last_segment}

other_byte : (byte : ℕ) → byte ≢ 47 → not (byte == 47) ≡ true
other_byte byte other = grind (arith, nat_tests)

-- the last segment begins after a slash, or with the path, and has no slash
pub last_segment-drop : (path : List ℕ) (start : ℕ) → start ≤ length path → NoCharPasses (λ d. d == 47) (drop start path)
    → (0 < start → get_or path (start - 1) 0 ≡ 47) → drop start path ≡ last_segment path
last_segment-drop path start within none after =
    let apart : (k : ℕ) → start ≤ k → k < length path → not (get_or path k 0 == 47) ≡ true = λ k beyond inside.
    let other = NoCharPasses-char 47 (drop start path) (k - start) none (lit< tt) (omega (arith, length-drop start path)) in
    let place : start + (k - start) ≡ k = omega arith in
    let here : get_or (drop start path) (k - start) 0 ≡ get_or path k 0 = get_or-drop start path (k - start) 0 ∙ ap (λ (n : ℕ). get_or path n 0) place in
    other_byte (get_or path k 0) (λ is. other (here ∙ is)) in
    let slash : 0 < start → not (get_or path (start - 1) 0 == 47) ≡ false = λ some. rw (after some) refl in
    let size = suffix_len_is (λ byte. not (byte == 47)) path start 0 within apart slash in
    let count : length path - (length path - start) ≡ start = omega arith in
    sym (ap (λ (n : ℕ). drop (length path - n) path) size ∙ ap (λ (n : ℕ). drop n path) count)

-- the last segment is what comes after a slash, and has no slash
pub last_segment-after : (path : List ℕ) (i j : ℕ) → HasCharAt 47 path i j → j ≤ length path → NoCharPasses (λ d. d == 47) (drop j path)
    → drop j path ≡ last_segment path
last_segment-after path i j slash within none =
    last_segment-drop path j within none (λ some. ap (λ (n : ℕ). get_or path n 0) (omega (arith, slash.ends)) ∙ slash.byte (lit< tt))
