use Rattle.std.proofs.Common.{◌≡◌, ◌<◌, ◌≤◌, ◌+◌, ℕ, zero, suc, List, [], ◌∷◌, ◌++◌, Bool, true, false, true≢false, length, get_or, take, drop, sym, ap, subst, ◌∙◌, arith, length-append}
use Rattle.std.specs.Prelude.{if◌then◌else◌}
use Rattle.std.specs.Char.{is_ascii_digit}
use Rattle.std.specs.List.{list_all}
use Rattle.std.proofs.lemmas.Bool.{and_parts}
use Rattle.base_json.specs.Pieces.{begins_no_digit}
use Rattle.base_json.proofs.text.split_digits.Goals as goal

digit_at : (digits rest : List ℕ) (i : ℕ) → list_all is_ascii_digit digits ≡ true → i < length digits → is_ascii_digit (get_or (digits ++ rest) i 0) ≡ true
digit_at [] rest i all lt = absurd (omega (arith, lt))
digit_at (x ∷ digits) rest zero all lt = (and_parts (is_ascii_digit x) (list_all is_ascii_digit digits) all).0
digit_at (x ∷ digits) rest (suc i) all lt = digit_at digits rest i (and_parts (is_ascii_digit x) (list_all is_ascii_digit digits) all).1 (omega arith)

-- a digit is one of the digits
digit_within : (digits rest : List ℕ) (i : ℕ) → begins_no_digit rest ≡ true → i ≤ length digits → i < length (digits ++ rest)
    → is_ascii_digit (get_or (digits ++ rest) i 0) ≡ true → i < length digits
digit_within [] [] i ends le lt is = absurd (omega (arith, lt))
digit_within [] (x ∷ rest) zero ends le lt is = absurd (true≢false (sym ends ∙ ap (λ (b : Bool). if b then false else true) is))
digit_within [] (x ∷ rest) (suc i) ends le lt is = absurd (omega (arith, le))
digit_within (x ∷ digits) rest zero ends le lt is = omega arith
digit_within (x ∷ digits) rest (suc i) ends le lt is = let less : i < length digits = digit_within digits rest i ends (omega arith) (omega arith) is in omega arith

taken : (front rest : List ℕ) (n : ℕ) → n ≡ length front → take n (front ++ rest) ≡ front
taken [] rest n e = ap (λ n. take n rest) e
taken (x ∷ front) rest zero e = absurd (omega (arith, e))
taken (x ∷ front) rest (suc n) e = ap (λ t. x ∷ t) (taken front rest n (omega arith))

dropped : (front rest : List ℕ) (n : ℕ) → n ≡ length front → drop n (front ++ rest) ≡ rest
dropped [] rest n e = ap (λ n. drop n rest) e
dropped (x ∷ front) rest zero e = absurd (omega (arith, e))
dropped (x ∷ front) rest (suc n) e = dropped front rest n (omega arith)

pub returns-then-not-is_ascii_digit : goal.returns-then-not-is_ascii_digit
returns-then-not-is_ascii_digit c = λ digits rest all ends is.
    let at = c.loop-at.at in
    let most : at ≤ length digits = c.loop-at.invariant digits rest all ends is in
    let not_one : is_ascii_digit (get_or (digits ++ rest) at 0) ≡ false = ap (λ t. is_ascii_digit (get_or t at 0)) (sym is) ∙ sym c.is_ascii_digit.ensures.value ∙ c.if-not-is_ascii_digit.true in
    let least : at < length digits → ⊥ = λ lt. true≢false (sym (digit_at digits rest at all lt) ∙ not_one) in
    let same : at ≡ length digits = omega (arith, most, least) in (
      c.split_at.ensures.front ∙ ap (take at) is ∙ taken digits rest at same,
      c.split_at.ensures.back ∙ ap (drop at) is ∙ dropped digits rest at same,
    )

pub loop-at-preserved : goal.loop-at-preserved
loop-at-preserved c = λ digits rest all ends is.
    let at = c.loop-at.at in
    let most : at ≤ length digits = c.loop-at.invariant digits rest all ends is in
    let one : is_ascii_digit (get_or (digits ++ rest) at 0) ≡ true = ap (λ t. is_ascii_digit (get_or t at 0)) (sym is) ∙ sym c.is_ascii_digit.ensures.value ∙ c.if-not-is_ascii_digit.false in
    let less : at < length digits = digit_within digits rest at ends most (subst (λ n. at < n) (ap length is) c.loop-at-test.true) one in
    omega arith

pub returns : goal.returns
returns c = λ digits rest all ends is.
    let at = c.loop-at.at in
    let most : at ≤ length digits = c.loop-at.invariant digits rest all ends is in
    let whole : length c.args.text.now ≡ length digits + length rest = ap length is ∙ length-append digits rest in
    let end : length c.args.text.now ≤ at = c.loop-at-test.false in
    let same : length c.args.text.now ≡ length digits = omega arith in (
      c.split_at-2.ensures.front ∙ ap (take (length c.args.text.now)) is ∙ taken digits rest (length c.args.text.now) same,
      c.split_at-2.ensures.back ∙ ap (drop (length c.args.text.now)) is ∙ dropped digits rest (length c.args.text.now) same,
    )
