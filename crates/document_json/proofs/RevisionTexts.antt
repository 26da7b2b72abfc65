-- The revision of a text.
use Rattle.std.proofs.Common.{◌≡◌, ◌≢◌, ℕ, zero, suc, ◌+◌, ◌^◌, ◌<◌, ◌≤◌, List, [], ◌∷◌, ◌++◌, length, take, drop, get_or, length-append, Option, Some, None, Bool, true, false, ◌&&◌, refl, sym, ap, ◌∙◌, arith, decimal, IfSome}
use Rattle.std.specs.Prelude.{nat_lt}
use Rattle.std.specs.List.{list_all, before_first, after_first, position_or_len}
use Rattle.std.specs.Str.{bytes_eq}
use Rattle.std.specs.Str.Parse.{AllDigits, digits_value}
use Rattle.std.specs.Result.{result_unwrap_or}
use Rattle.std.proofs.Math.Seq.{take-append_seam, drop-append-add, get_or-append_seam}
use Rattle.std.proofs.lemmas.Bool.{and_parts, eqb-true, ltb-true, lt-ltb, leb-true, le-leb}
use Rattle.std.proofs.lemmas.Fmt.{decimal_is_IsNumeral, digits_decimal}
use Rattle.std.proofs.lemmas.List.{get_or_append_left}
use Rattle.std.proofs.lemmas.List.Sums.{position_or_len_is}
use Rattle.std.proofs.lemmas.Slice.Eq.{bytes_eq-Decides}
use Rattle.std.proofs.lemmas.Str.Parse.{IsNumeralModel, numerals_by_value, tells_digits, digit_at}
use Rattle.hex.specs.Hex.{IsBytes, encode_lower, decode_of}
use Rattle.hex.proofs.HexLemmas.{decode_of-encode_lower}
use Rattle.model.specs.Revision.{Rev, IsRev, rev_text, last_generation}
use Rattle.document_json.specs.Revisions.{is_dash, hashed, is_rev, rev_if, rev_named, rev_with, spelled}

own : IsNumeralModel (AllDigits 10) (digits_value 10)
own = numerals_by_value (AllDigits 10) tells_digits

both : (a b : Bool) → a ≡ true → b ≡ true → (a && b) ≡ true
both true b g h = h
both false b g h = g

-- ---- the test of a revision

bytes_of_test : (xs : List ℕ) → list_all (λ byte. nat_lt byte 256) xs ≡ true → IsBytes xs
bytes_of_test [] h i = omega arith
bytes_of_test (x ∷ xs) h zero = ltb-true x 256 (and_parts _ _ h).0
bytes_of_test (x ∷ xs) h (suc i) = bytes_of_test xs (and_parts _ _ h).1 i

test_of_bytes : (xs : List ℕ) → IsBytes xs → list_all (λ byte. nat_lt byte 256) xs ≡ true
test_of_bytes [] h = refl
test_of_bytes (x ∷ xs) h = both _ _ (lt-ltb x 256 (h 0)) (test_of_bytes xs (λ i. h (suc i)))

is_rev-says : (r : Rev) → is_rev r ≡ true → IsRev r
is_rev-says r h =
    let last = and_parts _ _ h in
    let third = and_parts _ _ last.0 in
    let second = and_parts _ _ third.0 in
    record {
      not_zero = ltb-true 0 r.generation second.0;
      in_range = leb-true r.generation last_generation second.1;
      size = search (arith, third.1);
      bytes = bytes_of_test r.hash last.1;
    }

says-is_rev : (r : Rev) → IsRev r → is_rev r ≡ true
says-is_rev r h =
    both _ _ (both _ _ (both _ _ (lt-ltb 0 r.generation h.not_zero) (le-leb r.generation last_generation h.in_range))
    (rw h.size refl)) (test_of_bytes r.hash h.bytes)

-- ---- the parts of a text

above_dash : (byte : ℕ) → 48 ≤ byte → is_dash byte ≡ false
above_dash byte le = other (is_dash byte) refl
  where
    other : (b : Bool) → is_dash byte ≡ b → b ≡ false
    other false p = refl
    other true p = let same = eqb-true byte 45 p in absurd (omega arith)

no_dash : (n : ℕ) (rest : List ℕ) → n < 2 ^ 64 → (k : ℕ) → k < length (decimal n) → is_dash (get_or (decimal n ++ 45 ∷ rest) k 0) ≡ false
no_dash n rest small k lt =
    let range = digit_at (decimal n) k (digits_decimal own n small) lt in
    ap is_dash (get_or_append_left (decimal n) (45 ∷ rest) 0 k lt) ∙ above_dash (get_or (decimal n) k 0) range.0

dash_at : (n : ℕ) (rest : List ℕ) → n < 2 ^ 64 → position_or_len is_dash (decimal n ++ 45 ∷ rest) ≡ length (decimal n)
dash_at n rest small =
    let size = length-append (decimal n) (45 ∷ rest) in
    position_or_len_is is_dash (decimal n ++ 45 ∷ rest) (length (decimal n)) 0 (omega (arith, size))
    (no_dash n rest small) (λ _. ap is_dash (get_or-append_seam (decimal n) 45 rest 0))

spelled-text : (r : Rev) → IsRev r → spelled (rev_text r) ≡ r
spelled-text r h =
    let above = h.in_range in
    let small : r.generation < 2 ^ 64 = omega arith in
    let digits = encode_lower r.hash in
    let at = dash_at r.generation digits small in
    let before : before_first is_dash (rev_text r) ≡ decimal r.generation =
    ap (λ k. take k (rev_text r)) at ∙ take-append_seam (decimal r.generation) (45 ∷ digits) in
    let after : after_first is_dash (rev_text r) ≡ digits =
    ap (λ k. drop (k + 1) (rev_text r)) at ∙ drop-append-add (decimal r.generation) (45 ∷ digits) 1 in
    let number : digits_value 10 (before_first is_dash (rev_text r)) ≡ r.generation =
    ap (digits_value 10) before ∙ (decimal_is_IsNumeral r.generation small).1 in
    let bytes : result_unwrap_or (decode_of (after_first is_dash (rev_text r))) [] ≡ r.hash =
    ap (λ t. result_unwrap_or (decode_of t) []) after ∙ ap (λ d. result_unwrap_or d []) (decode_of-encode_lower r.hash h.bytes) in
    λ i. record { generation = number i; hash = bytes i }

-- ---- a text and its revision

named : List ℕ → Rev → Option Rev
named text r = rev_if (is_rev r && bytes_eq (rev_text r) text) r

pub rev_named-is : (r : Rev) (text : List ℕ) → IsRev r → rev_text r ≡ text → rev_named text ≡ Some r
unfolding rev_named named
rev_named-is r text h is =
    let same : spelled text ≡ r = ap spelled (sym is) ∙ spelled-text r h in
    let test : (is_rev r && bytes_eq (rev_text r) text) ≡ true =
    both (is_rev r) (bytes_eq (rev_text r) text) (says-is_rev r h) ((bytes_eq-Decides (rev_text r) text).1 is) in
    ap (named text) same ∙ ap (λ b. rev_if b r) test

pub rev_named-none : (text : List ℕ) → ((r : Rev) → IsRev r → rev_text r ≢ text) → rev_named text ≡ None
unfolding rev_named
rev_named-none text never = none (is_rev (spelled text)) (bytes_eq (rev_text (spelled text)) text) refl refl
  where
    none : (a b : Bool) → is_rev (spelled text) ≡ a → bytes_eq (rev_text (spelled text)) text ≡ b → rev_if (a && b) (spelled text) ≡ None
    none false b p q = refl
    none true false p q = refl
    none true true p q = absurd (never (spelled text) (is_rev-says (spelled text) p) ((bytes_eq-Decides (rev_text (spelled text)) text).0 q))

-- ---- a generation, and the text of a hash

pub rev_with-is : (r : Rev) (generation : ℕ) (text : List ℕ) → IsRev r → r.generation ≡ generation → encode_lower r.hash ≡ text → rev_with generation text ≡ Some r
unfolding rev_with
rev_with-is r generation text h at is =
    let bytes : result_unwrap_or (decode_of text) [] ≡ r.hash =
    ap (λ t. result_unwrap_or (decode_of t) []) (sym is) ∙ ap (λ d. result_unwrap_or d []) (decode_of-encode_lower r.hash h.bytes) in
    let same : hashed generation text ≡ r = λ i. record { generation = sym at i; hash = bytes i } in
    let test : (is_rev r && bytes_eq (encode_lower r.hash) text) ≡ true =
    both (is_rev r) (bytes_eq (encode_lower r.hash) text) (says-is_rev r h) ((bytes_eq-Decides (encode_lower r.hash) text).1 is) in
    ap (λ s. rev_if (is_rev s && bytes_eq (encode_lower s.hash) text) s) same ∙ ap (λ b. rev_if b r) test

pub rev_with-none : (generation : ℕ) (text : List ℕ) → ((r : Rev) → IsRev r → r.generation ≡ generation → encode_lower r.hash ≢ text) → rev_with generation text ≡ None
unfolding rev_with
rev_with-none generation text never = none (is_rev (hashed generation text)) (bytes_eq (encode_lower (hashed generation text).hash) text) refl refl
  where
    none : (a b : Bool) → is_rev (hashed generation text) ≡ a → bytes_eq (encode_lower (hashed generation text).hash) text ≡ b → rev_if (a && b) (hashed generation text) ≡ None
    none false b p q = refl
    none true false p q = refl
    none true true p q =
        absurd (never (hashed generation text) (is_rev-says (hashed generation text) p) refl ((bytes_eq-Decides (encode_lower (hashed generation text).hash) text).0 q))

pub rev_with-says : (generation : ℕ) (text : List ℕ) → IfSome (rev_with generation text) (λ r. (r.generation ≡ generation) × IsRev r)
unfolding rev_with
rev_with-says generation text = test (is_rev (hashed generation text)) (bytes_eq (encode_lower (hashed generation text).hash) text) refl
  where
    test : (a b : Bool) → is_rev (hashed generation text) ≡ a → IfSome (rev_if (a && b) (hashed generation text)) (λ r. (r.generation ≡ generation) × IsRev r)
    test false b p = tt
    test true false p = tt
    test true true p = (refl, is_rev-says (hashed generation text) p)
