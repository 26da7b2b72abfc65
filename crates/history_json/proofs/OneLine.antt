-- The text of a value is one line: what would end it is escaped.
use Rattle.std.proofs.Common.{◌≡◌, ℕ, suc, ◌+◌, ◌/◌, ◌%◌, ◌^◌, ◌<◌, ◌≤◌, pos, negsuc, List, [], ◌∷◌, ◌++◌, length, get_or, Bool, true, false, ◌&&◌, ◌||◌, true≢false, refl, sym, ap, ◌∙◌, arith, decimal}
use Rattle.std.specs.Prelude.{◌==◌, not, nat_lt, cond}
use Rattle.std.specs.Char.{digit_char}
use Rattle.std.specs.Str.Parse.{AllDigits, digits_value}
use Rattle.std.proofs.lemmas.Bool.{and_parts, eqb-true, ltb-true, ne_eqb}
use Rattle.std.proofs.lemmas.List.Folds.{list_all-append}
use Rattle.std.proofs.lemmas.Fmt.{digits_decimal}
use Rattle.std.proofs.lemmas.Str.Parse.{IsNumeralModel, numerals_by_value, tells_digits, digit_at}
use Rattle.json.specs.Print.{quoted, escape, escape_byte, escape_letter}
use Rattle.serde_json.specs.Data.{Num, unsigned, negative, float, Data, null, boolean, number, string, array, object, Items, no_items, item, Members, no_members, member}
use Rattle.serde_json.specs.Written.{number_text, comma_if, compact_text, items_text, members_text}
use Rattle.model.specs.Profile.{is_whole_number, is_whole, items_whole, members_whole}
use Rattle.history_json.specs.Lines.{is_one_line}

both : (a b : Bool) → a ≡ true → b ≡ true → (a && b) ≡ true
both true b g h = h
both false b g h = g

pub one-append : (xs ys : List ℕ) → is_one_line xs ≡ true → is_one_line ys ≡ true → is_one_line (xs ++ ys) ≡ true
one-append xs ys g h = list_all-append (λ byte. not (byte == 10)) xs ys ∙ both (is_one_line xs) (is_one_line ys) g h

no_feed : (b : ℕ) → (b ≡ 10 → ⊥) → not (b == 10) ≡ true
no_feed b h = ap not (ne_eqb b 10 h)

one-cons : (b : ℕ) (xs : List ℕ) → (b ≡ 10 → ⊥) → is_one_line xs ≡ true → is_one_line (b ∷ xs) ≡ true
one-cons b xs h g = both (not (b == 10)) (is_one_line xs) (no_feed b h) g

-- ---- strings

either : {A : Type 0} (P : A → Type 0) (b : Bool) (x y : A) → (b ≡ true → P x) → (b ≡ false → P y) → P (cond b x y)
either P true x y p q = p refl
either P false x y p q = q refl

one_of : (a b : Bool) → (a || b) ≡ true → (a ≡ false → b ≡ true)
one_of true b h f = absurd (true≢false f)
one_of false b h f = h

letter_no_feed : (x : ℕ) → escape_letter x ≡ 10 → ⊥
letter_no_feed x =
    let P : ℕ → Type 0 = λ n. n ≡ 10 → ⊥ in
    either P ((x == 34) || (x == 92)) x _ (λ t. quote (x == 34) refl t)
    (λ _. either P (x == 8) 98 _ (λ _ e. omega arith)
    (λ _. either P (x == 12) 102 _ (λ _ e. omega arith)
    (λ _. either P (x == 10) 110 _ (λ _ e. omega arith)
    (λ _. either P (x == 13) 114 _ (λ _ e. omega arith)
    (λ _. either P (x == 9) 116 0 (λ _ e. omega arith) (λ _ e. omega arith))))))
  where
    quote : (b : Bool) → (x == 34) ≡ b → (b || (x == 92)) ≡ true → x ≡ 10 → ⊥
    quote true p t e = let is = eqb-true x 34 p in omega arith
    quote false p t e = let is = eqb-true x 92 t in omega arith

digit_no_feed : (d : ℕ) → digit_char d ≡ 10 → ⊥
digit_no_feed d = either (λ n. n ≡ 10 → ⊥) (nat_lt d 10) (48 + d) (87 + d) (λ _ e. omega arith) (λ _ e. omega arith)

one-escape_byte : (x : ℕ) → is_one_line (escape_byte x) ≡ true
unfolding escape_byte
one-escape_byte x =
    let P : List ℕ → Type 0 = λ t. is_one_line t ≡ true in
    either P (nat_lt 0 (escape_letter x)) (92 ∷ escape_letter x ∷ []) _ (λ _. one-cons (escape_letter x) [] (letter_no_feed x) refl)
    (λ plain. either P (nat_lt x 32) _ (x ∷ [])
    (λ _. one-cons (digit_char (x / 16)) (digit_char (x % 16) ∷ []) (digit_no_feed (x / 16)) (one-cons (digit_char (x % 16)) [] (digit_no_feed (x % 16)) refl))
    (λ high. one-cons x [] (above (nat_lt x 32) refl high) refl))
  where
    above : (b : Bool) → nat_lt x 32 ≡ b → b ≡ false → x ≡ 10 → ⊥
    above b p f e = true≢false (sym (ap (λ n. nat_lt n 32) e) ∙ p ∙ f)

one-escape : (s : List ℕ) → is_one_line (escape s) ≡ true
one-escape [] = refl
one-escape (x ∷ s) = one-append (escape_byte x) (escape s) (one-escape_byte x) (one-escape s)

one-quoted : (s : List ℕ) → is_one_line (quoted s) ≡ true
one-quoted s = one-append (escape s) (34 ∷ []) (one-escape s) refl

-- ---- numbers

own : IsNumeralModel (AllDigits 10) (digits_value 10)
own = numerals_by_value (AllDigits 10) tells_digits

from_digits : (xs : List ℕ) → ((k : ℕ) → k < length xs → 48 ≤ get_or xs k 0) → is_one_line xs ≡ true
from_digits [] h = refl
from_digits (x ∷ xs) h = let first : 48 ≤ x = h 0 (omega arith) in one-cons x xs (λ e. omega arith) (from_digits xs (λ k lt. h (suc k) (omega arith)))

one-decimal : (n : ℕ) → n < 2 ^ 64 → is_one_line (decimal n) ≡ true
one-decimal n small = from_digits (decimal n) (λ k lt. (digit_at (decimal n) k (digits_decimal own n small) lt).0)

one-number : (n : Num) → is_whole_number n ≡ true → is_one_line (number_text n) ≡ true
one-number (unsigned n) h = let low : n < 2 ^ 63 = ltb-true _ _ h in one-decimal n (omega arith)
one-number (negative (pos n)) h = absurd (true≢false (sym h))
one-number (negative (negsuc n)) h = let low : n < 2 ^ 63 = ltb-true _ _ h in one-decimal (suc n) (omega arith)
one-number (float x) h = absurd (true≢false (sym h))

-- ---- values

one-comma_if : (later : Bool) → is_one_line (comma_if later) ≡ true
one-comma_if true = refl
one-comma_if false = refl

mutual
  pub one-compact_text : (d : Data) → is_whole d ≡ true → is_one_line (compact_text d) ≡ true
  one-compact_text null w = refl
  one-compact_text (boolean true) w = refl
  one-compact_text (boolean false) w = refl
  one-compact_text (number n) w = one-number n w
  one-compact_text (string s) w = one-quoted s
  one-compact_text (array ds) w = one-items false ds w
  one-compact_text (object ms) w = one-members false ms w

  one-items : (later : Bool) (ds : Items) → items_whole ds ≡ true → is_one_line (items_text later ds) ≡ true
  one-items later no_items w = refl
  one-items later (item d ds) w =
      let parts = and_parts (is_whole d) (items_whole ds) w in
      one-append (comma_if later) (compact_text d ++ items_text true ds) (one-comma_if later)
      (one-append (compact_text d) (items_text true ds) (one-compact_text d parts.0) (one-items true ds parts.1))

  one-members : (later : Bool) (ms : Members) → members_whole ms ≡ true → is_one_line (members_text later ms) ≡ true
  one-members later no_members w = refl
  one-members later (member k d ms) w =
      let parts = and_parts (is_whole d) (members_whole ms) w in
      one-append (comma_if later) (quoted k ++ 58 ∷ (compact_text d ++ members_text true ms)) (one-comma_if later)
      (one-append (quoted k) (58 ∷ (compact_text d ++ members_text true ms)) (one-quoted k)
      (one-append (compact_text d) (members_text true ms) (one-compact_text d parts.0) (one-members true ms parts.1)))
