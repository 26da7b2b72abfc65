-- A scan of a value's text goes to its end, and no further.
use Rattle.std.proofs.Common.{◌≡◌, ℕ, suc, ◌+◌, ◌-◌, ◌/◌, ◌%◌, ◌^◌, ◌<◌, ◌≤◌, pos, negsuc, List, [], ◌∷◌, ◌++◌, length, get_or, Bool, true, false, true≢false, Option, Some, append_assoc, refl, sym, ap, ◌∙◌, arith, decimal}
use Rattle.std.specs.Prelude.{◌==◌, nat_lt, cond, if◌then◌else◌}
use Rattle.std.specs.Char.{digit_char}
use Rattle.std.specs.Str.Parse.{AllDigits, digits_value}
use Rattle.std.proofs.lemmas.Bool.{and_parts, ltb-true, ltb-false, ne_eqb}
use Rattle.std.proofs.lemmas.Fmt.{digits_decimal}
use Rattle.std.proofs.lemmas.Str.Parse.{IsNumeralModel, numerals_by_value, tells_digits, digit_at}
use Rattle.json.specs.Print.{quoted, escape, escape_byte, escape_letter}
use Rattle.serde_json.specs.Data.{Num, unsigned, negative, float, Data, null, boolean, number, string, array, object, Items, no_items, item, Members, no_members, member}
use Rattle.serde_json.specs.Written.{number_text, comma_if, compact_text, items_text, members_text}
use Rattle.model.specs.Profile.{is_whole_number, is_whole, items_whole, members_whole}
use Rattle.base_json.specs.Pieces.{behind}
use Rattle.base_json.specs.declared.scan.Place.TheVariants.{Outside, Quoted}

-- ---- one byte

-- a byte that is in no string and no bracket
record IsPlain (byte : ℕ) : Type 0 where
  pub quote : byte ≡ 34 → ⊥
  pub open_object : byte ≡ 123 → ⊥
  pub open_array : byte ≡ 91 → ⊥
  pub close_object : byte ≡ 125 → ⊥
  pub close_array : byte ≡ 93 → ⊥

plain-byte : (byte k : ℕ) (text : List ℕ) → IsPlain byte → behind Outside (suc k) (byte ∷ text) ≡ behind Outside (suc k) text
unfolding behind
plain-byte byte k text h = rw (ne_eqb byte 34 h.quote, ne_eqb byte 123 h.open_object, ne_eqb byte 91 h.open_array, ne_eqb byte 125 h.close_object, ne_eqb byte 93 h.close_array, ne_eqb (suc k) 0 (λ e. omega arith)) refl

-- neither a quote nor a backslash
record IsUnescaped (byte : ℕ) : Type 0 where
  pub quote : byte ≡ 34 → ⊥
  pub backslash : byte ≡ 92 → ⊥

quoted-byte : (byte depth : ℕ) (text : List ℕ) → IsUnescaped byte → behind Quoted depth (byte ∷ text) ≡ behind Quoted depth text
unfolding behind
quoted-byte byte depth text h = rw (ne_eqb byte 34 h.quote, ne_eqb byte 92 h.backslash) refl

escaped-byte : (byte depth : ℕ) (text : List ℕ) → behind Quoted depth (92 ∷ byte ∷ text) ≡ behind Quoted depth text
unfolding behind
escaped-byte byte depth text = refl

-- ---- strings

either : {A : Type 0} (P : A → Type 0) (b : Bool) (x y : A) → (b ≡ true → P x) → (b ≡ false → P y) → P (cond b x y)
either P true x y p q = p refl
either P false x y p q = q refl

digit-unescaped : (d : ℕ) → IsUnescaped (digit_char d)
digit-unescaped d =
    either IsUnescaped (nat_lt d 10) (48 + d) (87 + d)
    (λ lt. let low : d < 10 = ltb-true d 10 lt in record { quote = λ e. omega arith; backslash = λ e. omega arith })
    (λ le. let high : 10 ≤ d = ltb-false d 10 le in record { quote = λ e. omega arith; backslash = λ e. omega arith })

unescaped : (x : ℕ) → nat_lt 0 (escape_letter x) ≡ false → IsUnescaped x
unescaped x h = record {
  quote = λ e. true≢false (sym (ap (λ n. nat_lt 0 (escape_letter n)) e) ∙ h);
  backslash = λ e. true≢false (sym (ap (λ n. nat_lt 0 (escape_letter n)) e) ∙ h);
}

scan-escape_byte : (x depth : ℕ) (text : List ℕ) → behind Quoted depth (escape_byte x ++ text) ≡ behind Quoted depth text
unfolding escape_byte
scan-escape_byte x depth text =
    let P : List ℕ → Type 0 = λ t. behind Quoted depth (t ++ text) ≡ behind Quoted depth text in
    either P (nat_lt 0 (escape_letter x)) (92 ∷ escape_letter x ∷ []) _ (λ _. escaped-byte (escape_letter x) depth text)
    (λ plain. either P (nat_lt x 32) _ (x ∷ [])
    (λ _. let one = digit_char (x / 16) in let other = digit_char (x % 16) in
    escaped-byte 117 depth (48 ∷ 48 ∷ one ∷ other ∷ text)
    ∙ quoted-byte 48 depth (48 ∷ one ∷ other ∷ text) (record { quote = λ e. omega arith; backslash = λ e. omega arith })
    ∙ quoted-byte 48 depth (one ∷ other ∷ text) (record { quote = λ e. omega arith; backslash = λ e. omega arith })
    ∙ quoted-byte one depth (other ∷ text) (digit-unescaped (x / 16))
    ∙ quoted-byte other depth text (digit-unescaped (x % 16)))
    (λ _. quoted-byte x depth text (unescaped x plain)))

scan-escape : (s : List ℕ) (depth : ℕ) (text : List ℕ) → behind Quoted depth (escape s ++ text) ≡ behind Quoted depth text
scan-escape [] depth text = refl
scan-escape (x ∷ s) depth text = ap (behind Quoted depth) (append_assoc (escape_byte x) (escape s) text) ∙ scan-escape_byte x depth (escape s ++ text) ∙ scan-escape s depth text

begun-quote : (k : ℕ) (text : List ℕ) → behind Outside (suc k) (34 ∷ text) ≡ behind Quoted (suc k) text
unfolding behind
begun-quote k text = refl

ended-quote : (k : ℕ) (text : List ℕ) → behind Quoted (suc k) (34 ∷ text) ≡ behind Outside (suc k) text
unfolding behind
ended-quote k text = rw (ne_eqb (suc k) 0 (λ e. omega arith)) refl

scan-quoted : (s : List ℕ) (k : ℕ) (text : List ℕ) → behind Outside (suc k) (quoted s ++ text) ≡ behind Outside (suc k) text
scan-quoted s k text =
    begun-quote k ((escape s ++ 34 ∷ []) ++ text)
    ∙ ap (behind Quoted (suc k)) (append_assoc (escape s) (34 ∷ []) text)
    ∙ scan-escape s (suc k) (34 ∷ text)
    ∙ ended-quote k text

-- ---- numbers

own : IsNumeralModel (AllDigits 10) (digits_value 10)
own = numerals_by_value (AllDigits 10) tells_digits

scan-digits : (xs : List ℕ) (k : ℕ) (text : List ℕ) → ((i : ℕ) → i < length xs → 48 ≤ get_or xs i 0) → ((i : ℕ) → i < length xs → get_or xs i 0 ≤ 57)
    → behind Outside (suc k) (xs ++ text) ≡ behind Outside (suc k) text
scan-digits [] k text low high = refl
scan-digits (x ∷ xs) k text low high =
    let least : 48 ≤ x = low 0 (omega arith) in
    let most : x ≤ 57 = high 0 (omega arith) in
    plain-byte x k (xs ++ text) (record { quote = λ e. omega arith; open_object = λ e. omega arith; open_array = λ e. omega arith; close_object = λ e. omega arith; close_array = λ e. omega arith })
    ∙ scan-digits xs k text (λ i lt. low (suc i) (omega arith)) (λ i lt. high (suc i) (omega arith))

scan-decimal : (n k : ℕ) (text : List ℕ) → n < 2 ^ 64 → behind Outside (suc k) (decimal n ++ text) ≡ behind Outside (suc k) text
scan-decimal n k text small =
    let digits = digits_decimal own n small in
    scan-digits (decimal n) k text (λ i lt. (digit_at (decimal n) i digits lt).0) (λ i lt. let high = (digit_at (decimal n) i digits lt).1 in omega arith)

plain-letter : (byte k : ℕ) (text : List ℕ) → 94 ≤ byte → byte ≤ 122 → behind Outside (suc k) (byte ∷ text) ≡ behind Outside (suc k) text
plain-letter byte k text low high =
    plain-byte byte k text (record { quote = λ e. omega arith; open_object = λ e. omega arith; open_array = λ e. omega arith; close_object = λ e. omega arith; close_array = λ e. omega arith })

scan-number : (n : Num) (k : ℕ) (text : List ℕ) → is_whole_number n ≡ true → behind Outside (suc k) (number_text n ++ text) ≡ behind Outside (suc k) text
scan-number (unsigned n) k text h = let low : n < 2 ^ 63 = ltb-true _ _ h in scan-decimal n k text (omega arith)
scan-number (negative (pos n)) k text h = absurd (true≢false (sym h))
scan-number (negative (negsuc n)) k text h =
    let low : n < 2 ^ 63 = ltb-true _ _ h in
    plain-byte 45 k (decimal (suc n) ++ text) (record { quote = λ e. omega arith; open_object = λ e. omega arith; open_array = λ e. omega arith; close_object = λ e. omega arith; close_array = λ e. omega arith })
    ∙ scan-decimal (suc n) k text (omega arith)
scan-number (float x) k text h = absurd (true≢false (sym h))

-- ---- values

comma : (later : Bool) (k : ℕ) (text : List ℕ) → behind Outside (suc k) (comma_if later ++ text) ≡ behind Outside (suc k) text
comma false k text = refl
comma true k text =
    plain-byte 44 k text (record { quote = λ e. omega arith; open_object = λ e. omega arith; open_array = λ e. omega arith; close_object = λ e. omega arith; close_array = λ e. omega arith })

-- what is behind a bracket that closes, so many being open behind it
abbrev closed : ℕ → List ℕ → Option (List ℕ)
closed k text = if k == 0 then Some text else behind Outside k text

still-open : (k : ℕ) (text : List ℕ) → closed (suc k) text ≡ behind Outside (suc k) text
still-open k text = rw (ne_eqb (suc k) 0 (λ e. omega arith)) refl

close-array : (k : ℕ) (text : List ℕ) → behind Outside (suc k) (93 ∷ text) ≡ closed k text
unfolding behind
close-array k text = let less : suc k - 1 ≡ k = omega arith in rw less refl

close-object : (k : ℕ) (text : List ℕ) → behind Outside (suc k) (125 ∷ text) ≡ closed k text
unfolding behind
close-object k text = let less : suc k - 1 ≡ k = omega arith in rw less refl

open-array : (k : ℕ) (text : List ℕ) → behind Outside k (91 ∷ text) ≡ behind Outside (suc k) text
unfolding behind
open-array k text = rw (ne_eqb (suc k) 0 (λ e. omega arith)) refl

open-object : (k : ℕ) (text : List ℕ) → behind Outside k (123 ∷ text) ≡ behind Outside (suc k) text
unfolding behind
open-object k text = rw (ne_eqb (suc k) 0 (λ e. omega arith)) refl

mutual
  scan-value : (d : Data) (k : ℕ) (text : List ℕ) → is_whole d ≡ true → behind Outside (suc k) (compact_text d ++ text) ≡ behind Outside (suc k) text
  scan-value null k text w =
      plain-letter 110 k (117 ∷ 108 ∷ 108 ∷ text) (omega arith) (omega arith) ∙ plain-letter 117 k (108 ∷ 108 ∷ text) (omega arith) (omega arith)
      ∙ plain-letter 108 k (108 ∷ text) (omega arith) (omega arith) ∙ plain-letter 108 k text (omega arith) (omega arith)
  scan-value (boolean true) k text w =
      plain-letter 116 k (114 ∷ 117 ∷ 101 ∷ text) (omega arith) (omega arith) ∙ plain-letter 114 k (117 ∷ 101 ∷ text) (omega arith) (omega arith)
      ∙ plain-letter 117 k (101 ∷ text) (omega arith) (omega arith) ∙ plain-letter 101 k text (omega arith) (omega arith)
  scan-value (boolean false) k text w =
      plain-letter 102 k (97 ∷ 108 ∷ 115 ∷ 101 ∷ text) (omega arith) (omega arith) ∙ plain-letter 97 k (108 ∷ 115 ∷ 101 ∷ text) (omega arith) (omega arith)
      ∙ plain-letter 108 k (115 ∷ 101 ∷ text) (omega arith) (omega arith) ∙ plain-letter 115 k (101 ∷ text) (omega arith) (omega arith) ∙ plain-letter 101 k text (omega arith) (omega arith)
  scan-value (number n) k text w = scan-number n k text w
  scan-value (string s) k text w = scan-quoted s k text
  scan-value (array ds) k text w = open-array (suc k) (items_text false ds ++ text) ∙ scan-items false ds (suc k) text w ∙ still-open k text
  scan-value (object ms) k text w = open-object (suc k) (members_text false ms ++ text) ∙ scan-members false ms (suc k) text w ∙ still-open k text

  scan-items : (later : Bool) (ds : Items) (k : ℕ) (text : List ℕ) → items_whole ds ≡ true → behind Outside (suc k) (items_text later ds ++ text) ≡ closed k text
  scan-items later no_items k text w = close-array k text
  scan-items later (item d ds) k text w =
      let parts = and_parts (is_whole d) (items_whole ds) w in
      ap (behind Outside (suc k)) (append_assoc (comma_if later) (compact_text d ++ items_text true ds) text)
      ∙ comma later k ((compact_text d ++ items_text true ds) ++ text)
      ∙ ap (behind Outside (suc k)) (append_assoc (compact_text d) (items_text true ds) text)
      ∙ scan-value d k (items_text true ds ++ text) parts.0
      ∙ scan-items true ds k text parts.1

  scan-members : (later : Bool) (ms : Members) (k : ℕ) (text : List ℕ) → members_whole ms ≡ true → behind Outside (suc k) (members_text later ms ++ text) ≡ closed k text
  scan-members later no_members k text w = close-object k text
  scan-members later (member name d ms) k text w =
      let parts = and_parts (is_whole d) (members_whole ms) w in
      let more = compact_text d ++ members_text true ms in
      ap (behind Outside (suc k)) (append_assoc (comma_if later) (quoted name ++ 58 ∷ more) text)
      ∙ comma later k ((quoted name ++ 58 ∷ more) ++ text)
      ∙ ap (behind Outside (suc k)) (append_assoc (quoted name) (58 ∷ more) text)
      ∙ scan-quoted name k (58 ∷ (more ++ text))
      ∙ plain-byte 58 k (more ++ text) (record { quote = λ e. omega arith; open_object = λ e. omega arith; open_array = λ e. omega arith; close_object = λ e. omega arith; close_array = λ e. omega arith })
      ∙ ap (behind Outside (suc k)) (append_assoc (compact_text d) (members_text true ms) text)
      ∙ scan-value d k (members_text true ms ++ text) parts.0
      ∙ scan-members true ms k text parts.1

-- what is behind an object
pub scan-object : (ms : Members) (text : List ℕ) → members_whole ms ≡ true → behind Outside 0 (compact_text (object ms) ++ text) ≡ Some text
scan-object ms text w = open-object 0 (members_text false ms ++ text) ∙ scan-members false ms 0 text w
