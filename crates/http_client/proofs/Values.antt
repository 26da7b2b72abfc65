-- The value of the one header of a name, and the length that it gives.
use Rattle.std.proofs.Common.{◌≡◌, ℕ, ◌+◌, ◌<◌, ◌≤◌, ◌||◌, Bool, true, false, cond, not, List, [], ◌∷◌, length, map, drop, get_or, Option, Some, None, refl, ap, sym, ◌∙◌, subst, arith, rules, codes, inl, inr, ◌^◌}
use Rattle.std.proofs.lemmas.Bool.{cases_lt}
use Rattle.std.proofs.lemmas.Bool.Decides.{nat_tests}
use Rattle.std.proofs.lemmas.Grind.{common_steps, get_or_tail}
use Rattle.std.proofs.lemmas.List.{drop-drop, length-map}
use Rattle.std.proofs.lemmas.List.Sums.{AllPass-from_list_all}
use Rattle.std.proofs.lemmas.Str.{IsUtf8-from_ascii}
use Rattle.std.proofs.lemmas.Str.Parse.{IsNumeralModel, numerals_by_value, digits_value_short}
use Rattle.std.specs.Str.Parse.{digits_value}
use Rattle.std.specs.Char.{is_ascii_digit}
use Rattle.std.specs.List.{AllPass, filter, list_any, list_all, position, position_or_len}
use Rattle.std.specs.Str.{IsAscii, IsUtf8}
use Rattle.httparse.specs.declared.spans.HeaderSpan.{HeaderSpan}
use Rattle.httparse.specs.Spans.{header_bytes, span_bytes}
use Rattle.decimals.specs.Number.{is_number, number}
use Rattle.http_framing.specs.Headers.{Header, is_named, values_named}
use Rattle.http_framing.proofs.Values.{list_any-map}
use Rattle.http_client.specs.Response.{length_in, only, told_length}

-- ---- of the items that pass a test

module _ {X : Type 0} (p : X → Bool) where
  none_step : (b c : Bool) (passing : List X) (x : X) → (c ≡ false → passing ≡ []) → (b || c) ≡ false → cond b (x ∷ passing) passing ≡ []
  none_step true c passing x h e = absurd (cc)
  none_step false c passing x h e = h e

  none : (xs : List X) → list_any p xs ≡ false → filter p xs ≡ []
  none [] e = refl
  none (x ∷ xs) e = none_step (p x) (list_any p xs) (filter p xs) x (none xs) e

  some_step : (b c : Bool) (passing : List X) (x : X) → (c ≡ true → 0 < length passing) → (b || c) ≡ true → 0 < length (cond b (x ∷ passing) passing)
  some_step true c passing x h e = omega arith
  some_step false c passing x h e = h e

  some : (xs : List X) → list_any p xs ≡ true → 0 < length (filter p xs)
  some [] e = absurd (cc)
  some (x ∷ xs) e = some_step (p x) (list_any p xs) (filter p xs) x (some xs) e

  absent_step : (b : Bool) (n : ℕ) (xs passing : List X) (x : X) → ((n < length xs → ⊥) → passing ≡ [])
      → (cond (not b) (1 + n) 0 < length (x ∷ xs) → ⊥) → cond b (x ∷ passing) passing ≡ []
  absent_step true n xs passing x h out = absurd (out (omega arith))
  absent_step false n xs passing x h out = h (λ less. out (omega arith))

  absent : (xs : List X) → (position_or_len p xs < length xs → ⊥) → filter p xs ≡ []
  absent [] out = refl
  absent (x ∷ xs) out = absent_step (p x) (position_or_len p xs) xs (filter p xs) x (absent xs) out

  first_step : (b : Bool) (n : ℕ) (xs : List X) (x d : X) → (n < length xs → filter p xs ≡ get_or xs n d ∷ filter p (drop (n + 1) xs))
      → cond (not b) (1 + n) 0 < length (x ∷ xs)
      → cond b (x ∷ filter p xs) (filter p xs)
      ≡ get_or (x ∷ xs) (cond (not b) (1 + n) 0) d ∷ filter p (drop (cond (not b) (1 + n) 0 + 1) (x ∷ xs))
  first_step true n xs x d h inside = refl
  first_step false n xs x d h inside =
      let read : get_or (x ∷ xs) (1 + n) d ≡ get_or xs n d = get_or_tail x xs (1 + n) d (omega arith) ∙ ap (λ (i : ℕ). get_or xs i d) (omega arith) in
      let left : drop (1 + n + 1) (x ∷ xs) ≡ drop (n + 1) xs =
      ap (λ (i : ℕ). drop i (x ∷ xs)) (omega arith) ∙ sym (drop-drop (n + 1) 1 (x ∷ xs)) in
      rw (read, left) (h (omega arith))

  -- the first comes first
  first : (xs : List X) (d : X) → position_or_len p xs < length xs
      → filter p xs ≡ get_or xs (position_or_len p xs) d ∷ filter p (drop (position_or_len p xs + 1) xs)
  first [] d inside = absurd (omega arith)
  first (x ∷ xs) d inside = first_step (p x) (position_or_len p xs) xs x d (first xs d) inside

  position-none : (xs : List X) → position p xs ≡ None → position_or_len p xs < length xs → ⊥
  position-none xs e inside = grind (arith, nat_tests)

  position-some : (xs : List X) (i : ℕ) → position p xs ≡ Some i → (position_or_len p xs ≡ i) × (position_or_len p xs < length xs)
  position-some xs i e = (grind (arith, nat_tests), grind (arith, nat_tests))

-- ---- the one value

module _ (bytes name : List ℕ) where
  abbrev is_there : HeaderSpan → Bool
  is_there header = is_named name (header_bytes bytes header)

  abbrev value_at : HeaderSpan → List ℕ
  value_at header = span_bytes bytes header.value

  abbrev values : List HeaderSpan → List (List ℕ)
  values headers = values_named name (map (header_bytes bytes) headers)

  values_step : (b : Bool) (header : HeaderSpan) (named : List Header) (passing : List HeaderSpan)
      → map (λ (h : Header). h.1) named ≡ map value_at passing
      → map (λ (h : Header). h.1) (cond b (header_bytes bytes header ∷ named) named) ≡ map value_at (cond b (header ∷ passing) passing)
  values_step true header named passing same = ap (λ (vs : List (List ℕ)). value_at header ∷ vs) same
  values_step false header named passing same = same

  values-are : (headers : List HeaderSpan) → values headers ≡ map value_at (filter is_there headers)
  unfolding values_named
  values-are [] = refl
  values-are (header ∷ headers) =
      values_step (is_there header) header (filter (is_named name) (map (header_bytes bytes) headers)) (filter is_there headers) (values-are headers)

  only-more : (value : List ℕ) (more : List (List ℕ)) → 0 < length more → None ≡ only (value ∷ more)
  only-more value [] there = absurd (omega arith)
  only-more value (other ∷ more) there = refl

  pub only-absent : (headers : List HeaderSpan) → position is_there headers ≡ None → None ≡ only (values headers)
  only-absent headers e =
      sym (ap only (values-are headers ∙ ap (map value_at) (absent is_there headers (position-none is_there headers e))))

  values-first : (headers : List HeaderSpan) (i : ℕ) (d : HeaderSpan) → position is_there headers ≡ Some i
      → values headers ≡ value_at (get_or headers i d) ∷ map value_at (filter is_there (drop (i + 1) headers))
  values-first headers i d e =
      let at = position-some is_there headers i e in
      let P : ℕ → Type 0 = λ n. filter is_there headers ≡ get_or headers n d ∷ filter is_there (drop (n + 1) headers) in
      values-are headers ∙ ap (map value_at) (subst P at.0 (first is_there headers d at.1))

  pub only-many : (headers : List HeaderSpan) (i : ℕ) (d : HeaderSpan) → position is_there headers ≡ Some i
      → list_any is_there (drop (i + 1) headers) ≡ true → None ≡ only (values headers)
  only-many headers i d e many =
      let rest : List HeaderSpan = drop (i + 1) headers in
      only-more (value_at (get_or headers i d)) (map value_at (filter is_there rest)) (omega (arith, length-map (filter is_there rest) value_at, some is_there rest many))
      ∙ ap only (sym (values-first headers i d e))

  pub only-one : (headers : List HeaderSpan) (i : ℕ) (d : HeaderSpan) → position is_there headers ≡ Some i
      → list_any is_there (drop (i + 1) headers) ≡ false → Some (value_at (get_or headers i d)) ≡ only (values headers)
  only-one headers i d e one =
      let P : List HeaderSpan → Type 0 = λ rest. values headers ≡ value_at (get_or headers i d) ∷ map value_at rest in
      ap only (sym (subst P (none is_there (drop (i + 1) headers) one) (values-first headers i d e)))

-- ---- the length

digits-small : (value : List ℕ) → AllPass is_ascii_digit value → IsAscii value
digits-small value all i = elim (cases_lt i (length value)) [
  | inl inside ↦ let digit : is_ascii_digit (get_or value i 0) ≡ true = all i 0 inside in grind (arith, nat_tests)
  | inr outside ↦ grind (arith, common_steps)
]

is_number-text : (value : List ℕ) → is_number value ≡ true → IsUtf8 value
is_number-text value e =
    let digits : list_all is_ascii_digit value ≡ true = grind (arith, nat_tests) in
    IsUtf8-from_ascii value (digits-small value (AllPass-from_list_all is_ascii_digit value digits))

decimal : IsNumeralModel (λ digits. list_all is_ascii_digit digits ≡ true) (digits_value 10)
decimal = numerals_by_value _ (search rules)

number-small : (value : List ℕ) (n : ℕ) → number value ≡ Some n → n < 10 ^ 18
number-small value n e =
    let digits : list_all is_ascii_digit value ≡ true = grind (arith, nat_tests) in
    let short : length value ≤ 18 = grind (arith, nat_tests) in
    let same : digits_value 10 value ≡ n = grind (arith, nat_tests) in
    let P : ℕ → Type 0 = λ k. k < 10 ^ 18 in
    subst P same (digits_value_short decimal value 18 digits short)

-- what is no text is no number
pub no_text : (value : List ℕ) → (IsUtf8 value → ⊥) → None ≡ number value
no_text value not_text = grind (arith, nat_tests, is_number-text)

abbrev pub codings : List Header → Bool
codings headers = list_any (is_named (codes "transfer-encoding")) headers

pub told-coded : (bytes : List ℕ) (headers : List HeaderSpan)
    → list_any (λ header. is_named (codes "transfer-encoding") (header_bytes bytes header)) headers ≡ true
    → None ≡ told_length (map (header_bytes bytes) headers)
unfolding told_length
told-coded bytes headers coded =
    rw (list_any-map (is_named (codes "transfer-encoding")) (header_bytes bytes) headers, coded) refl

pub told-plain : (bytes : List ℕ) (headers : List HeaderSpan) (value : Option (List ℕ))
    → list_any (λ header. is_named (codes "transfer-encoding") (header_bytes bytes header)) headers ≡ false
    → value ≡ only (values_named (codes "content-length") (map (header_bytes bytes) headers))
    → length_in value ≡ told_length (map (header_bytes bytes) headers)
unfolding told_length
told-plain bytes headers value plain e =
    rw (list_any-map (is_named (codes "transfer-encoding")) (header_bytes bytes) headers, plain) (ap length_in e)

said-small : (coded : Bool) (value : Option (List ℕ)) (n : ℕ) → cond coded None (length_in value) ≡ Some n → n < 10 ^ 18
said-small true value n e = absurd (cc)
said-small false None n e = absurd (cc)
said-small false (Some value) n e = number-small value n e

-- so long a body is counted by 64 bits
pub told-small : (headers : List Header) (n : ℕ) → told_length headers ≡ Some n → n < 10 ^ 18
unfolding told_length
told-small headers n e = said-small (codings headers) (only (values_named (codes "content-length") headers)) n e
