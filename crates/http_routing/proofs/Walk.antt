-- Which route a router finds, where ids are at the ends of paths.
use Rattle.std.proofs.Common.{◌≡◌, ℕ, zero, suc, ◌-◌, ◌<◌, ◌⊎◌, ◌==◌, ◌&&◌, ◌||◌, Bool, true, false, cond, not, nat_lt, List, [], ◌∷◌, length, Option, Some, None, refl, ap, sym, arith, inl, inr}
use Rattle.std.proofs.lemmas.Bool.Decides.{nat_tests}
use Rattle.std.proofs.lemmas.List.Elements.{All-head, All-tail}
use Rattle.std.specs.Prelude.{All}
use Rattle.std.specs.List.{list_all}
use Rattle.matchit.specs.Rows.{RowsOf, param_token, catch_all_token}
use Rattle.matchit.specs.Seek.{has_slash, segment, longest_from, longest_suffix, own, step, or_else, param_step, seek}

abbrev pub IsByte : ℕ → Type 0
IsByte byte = byte < 256

-- bytes, and then an id or nothing
abbrev pub is_plain : List ℕ → Bool
is_plain [] = true
is_plain (token ∷ tokens) = cond (token == param_token) (nat_lt (length tokens) 1) (nat_lt token 256 && is_plain tokens)

-- the path fits the tokens
abbrev pub token_fits : List ℕ → List ℕ → Bool
token_fits [] [] = true
token_fits [] (byte ∷ path) = false
token_fits (token ∷ tokens) [] = false
token_fits (token ∷ tokens) (byte ∷ path) =
    cond (token == param_token) (not (has_slash (byte ∷ path))) (token == byte && token_fits tokens path)

-- the other tokens go on where these have an id
abbrev pub hides : List ℕ → List ℕ → Bool
hides [] other = false
hides (token ∷ tokens) [] = false
hides (token ∷ tokens) (byte ∷ other) = token == param_token || (token == byte && hides tokens other)

same_or_not : (x y : ℕ) → (x ≡ y) ⊎ ((x == y) ≡ false)
same_or_not x y = elim (x == y) as (λ b. (x == y) ≡ b → (x ≡ y) ⊎ ((x == y) ≡ false)) [
  | true ↦ λ same. inl (grind (arith, nat_tests))
  | false ↦ λ other. inr other
] refl

pub other_number : (x y : ℕ) → x < y → (x == y) ≡ false
other_number x y below = grind (arith, nat_tests)

other_id : (byte : ℕ) → byte < 256 → (256 == byte) ≡ false
other_id byte small = grind (arith, nat_tests)

same_number : (x : ℕ) → (x == x) ≡ true
same_number x = grind (arith, nat_tests)

pub both : (a b : Bool) → (a && b) ≡ true → (a ≡ true) × (b ≡ true)
both true true e = (refl, refl)
both true false e = absurd (cc)
both false b e = absurd (cc)

no_more : (tokens : List ℕ) → nat_lt (length tokens) 1 ≡ true → tokens ≡ []
no_more [] none = refl
no_more (token ∷ tokens) none = absurd (grind (arith, nat_tests))

-- a token is an id, which is the last, or a byte, which may go on
plain_token : (token : ℕ) (tokens : List ℕ) → is_plain (token ∷ tokens) ≡ true
    → ((token ≡ 256) × (tokens ≡ [])) ⊎ ((token < 256) × (is_plain tokens ≡ true))
plain_token token tokens plain = elim (same_or_not token 256) [
  | inl id ↦ let last = rw id at plain in inl (id, no_more tokens last)
  | inr other ↦ let parts = both (nat_lt token 256) (is_plain tokens) (rw other at plain) in inr (grind (arith, nat_tests), parts.1)
]

plain_after : (token : ℕ) (tokens : List ℕ) → token < 256 → is_plain (token ∷ tokens) ≡ true → is_plain tokens ≡ true
plain_after token tokens small plain =
    elim (plain_token token tokens plain) [ inl last ↦ absurd (omega (arith, last.0)) | inr next ↦ next.1 ]

hides-next : (byte token : ℕ) (tokens more : List ℕ) → byte < 256 → token ≡ byte → not (hides (byte ∷ tokens) (token ∷ more)) ≡ true
    → not (hides tokens more) ≡ true
hides-next byte token tokens more small same none = rw (same, other_number byte 256 small, same_number byte) at none

module _ {K : Type 0} where
  abbrev pub hides_none : List ℕ → RowsOf K → Bool
  hides_none tokens rows = list_all (λ row. not (hides tokens row.0)) rows

  -- each row is bytes and then an id or nothing, and hides no later one
  abbrev pub ArePlain : RowsOf K → Type 0
  ArePlain [] = Unit {0}
  ArePlain ((tokens, key) ∷ rows) = (is_plain tokens ≡ true) × (hides_none tokens rows ≡ true) × ArePlain rows

  -- the same as a test
  abbrev pub are_plain : RowsOf K → Bool
  are_plain [] = true
  are_plain (row ∷ rows) = (is_plain row.0 && hides_none row.0 rows) && are_plain rows

  pub ArePlain-from_test : (rows : RowsOf K) → are_plain rows ≡ true → ArePlain rows
  ArePlain-from_test [] test = tt
  ArePlain-from_test (row ∷ rows) test =
      let parts = both (is_plain row.0 && hides_none row.0 rows) (are_plain rows) test in
      let here = both (is_plain row.0) (hides_none row.0 rows) parts.0 in
      (here.0, here.1, ArePlain-from_test rows parts.1)

  -- the first row that the path fits
  abbrev pub first_fit : RowsOf K → List ℕ → Option K
  first_fit [] path = None
  first_fit ((tokens, key) ∷ rows) path = cond (token_fits tokens path) (Some key) (first_fit rows path)

  own-first_fit : (rows : RowsOf K) → own rows ≡ first_fit rows []
  own-first_fit [] = refl
  own-first_fit (([], key) ∷ rows) = refl
  own-first_fit ((token ∷ tokens, key) ∷ rows) = own-first_fit rows

  -- nothing is found where there is no row
  seek-nil : (skip : ℕ) (path : List ℕ) → seek {K = K} skip [] path ≡ None
  unfolding seek param_step
  seek-nil skip [] = refl
  seek-nil (suc skip) (byte ∷ path) = seek-nil skip path
  seek-nil zero (byte ∷ path) = neither (cond (byte == 47) true (has_slash path)) (λ skip. seek-nil skip path)
    where
      neither : (slash : Bool) → ((skip : ℕ) → seek {K = K} skip [] path ≡ None)
          → or_else (seek {K = K} 0 [] path) (or_else (seek ((cond {A = ℕ × RowsOf K} slash (0, []) (suc (length path), [])).0 - 1) (cond {A = ℕ × RowsOf K} slash (0, []) (suc (length path), [])).1 path) None) ≡ None
      neither true none = rw (none 0) refl
      neither false none = rw (none 0, none (suc (length path) - 1)) refl

  -- past the rest of the path a row ends or does not
  seek-past : (rows : RowsOf K) (path : List ℕ) → seek (length path) rows path ≡ own rows
  unfolding seek
  seek-past rows [] = refl
  seek-past rows (byte ∷ path) = seek-past rows path

  -- ---- the rows after one token

  -- what a row with an id hides is not behind it
  step-hidden : (byte : ℕ) (tokens : List ℕ) (rows : RowsOf K) → hides_none (256 ∷ tokens) rows ≡ true → step byte rows ≡ []
  step-hidden byte tokens [] none = refl
  step-hidden byte tokens (([], key) ∷ rows) none = step-hidden byte tokens rows none
  step-hidden byte tokens ((token ∷ more, key) ∷ rows) none = absurd (cc)

  -- no row goes on with the token of a catch-all
  step-catch_all : (rows : RowsOf K) → ArePlain rows → step catch_all_token rows ≡ []
  step-catch_all [] plain = refl
  step-catch_all (([], key) ∷ rows) plain = step-catch_all rows plain.2
  step-catch_all ((token ∷ tokens, key) ∷ rows) plain = elim (plain_token token tokens plain.0) [
    | inl last ↦ rw last.0 (step-catch_all rows plain.2)
    | inr next ↦ rw (other_number token 257 (omega arith)) (step-catch_all rows plain.2)
  ]

  -- after an id a row ends
  longest_from-id : (segment : List ℕ) (rows : RowsOf K) → ArePlain rows → longest_from segment [] (step param_token rows) ≡ []
  longest_from-id segment [] plain = refl
  longest_from-id segment (([], key) ∷ rows) plain = longest_from-id segment rows plain.2
  longest_from-id segment ((token ∷ tokens, key) ∷ rows) plain = elim (plain_token token tokens plain.0) [
    | inl last ↦ rw (last.0, last.1) (longest_from-id segment rows plain.2)
    | inr next ↦ rw (other_number token 256 next.0) (longest_from-id segment rows plain.2)
  ]

  hides_none-step : (byte : ℕ) (tokens : List ℕ) (rows : RowsOf K) → byte < 256 → hides_none (byte ∷ tokens) rows ≡ true
      → hides_none tokens (step byte rows) ≡ true
  hides_none-step byte tokens [] small none = refl
  hides_none-step byte tokens (([], key) ∷ rows) small none = hides_none-step byte tokens rows small none
  hides_none-step byte tokens ((token ∷ more, key) ∷ rows) small none =
      let parts = both (not (hides (byte ∷ tokens) (token ∷ more))) (hides_none (byte ∷ tokens) rows) none in
      elim (same_or_not token byte) [
        | inl same ↦ rw (same, same_number byte, hides-next byte token tokens more small same parts.0, hides_none-step byte tokens rows small parts.1) refl
        | inr other ↦ rw other (hides_none-step byte tokens rows small parts.1)
      ]

  -- the rows after a byte are plain too
  ArePlain-step : (byte : ℕ) (rows : RowsOf K) → byte < 256 → ArePlain rows → ArePlain (step byte rows)
  ArePlain-step byte [] small plain = tt
  ArePlain-step byte (([], key) ∷ rows) small plain = ArePlain-step byte rows small plain.2
  ArePlain-step byte ((token ∷ tokens, key) ∷ rows) small plain = elim (same_or_not token byte) [
    | inl same ↦ rw (same, same_number byte) (
      plain_after token tokens (omega arith) plain.0,
      hides_none-step byte tokens rows small (rw same at plain.1),
      ArePlain-step byte rows small plain.2,
    )
    | inr other ↦ rw other (ArePlain-step byte rows small plain.2)
  ]

  -- ---- where a path fits first

  no_row : (slash : Bool) → None ≡ or_else {K = K} None (cond slash None None)
  no_row true = refl
  no_row false = refl

  -- a row that is an id: it takes a path with no slash, where no row before it took it
  id_row : (slash : Bool) (key : K) (found after last : Option K) → found ≡ or_else after (cond slash None last) → after ≡ None
      → cond (not slash) (Some key) found ≡ or_else after (cond slash None (Some key))
  id_row true key found after last e none = e
  id_row false key found after last e none = rw none refl

  found_or : (fit : Bool) (key : K) (found after last : Option K) → found ≡ or_else after last
      → cond fit (Some key) found ≡ or_else (cond fit (Some key) after) last
  found_or true key found after last e = refl
  found_or false key found after last e = e

  -- a row that begins with a byte: the path's first, or another
  byte_row : (same : Bool) (tokens path : List ℕ) (key : K) (found last : Option K) (rows : RowsOf K) → found ≡ or_else (first_fit rows path) last
      → cond (same && token_fits tokens path) (Some key) found ≡ or_else (first_fit (cond same ((tokens, key) ∷ rows) rows) path) last
  byte_row true tokens path key found last rows e = found_or (token_fits tokens path) key found (first_fit rows path) last e
  byte_row false tokens path key found last rows e = e

  -- a path fits what goes on with its first byte, or else an id
  first_fit-step : (rows : RowsOf K) (byte : ℕ) (path : List ℕ) → ArePlain rows → byte < 256
      → first_fit rows (byte ∷ path) ≡ or_else (first_fit (step byte rows) path) (cond (has_slash (byte ∷ path)) None (own (step param_token rows)))
  first_fit-step [] byte path plain small = no_row (has_slash (byte ∷ path))
  first_fit-step (([], key) ∷ rows) byte path plain small = first_fit-step rows byte path plain.2 small
  first_fit-step ((token ∷ tokens, key) ∷ rows) byte path plain small = elim (plain_token token tokens plain.0) [
    | inl last ↦ rw (last.0, last.1, other_id byte small) (
        id_row (has_slash (byte ∷ path)) key (first_fit rows (byte ∷ path)) (first_fit (step byte rows) path) (own (step param_token rows))
        (first_fit-step rows byte path plain.2 small)
        (ap (λ (left : RowsOf K). first_fit left path) (step-hidden byte tokens rows (rw last.0 at plain.1))))
    | inr next ↦ rw (other_number token 256 next.0) (
        byte_row (token == byte) tokens path key (first_fit rows (byte ∷ path)) _ (step byte rows) (first_fit-step rows byte path plain.2 small))
  ]

  or_none : (found : Option K) → or_else found None ≡ found
  or_none None = refl
  or_none (Some key) = refl

  -- an id takes the rest of the path where that has no slash
  id_taken : (rows : RowsOf K) (byte : ℕ) (path : List ℕ) → longest_suffix (segment (byte ∷ path)) rows ≡ []
      → seek ((param_step rows (byte ∷ path)).0 - 1) (param_step rows (byte ∷ path)).1 path ≡ cond (has_slash (byte ∷ path)) None (own rows)
  unfolding param_step
  id_taken rows byte path none = rw none (taken (has_slash (byte ∷ path)))
    where
      taken : (slash : Bool) → seek ((cond {A = ℕ × RowsOf K} slash (0, []) (length (byte ∷ path), rows)).0 - 1) (cond {A = ℕ × RowsOf K} slash (0, []) (length (byte ∷ path), rows)).1 path
          ≡ cond slash None (own rows)
      taken true = seek-nil 0 path
      taken false = let rest : length (byte ∷ path) - 1 ≡ length path = omega arith in rw rest (seek-past rows path)

  -- the router finds the first row that the path fits
  pub seek-first_fit : (path : List ℕ) (rows : RowsOf K) → ArePlain rows → All IsByte path → seek 0 rows path ≡ first_fit rows path
  unfolding seek
  seek-first_fit [] rows plain bytes = own-first_fit rows
  seek-first_fit (byte ∷ path) rows plain bytes =
      let small = All-head IsByte byte path bytes in
      let after = seek-first_fit path (step byte rows) (ArePlain-step byte rows small plain) (All-tail IsByte byte path bytes) in
      let taken = id_taken (step param_token rows) byte path (longest_from-id (segment (byte ∷ path)) rows plain) in
      rw (after, taken, step-catch_all rows plain, or_none) (sym (first_fit-step rows byte path plain small))
