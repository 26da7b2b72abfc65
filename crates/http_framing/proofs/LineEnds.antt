-- How many lines a head has, by their ends.
use Rattle.std.proofs.lemmas.List.{take_more}
use Rattle.std.proofs.Common.{◌≡◌, ℕ, take, get_or, zero, suc, ◌+◌, ◌<◌, ◌≤◌, Bool, true, false, List, [], ◌∷◌, ◌++◌, length, refl, ap, sym, ◌∙◌, subst, arith, append_assoc, length-append, append-nil, inl, inr, ◌⊎◌}
use Rattle.std.specs.Prelude.{All, ◌==◌, if◌then◌else◌}
use Rattle.std.specs.List.{flat_map}
use Rattle.std.proofs.lemmas.Bool.{cases_lt}
use Rattle.std.proofs.lemmas.Bool.Decides.{nat_tests}
use Rattle.std.proofs.lemmas.List.Elements.{All-head, All-tail}
use Rattle.httparse.specs.Grammar.{LineEnd, crlf, lf, print_end, print_version, Field, print_field, IsField, AllPass, is_token_byte, is_uri_byte, is_value_byte, RequestHead, IsRequestHead}
use Rattle.httparse.proofs.GrammarLemmas.{cons-append}
use Rattle.http_framing.specs.Lines.{line_ends, IsEnded}

pub line_ends-append : (xs ys : List ℕ) → line_ends (xs ++ ys) ≡ line_ends xs + line_ends ys
line_ends-append [] ys = omega arith
line_ends-append (x ∷ xs) ys = let more = line_ends-append xs ys in omega (arith, more)

-- a byte that ends no line, behind others
pub line_ends-past : (xs : List ℕ) (b : ℕ) (ys : List ℕ) → (b == 10) ≡ false → line_ends (xs ++ b ∷ ys) ≡ line_ends xs + line_ends ys
line_ends-past xs b ys other =
    let here : line_ends (b ∷ ys) ≡ line_ends ys = rw other (omega arith) in
    omega (arith, line_ends-append xs (b ∷ ys), here)

pub line_ends-more : (xs : List ℕ) (b : ℕ) → line_ends (xs ++ b ∷ []) ≡ line_ends xs + (if b == 10 then 1 else 0)
line_ends-more xs b = omega (arith, line_ends-append xs (b ∷ []))

-- no line ends in bytes that are no line feed
line_ends-none : (test : ℕ → Bool) → test 10 ≡ false → (xs : List ℕ) → AllPass test xs → line_ends xs ≡ 0
line_ends-none test stops [] all = refl
line_ends-none test stops (x ∷ xs) all =
    let passes : test x ≡ true = All-head (λ b. test b ≡ true) x xs all in
    let rest = line_ends-none test stops xs (All-tail (λ b. test b ≡ true) x xs all) in
    let other : (x == 10) ≡ false = other_byte x test passes stops in
    rw other (omega (arith, rest))
  where
    other_byte : (x : ℕ) (test : ℕ → Bool) → test x ≡ true → test 10 ≡ false → (x == 10) ≡ false
    other_byte x test passes stops = grind (arith, nat_tests, passes, stops)

no_end_in_token : is_token_byte 10 ≡ false
unfolding is_token_byte
no_end_in_token = refl

pub line_ends-token : (xs : List ℕ) → AllPass is_token_byte xs → line_ends xs ≡ 0
line_ends-token xs all = line_ends-none is_token_byte no_end_in_token xs all

pub line_ends-uri : (xs : List ℕ) → AllPass is_uri_byte xs → line_ends xs ≡ 0
line_ends-uri xs all = line_ends-none is_uri_byte refl xs all

pub line_ends-end : (end : LineEnd) → line_ends (print_end end) ≡ 1
line_ends-end lf = refl
line_ends-end crlf = refl

line_ends-version : (minor : ℕ) → minor ≤ 1 → line_ends (print_version minor) ≡ 0
line_ends-version zero small = refl
line_ends-version (suc zero) small = refl
line_ends-version (suc (suc n)) small = absurd (omega arith)

line_ends-field : (f : Field) → IsField f → line_ends (print_field f) ≡ 1
line_ends-field f is =
    let name = line_ends-token f.name is.name.1 in
    let raw = line_ends-none is_value_byte refl f.raw is.raw in
    let end = line_ends-end f.end in
    let parts : line_ends (print_field f) ≡ line_ends (f.name ++ 58 ∷ f.raw) + line_ends (print_end f.end) = line_ends-append (f.name ++ 58 ∷ f.raw) (print_end f.end) in
    omega (arith, parts, line_ends-past f.name 58 f.raw refl, name, raw, end)

line_ends-fields : (fs : List Field) → All IsField fs → line_ends (flat_map print_field fs) ≡ length fs
line_ends-fields [] all = refl
line_ends-fields (f ∷ fs) all =
    let one = line_ends-field f (All-head IsField f fs all) in
    let more = line_ends-fields fs (All-tail IsField f fs all) in
    omega (arith, line_ends-append (print_field f) (flat_map print_field fs), one, more)

-- the request line of a head, and these of its fields
abbrev pub print_first : RequestHead → List Field → List ℕ
print_first h fields =
    h.method ++ 32 ∷ (h.target ++ 32 ∷ (print_version h.minor ++ (print_end h.line_end ++ flat_map print_field fields)))

pub line_ends-first : (h : RequestHead) (fields : List Field) → IsRequestHead h → All IsField fields
    → line_ends (print_first h fields) ≡ length fields + 1
line_ends-first h fields is all =
    let ends = print_end h.line_end ++ flat_map print_field fields in
    let version = print_version h.minor ++ ends in
    let parts : line_ends (print_first h fields) ≡ line_ends h.method + line_ends (h.target ++ 32 ∷ version) = line_ends-past h.method 32 (h.target ++ 32 ∷ version) refl in
    omega (
      arith,
      parts,
      line_ends-past h.target 32 version refl,
      line_ends-append (print_version h.minor) ends,
      line_ends-append (print_end h.line_end) (flat_map print_field fields),
      line_ends-token h.method is.method.1,
      line_ends-uri h.target is.target.1,
      line_ends-version h.minor is.minor,
      line_ends-end h.line_end,
      line_ends-fields fields all,
    )

-- ---- bytes at whose end a line ends

pub ended-append : (xs ys : List ℕ) → IsEnded ys → IsEnded (xs ++ ys)
ended-append xs ys (front, is) = (xs ++ front, ap (λ (t : List ℕ). xs ++ t) is ∙ sym (append_assoc xs front (10 ∷ [])))

pub ended-end : (end : LineEnd) → IsEnded (print_end end)
ended-end lf = ([], refl)
ended-end crlf = (13 ∷ [], refl)

ended-fields : (end : LineEnd) (fs : List Field) → IsEnded (print_end end ++ flat_map print_field fs)
ended-fields end [] = subst IsEnded (sym (append-nil (print_end end))) (ended-end end)
ended-fields end (f ∷ fs) =
    let line = f.name ++ 58 ∷ f.raw in
    let later : IsEnded (print_end f.end ++ flat_map print_field fs) = ended-fields f.end fs in
    let same : line ++ (print_end f.end ++ flat_map print_field fs) ≡ print_field f ++ flat_map print_field fs = simp (append_assoc, cons-append) refl in
    ended-append (print_end end) _ (subst IsEnded same (ended-append line _ later))

pub ended-first : (h : RequestHead) (fields : List Field) → IsEnded (print_first h fields)
ended-first h fields =
    ended-append h.method _ (ended-append (32 ∷ h.target) _ (ended-append (32 ∷ print_version h.minor) _ (ended-fields h.line_end fields)))

-- something at the end of such bytes has the end of a line
pub later_end : (front xs ys : List ℕ) → front ++ 10 ∷ [] ≡ xs ++ ys → 0 < length ys → 0 < line_ends ys
later_end front [] ys e some = subst (λ (t : List ℕ). 0 < line_ends t) e (omega (arith, line_ends-append front (10 ∷ [])))
later_end [] (x ∷ xs) ys e some = absurd (omega (arith, ap length e, length-append xs ys))
later_end (y ∷ front) (x ∷ xs) ys e some = later_end front xs ys (cc) some

shorter : (xs ys more rest : List ℕ) → IsEnded ys → line_ends xs ≡ line_ends ys → length xs ≤ length ys → xs ++ more ≡ ys ++ rest → xs ≡ ys
shorter [] [] more rest ended ends le e = refl
shorter [] (y ∷ ys) more rest (front, is) ends le e = absurd (omega (arith, ends, later_end front [] (y ∷ ys) (sym is) (omega arith)))
shorter (x ∷ xs) [] more rest ended ends le e = absurd (omega (arith, le))
shorter (x ∷ xs) (y ∷ ys) more rest ended ends le e =
    let heads : x ≡ y = cc in
    let tails : xs ++ more ≡ ys ++ rest = cc in
    elim (tail_ended y ys ended) [
      | inl none ↦ let empty : xs ≡ [] = no_longer xs ys none (omega (arith, le)) in cc
      | inr later ↦ let rest_is = shorter xs ys more rest later (same_ends x y xs ys heads ends) (omega (arith, le)) tails in cc
    ]
  where
    no_longer : (xs ys : List ℕ) → ys ≡ [] → length xs ≤ length ys → xs ≡ []
    no_longer [] ys none le = refl
    no_longer (x ∷ xs) ys none le = absurd (omega (arith, le, ap length none))

    same_ends : (x y : ℕ) (xs ys : List ℕ) → x ≡ y → line_ends (x ∷ xs) ≡ line_ends (y ∷ ys) → line_ends xs ≡ line_ends ys
    same_ends x y xs ys e ends =
        let same : line_ends (y ∷ xs) ≡ line_ends (y ∷ ys) = ap (λ (z : ℕ). line_ends (z ∷ xs)) (sym e) ∙ ends in
        omega (arith, same)

    tail_ended : (y : ℕ) (ys : List ℕ) → IsEnded (y ∷ ys) → (ys ≡ []) ⊎ IsEnded ys
    tail_ended y ys ([], is) = inl (cc)
    tail_ended y ys (x ∷ front, is) = inr (front, cc)

-- as many lines that end at the front of the same bytes are the same
pub same_lines : (xs ys more rest : List ℕ) → IsEnded xs → IsEnded ys → line_ends xs ≡ line_ends ys → xs ++ more ≡ ys ++ rest → xs ≡ ys
same_lines xs ys more rest ended also ends e = elim (cases_lt (length xs) (length ys)) [
  | inl less ↦ shorter xs ys more rest also ends (omega (arith, less)) e
  | inr not_less ↦ sym (shorter ys xs rest more ended (sym ends) not_less (sym e))
]

-- ---- a loop over bytes

pub one_more_end : (bytes : List ℕ) (at lines : ℕ) → at < length bytes → get_or bytes at 0 ≡ 10 → lines ≡ line_ends (take at bytes)
    → lines + 1 ≡ line_ends (take (at + 1) bytes)
one_more_end bytes at lines inside end so_far =
    let more = take_more bytes at 0 inside in
    let count : line_ends (take (at + 1) bytes) ≡ line_ends (take at bytes) + 1 =
    ap line_ends more ∙ line_ends-more (take at bytes) (get_or bytes at 0) ∙ ap (λ (b : ℕ). line_ends (take at bytes) + (if b == 10 then 1 else 0)) end in
    omega (arith, count, so_far)

pub no_more_end : (bytes : List ℕ) (at lines : ℕ) → at < length bytes → (get_or bytes at 0 ≡ 10 → ⊥) → lines ≡ line_ends (take at bytes)
    → lines ≡ line_ends (take (at + 1) bytes)
no_more_end bytes at lines inside other so_far =
    let more = take_more bytes at 0 inside in
    let no : (get_or bytes at 0 == 10) ≡ false = grind (arith, nat_tests) in
    let count : line_ends (take (at + 1) bytes) ≡ line_ends (take at bytes) + 0 =
    ap line_ends more ∙ line_ends-more (take at bytes) (get_or bytes at 0) ∙ ap (λ (b : Bool). line_ends (take at bytes) + (if b then 1 else 0)) no in
    omega (arith, count, so_far)

pub ended_here : (bytes : List ℕ) (at : ℕ) → at < length bytes → get_or bytes at 0 ≡ 10 → IsEnded (take (at + 1) bytes)
ended_here bytes at inside end = (take at bytes, take_more bytes at 0 inside ∙ ap (λ (b : ℕ). take at bytes ++ b ∷ []) end)
