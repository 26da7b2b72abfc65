-- The bytes of texts, and of what is written for them in a target.
use Rattle.std.proofs.Common.{◌≡◌, ◌≢◌, ℕ, ◌+◌, ◌*◌, ◌/◌, ◌<◌, ◌≤◌, true, List, [], ◌∷◌, length, map, refl, sym, ap, ◌∙◌, subst, arith, All, IsUtf8, ⊎_elim, cond, suc, ltb}
use Rattle.std.specs.Prelude.{not}
use Rattle.std.proofs.lemmas.Bool.{and_parts, cond_both, ltb-true, not-false}
use Rattle.std.proofs.lemmas.Bool.Decides.{nat_tests}
use Rattle.std.proofs.lemmas.List.Elements.{All-nil, All-cons, All-append, All-weaker}
use Rattle.std.proofs.lemmas.Str.{IsUtf8-from_ascii}
use Rattle.std.proofs.lemmas.Str.Ascii.{IsAscii-from_all}
use lib.Utf8.{scalar, scalars, scalar_cases, next, encode, encodes}
use Rattle.httparse.specs.Grammar.{is_uri_byte}
use Rattle.percent_encoding.specs.AsciiSet.{should_percent_encode}
use Rattle.percent_encoding.specs.Percent.{percent_encode, percent_decode}
use Rattle.percent_encoding.proofs.PercentLemmas.{IsByte, IsEscapeByte, All-percent_encode, length-percent_decode, round_trip}
use Rattle.form_urlencoded.specs.Form.{byte_serialize, plus_to_space}
use Rattle.form_urlencoded.proofs.FormLemmas.{IsSerializedByte, All-byte_serialize, decode-byte_serialize}
use Rattle.http_client.specs.Target.{is_unreserved}
use Rattle.http_client.specs.declared.target.TheConstants.{SEGMENT}
use Rattle.replicator_laws.specs.Framing.{IsTarget}

-- ---- UTF-8

one : (a : ℕ) → a < 256 → All IsByte (a ∷ [])
one a h = All-cons IsByte a [] h (All-nil IsByte)

more : (a : ℕ) (bs : List ℕ) → a < 256 → All IsByte bs → All IsByte (a ∷ bs)
more a bs h g = All-cons IsByte a bs h g

below : (c : ℕ) → scalar c ≡ true → c < 1114112
below c h = ⊎_elim (λ low. omega (arith, low)) (λ high. high.1) (scalar_cases c h)

bytes_of_one : (c : ℕ) → scalar c ≡ true → All IsByte (encode c)
unfolding encode
bytes_of_one c h =
    let top = below c h in
    let last = one (next c) (omega arith) in
    let last_two = more (next (c / 64)) (next c ∷ []) (omega arith) last in
    let last_three = more (next (c / 4096)) (next (c / 64) ∷ next c ∷ []) (omega arith) last_two in
    cond_both (ltb c 128) (c ∷ []) (cond (ltb c 2048) two (cond (ltb c 65536) three four)) (All IsByte) (λ e. let lt = ltb-true c 128 e in one c (omega arith))
    (λ _. cond_both (ltb c 2048) two (cond (ltb c 65536) three four) (All IsByte) (λ e. let lt = ltb-true c 2048 e in more (192 + c / 64) (next c ∷ []) (omega arith) last)
    (λ _. cond_both (ltb c 65536) three four (All IsByte) (λ e. let lt = ltb-true c 65536 e in more (224 + c / 4096) (next (c / 64) ∷ next c ∷ []) (omega arith) last_two)
    (λ _. more (240 + c / 262144) (next (c / 4096) ∷ next (c / 64) ∷ next c ∷ []) (omega arith) last_three)))
  where
    two : List ℕ
    two = (192 + c / 64) ∷ next c ∷ []

    three : List ℕ
    three = (224 + c / 4096) ∷ next (c / 64) ∷ next c ∷ []

    four : List ℕ
    four = (240 + c / 262144) ∷ next (c / 4096) ∷ next (c / 64) ∷ next c ∷ []

bytes_of : (cs : List ℕ) → scalars cs ≡ true → All IsByte (encodes cs)
bytes_of [] h = All-nil IsByte
bytes_of (c ∷ cs) h = let parts = and_parts _ _ h in All-append IsByte (encode c) (encodes cs) (bytes_of_one c parts.0) (bytes_of cs parts.1)

pub bytes_of_text : (bs : List ℕ) → IsUtf8 bs → All IsByte bs
bytes_of_text bs text = subst (All IsByte) text.1.1 (bytes_of text.0 text.1.0)

-- ---- a segment

-- a byte of a segment: no slash, no question mark and no space
pub record IsPart (b : ℕ) : Type 0 where
  pub ink : (33 ≤ b) × (b ≤ 126)
  pub slash : b ≢ 47
  pub question : b ≢ 63

-- which bytes a segment keeps
abbrev pub KeepsUnreserved : Type 0
KeepsUnreserved = (byte : ℕ) → should_percent_encode SEGMENT byte ≡ not (is_unreserved byte)

unreserved_part : (b : ℕ) → is_unreserved b ≡ true → IsPart b
unreserved_part b h = record { ink = (grind (arith, nat_tests), grind (arith, nat_tests)); slash = λ e. grind (arith, nat_tests); question = λ e. grind (arith, nat_tests) }

escape_part : (b : ℕ) → IsEscapeByte b → IsPart b
escape_part b h = record { ink = (grind arith, grind arith); slash = λ e. grind arith; question = λ e. grind arith }

pub segment_parts : KeepsUnreserved → (id : List ℕ) → All IsPart (percent_encode SEGMENT id)
segment_parts keeps id =
    All-percent_encode IsPart SEGMENT id (λ b kept. unreserved_part b (not-false (is_unreserved b) (sym (keeps b) ∙ kept))) escape_part

pub decoded-segment : (id : List ℕ) → IsUtf8 id → percent_decode (percent_encode SEGMENT id) ≡ id
decoded-segment id text = round_trip SEGMENT id refl (bytes_of_text id text)

pub length-segment : (id : List ℕ) → IsUtf8 id → length (percent_encode SEGMENT id) ≤ 3 * length id
length-segment id text =
    let long = (length-percent_decode (percent_encode SEGMENT id)).1 in
    let same = ap length (decoded-segment id text) in
    omega (arith, long, same)

-- ---- the bytes of a target

abbrev pub IsInk : ℕ → Type 0
IsInk b = (33 ≤ b) × (b ≤ 126)

uri_ink : (b : ℕ) → IsInk b → is_uri_byte b ≡ true
uri_ink b h = grind (arith, nat_tests)

pub serialized_ink : (b : ℕ) → IsSerializedByte b → IsInk b
serialized_ink b h = ⊎_elim (λ kept. (grind (arith, nat_tests), grind (arith, nat_tests))) (λ other. (grind arith, grind arith)) h.allowed

pub part_ink : (b : ℕ) → IsPart b → IsInk b
part_ink b h = h.ink

pub target_of : (target : List ℕ) → All IsInk target → 0 < length target → length target ≤ 16000 → IsTarget target
target_of target ink some short = record {
  not_empty = some;
  bytes = All-weaker IsInk (λ b. is_uri_byte b ≡ true) uri_ink target ink;
  text = IsUtf8-from_ascii target (IsAscii-from_all target (All-weaker IsInk (λ b. b < 128) (λ b h. omega (arith, h.1)) target ink));
  short = short;
}

-- ---- what a form writes

length-map_bytes : (f : ℕ → ℕ) (bs : List ℕ) → length (map f bs) ≡ length bs
length-map_bytes f [] = refl
length-map_bytes f (b ∷ bs) = ap suc (length-map_bytes f bs)

pub length-serialized : (bs : List ℕ) → All IsByte bs → length (byte_serialize bs) ≤ 3 * length bs
length-serialized bs small =
    let long = (length-percent_decode (map plus_to_space (byte_serialize bs))).1 in
    let same = ap length (decode-byte_serialize bs small) in
    let mapped = length-map_bytes plus_to_space (byte_serialize bs) in
    omega (arith, long, same, mapped)

pub serialized_all : (bs : List ℕ) → All IsInk (byte_serialize bs)
serialized_all bs = All-weaker IsSerializedByte IsInk serialized_ink (byte_serialize bs) (All-byte_serialize bs)
