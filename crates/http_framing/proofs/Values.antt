-- The values of the headers of one name, as the code collects them.
use Rattle.std.proofs.Common.{◌≡◌, ℕ, ◌+◌, ◌<◌, ◌||◌, Bool, List, [], ◌∷◌, ◌++◌, length, take, get_or, map, true, false, refl, ap, sym, ◌∙◌, subst, arith, Result, Ok, Err, codes}
use Rattle.std.proofs.lemmas.Bool.Decides.{nat_tests}
use Rattle.std.proofs.lemmas.Grind.{common_steps}
use Rattle.std.proofs.lemmas.List.{take_more, map-append, length-append}
use Rattle.std.specs.Borrow.{Bor}
use Rattle.std.specs.List.{list_any}
use Rattle.httparse.specs.declared.spans.HeaderSpan.{HeaderSpan}
use Rattle.httparse.specs.Spans.{header_bytes}
use Rattle.http_framing.specs.Headers.{values_named, Header, is_named}
use Rattle.http_framing.specs.Body.{body_length, content_length, unless_coded, length_said}
use Rattle.http_framing.specs.Request.{is_close, closes_after}
use Rattle.http_framing.specs.Occurs.{Occurs}
use Rattle.http_framing.specs.declared.FramingFault.{FramingFault}
use Rattle.http_framing.specs.declared.FramingFault.TheVariants.{TransferEncoding, ContentLength}
use Rattle.http_framing.specs.declared.headers.Occurrence.{Occurrence}
use Rattle.http_framing.specs.declared.headers.Occurrence.TheVariants.{Never, Once, Often}

pub values_named-nil : (name : List ℕ) → values_named name [] ≡ []
unfolding values_named
values_named-nil name = refl

values_named-append : (name : List ℕ) (headers more : List Header)
    → values_named name (headers ++ more) ≡ values_named name headers ++ values_named name more
unfolding values_named
values_named-append name headers more = grind (arith, common_steps)

values_named-other : (name : List ℕ) (header : Header) (values : List (List ℕ)) → is_named name header ≡ false
    → values ++ values_named name (header ∷ []) ≡ values
unfolding values_named
values_named-other name header values other = grind (arith, common_steps)

values_named-same : (name : List ℕ) (header : Header) (values : List (List ℕ)) → is_named name header ≡ true
    → values ++ values_named name (header ∷ []) ≡ values ++ header.1 ∷ []
unfolding values_named
values_named-same name header values same = grind (arith, common_steps)

-- one more header, of another name
pub occurs-other : (found : Occurrence) (name : List ℕ) (header : Header) → is_named name header ≡ false
    → (values : List (List ℕ)) → Occurs found values → Occurs found (values ++ values_named name (header ∷ []))
occurs-other found name header other values occurs =
    subst (Occurs found) (sym (values_named-other name header values other)) occurs

-- one more header, the first of the name
pub occurs-first : (found : Occurrence) (value : Bor (List ℕ)) (name : List ℕ) (header : Header) → is_named name header ≡ true
    → found ≡ Never → value.now ≡ header.1
    → (values : List (List ℕ)) → Occurs found values → Occurs (Once value) (values ++ values_named name (header ∷ []))
occurs-first found value name header same never first values occurs =
    let none : values ≡ [] = subst (λ (o : Occurrence). Occurs o values) never occurs in
    values_named-same name header values same ∙ cc (none, first)

more_than_one : (found : Occurrence) (value : List ℕ) (values : List (List ℕ)) → (found ≡ Never → ⊥) → Occurs found values
    → 1 < length (values ++ value ∷ [])
more_than_one Never value values some occurs = absurd (some refl)
more_than_one (Once first) value values some occurs = rw occurs (omega arith)
more_than_one Often value values some occurs = omega (arith, length-append values (value ∷ []))

-- one more header, and not the first of the name
pub occurs-often : (found : Occurrence) (name : List ℕ) (header : Header) → is_named name header ≡ true → (found ≡ Never → ⊥)
    → (values : List (List ℕ)) → Occurs found values → Occurs Often (values ++ values_named name (header ∷ []))
occurs-often found name header same some values occurs =
    rw (values_named-same name header values same) (more_than_one found header.1 values some occurs)

abbrev pub no_header : HeaderSpan
no_header = record { name = record { start = 0; end = 0 }; value = record { start = 0; end = 0 } }

-- the values after one more header
pub values_more : (bytes name : List ℕ) (headers : List HeaderSpan) (i : ℕ) (header : HeaderSpan) → i < length headers
    → values_named name (map (header_bytes bytes) (take i headers)) ++ values_named name (header_bytes bytes (get_or headers i header) ∷ [])
    ≡ values_named name (map (header_bytes bytes) (take (i + 1) headers))
values_more bytes name headers i header inside =
    sym (ap (λ (spans : List HeaderSpan). values_named name (map (header_bytes bytes) spans)) (take_more headers i header inside)
    ∙ ap (values_named name) (map-append (header_bytes bytes) (take i headers) (get_or headers i header ∷ []))
    ∙ values_named-append name (map (header_bytes bytes) (take i headers)) (header_bytes bytes (get_or headers i header) ∷ []))

abbrev pub codings : List Header → List (List ℕ)
codings headers = values_named (codes "transfer-encoding") headers

abbrev pub lengths : List Header → List (List ℕ)
lengths headers = values_named (codes "content-length") headers

unless_coded-some : (values : List (List ℕ)) (len : Result ℕ FramingFault) → 0 < length values → unless_coded values len ≡ Err TransferEncoding
unless_coded-some [] len some = absurd (omega arith)
unless_coded-some (value ∷ values) len some = refl

pub body_length-coded : (found : Occurrence) (headers : List Header) → (found ≡ Never → ⊥) → Occurs found (codings headers)
    → Err TransferEncoding ≡ body_length headers
unfolding body_length
body_length-coded Never headers some occurs = absurd (some refl)
body_length-coded (Once value) headers some occurs = rw occurs refl
body_length-coded Often headers some occurs = sym (unless_coded-some (codings headers) (content_length (lengths headers)) (omega arith))

body_length-plain : (headers : List Header) → codings headers ≡ [] → body_length headers ≡ content_length (lengths headers)
unfolding body_length
body_length-plain headers none = rw none refl

content_length-often : (values : List (List ℕ)) → 1 < length values → content_length values ≡ Err ContentLength
content_length-often [] often = absurd (omega arith)
content_length-often (value ∷ []) often = absurd (omega arith)
content_length-often (value ∷ other ∷ values) often = refl

pub body_length-never : (headers : List Header) → codings headers ≡ [] → lengths headers ≡ [] → Ok 0 ≡ body_length headers
body_length-never headers none never = sym (body_length-plain headers none ∙ ap content_length never)

pub body_length-once : (headers : List Header) (value : List ℕ) → codings headers ≡ [] → lengths headers ≡ value ∷ []
    → length_said value ≡ body_length headers
body_length-once headers value none once = sym (body_length-plain headers none ∙ ap content_length once)

pub body_length-often : (headers : List Header) → codings headers ≡ [] → 1 < length (lengths headers)
    → Err ContentLength ≡ body_length headers
body_length-often headers none often = sym (body_length-plain headers none ∙ content_length-often _ often)

-- a test of the images
pub list_any-map : {A B : Type 0} (test : B → Bool) (f : A → B) (xs : List A) → list_any test (map f xs) ≡ list_any (λ x. test (f x)) xs
list_any-map test f [] = refl
list_any-map test f (x ∷ xs) = ap (λ (found : Bool). test (f x) || found) (list_any-map test f xs)

-- a head of HTTP/1.1 closes where a header asks for it
pub closes_after-later : (minor : ℕ) (bytes : List ℕ) (headers : List HeaderSpan) → (minor ≡ 0 → ⊥)
    → list_any (λ header. is_close (header_bytes bytes header)) headers ≡ closes_after minor (map (header_bytes bytes) headers)
closes_after-later minor bytes headers later =
    let asked = list_any-map is_close (header_bytes bytes) headers in
    rw asked (grind (arith, nat_tests))
