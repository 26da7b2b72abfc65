-- What a body's length can be: a number within the limit, or a fault of the body.
use Rattle.std.proofs.Common.{◌≡◌, ℕ, ◌≤◌, List, [], ◌∷◌, Bool, true, false, cond, nat_le, refl, subst, arith, Result, Ok, Err, codes}
use Rattle.std.specs.Prelude.{MatchResult}
use Rattle.std.proofs.lemmas.Bool.Decides.{nat_tests}
use Rattle.std.specs.Str.Parse.{digits_value}
use Rattle.http_framing.specs.declared.FramingFault.{FramingFault}
use Rattle.http_framing.specs.declared.FramingFault.TheVariants.{Head, LargeHead, TransferEncoding, ContentLength, LargeBody}
use Rattle.http_framing.specs.Headers.{Header, values_named}
use Rattle.decimals.specs.Number.{is_digits}
use Rattle.http_framing.specs.Body.{body_limit, length_said, content_length, unless_coded, body_length}
use Rattle.http_framing.specs.Refusal.{HasBadBody, IsRefused}

-- the fault is of the body
abbrev pub IsBodyFault : FramingFault → Type 0
IsBodyFault Head = ⊥
IsBodyFault LargeHead = ⊥
IsBodyFault TransferEncoding = Unit {0}
IsBodyFault ContentLength = Unit {0}
IsBodyFault LargeBody = Unit {0}

-- a length within the limit, or a fault of the body
abbrev pub IsLength : Result ℕ FramingFault → Type 0
IsLength length = MatchResult length (λ len. len ≤ body_limit) IsBodyFault

length_said-cases : (digits small : Bool) (len : ℕ) → (small ≡ true → len ≤ body_limit)
    → IsLength (cond digits (cond small (Ok len) (Err LargeBody)) (Err ContentLength))
length_said-cases true true len within = within refl
length_said-cases true false len within = tt
length_said-cases false small len within = tt

length_said-is : (value : List ℕ) → IsLength (length_said value)
unfolding length_said
length_said-is value =
    length_said-cases (is_digits value) (nat_le (digits_value 10 value) body_limit) (digits_value 10 value) (λ small. grind (arith, nat_tests))

content_length-is : (values : List (List ℕ)) → IsLength (content_length values)
content_length-is [] = omega arith
content_length-is (value ∷ []) = length_said-is value
content_length-is (value ∷ other ∷ values) = tt

unless_coded-is : (codings : List (List ℕ)) (length : Result ℕ FramingFault) → IsLength length → IsLength (unless_coded codings length)
unless_coded-is [] length is = is
unless_coded-is (coding ∷ codings) length is = tt

body_length-is : (headers : List Header) → IsLength (body_length headers)
unfolding body_length
body_length-is headers = unless_coded-is _ (content_length _) (content_length-is (values_named (codes "content-length") headers))

pub body_length-le : (headers : List Header) (len : ℕ) → body_length headers ≡ Ok len → len ≤ body_limit
body_length-le headers len said = subst IsLength said (body_length-is headers)

pub body_length-fault : (headers : List Header) (fault : FramingFault) → body_length headers ≡ Err fault → IsBodyFault fault
body_length-fault headers fault said = subst IsLength said (body_length-is headers)

pub refused_by_body : (bytes : List ℕ) (fault : FramingFault) → IsBodyFault fault → HasBadBody bytes fault → IsRefused bytes fault
refused_by_body bytes Head of_body bad = absurd of_body
refused_by_body bytes LargeHead of_body bad = absurd of_body
refused_by_body bytes TransferEncoding of_body bad = bad
refused_by_body bytes ContentLength of_body bad = bad
refused_by_body bytes LargeBody of_body bad = bad
