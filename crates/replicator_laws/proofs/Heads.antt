-- The text of a request is one request.
use Rattle.std.proofs.Common.{◌≡◌, ℕ, ◌^◌, ◌<◌, ◌≤◌, true, false, List, [], ◌∷◌, ◌++◌, length, reverse, decimal, refl, sym, ap, ◌∙◌, arith, append_assoc, append-nil, length-append, Ok, All, rules, lit<, lit≤}
use Rattle.std.specs.Prelude.{codes}
use Rattle.std.specs.Char.{is_ascii_digit}
use Rattle.std.specs.List.{list_all}
use Rattle.std.specs.Str.Parse.{digits_value}
use Rattle.std.proofs.lemmas.Bool.{cond-false, le-leb, lt-ltb}
use Rattle.std.proofs.lemmas.Bool.Decides.{nat_tests}
use Rattle.std.proofs.lemmas.Fmt.{decimal_is_IsNumeral, digits_decimal, length-decimal-le, decimal_nonempty}
use Rattle.std.proofs.lemmas.Str.Parse.{IsNumeralModel, numerals_by_value}
use Rattle.std.proofs.lemmas.List.Elements.{All-nil, All-cons, All-head, All-weaker}
use Rattle.std.proofs.lemmas.List.Sums.{AllPass-from_list_all}
use Rattle.httparse.specs.Grammar.{AllPass, IsToken, Field, IsField, RequestHead, print_request, crlf, trim_ows, skip_ows, is_ows, is_value_byte, is_token_byte}
use Rattle.httparse.proofs.GrammarLemmas.{print_request-append}
use Rattle.httparse.proofs.TrimLemmas.{AllPass-reverse, trim_ows_space}
use Rattle.httparse.proofs.OnLiterals.{httparse_on_literals}
use Rattle.http_framing.specs.Body.{body_length, body_limit, length_said}
use Rattle.http_framing.specs.Headers.{headers_of, values_named}
use Rattle.http_framing.specs.Request.{BeginsWithRequest, closes_after}
use Rattle.http_client.specs.Request.{request_text}
use Rattle.replicator_laws.specs.Framing.{IsHost, IsMethod, IsTarget, request_with}

-- ---- the head

abbrev named : List ℕ → Field
named host = record { name = codes "Host"; raw = 32 ∷ host; end = crlf }

abbrev accept : Field
accept = record { name = codes "Accept"; raw = codes " application/json"; end = crlf }

abbrev content_length : List ℕ → Field
content_length len = record { name = codes "Content-Length"; raw = 32 ∷ len; end = crlf }

abbrev head_of : List ℕ → List ℕ → List ℕ → List ℕ → RequestHead
head_of host method target len = record {
  blank = [];
  method = method;
  target = target;
  minor = 1;
  line_end = crlf;
  fields = named host ∷ accept ∷ content_length len ∷ [];
  last = crlf;
}

-- the headers between the host and the length of the body
abbrev between : List ℕ
between = codes "Accept: application/json\r\nContent-Length: "

last_lines : (host a len body : List ℕ)
    → (((host ++ 13 ∷ 10 ∷ []) ++ (a ++ ((len ++ 13 ∷ 10 ∷ []) ++ []))) ++ 13 ∷ 10 ∷ []) ++ body ≡ host ++ 13 ∷ 10 ∷ (a ++ (len ++ 13 ∷ 10 ∷ 13 ∷ 10 ∷ body))
last_lines host a len body = simp (append_assoc, append-nil)

-- a head and a body, in the order of their parts
abbrev laid_out : List ℕ → List ℕ → List ℕ → List ℕ → List ℕ → List ℕ
laid_out host method target len body =
    method ++ (codes " " ++ (target ++ (codes " HTTP/1.1\r\nHost: " ++ (host ++ 13 ∷ 10 ∷ (between ++ (len ++ 13 ∷ 10 ∷ 13 ∷ 10 ∷ body))))))

printed : (host method target len body : List ℕ) → laid_out host method target len body ≡ print_request (head_of host method target len) ++ body
printed host method target len body =
    sym (print_request-append (head_of host method target len) body
    ∙ ap (λ t. method ++ (codes " " ++ (target ++ (codes " HTTP/1.1\r\nHost: " ++ t)))) (last_lines host between len body))

text-printed : (host method target body : List ℕ)
    → request_text host method target body ≡ print_request (head_of host method target (decimal (length body))) ++ body
text-printed host method target body = printed host method target (decimal (length body)) body

-- ---- the length of the body

own : IsNumeralModel (λ ds. list_all is_ascii_digit ds ≡ true) (digits_value 10)
own = numerals_by_value _ (search rules)

pub digits : (n : ℕ) → n < 2 ^ 64 → AllPass is_ascii_digit (decimal n)
digits n small = AllPass-from_list_all is_ascii_digit (decimal n) (digits_decimal own n small)

digit_of_value : (b : ℕ) → is_ascii_digit b ≡ true → is_value_byte b ≡ true
digit_of_value b h = grind (arith, nat_tests)

digit_is_ink : (b : ℕ) → is_ascii_digit b ≡ true → is_ows b ≡ false
digit_is_ink b h = grind (arith, nat_tests)

skip-digits : (ds : List ℕ) → AllPass is_ascii_digit ds → skip_ows ds ≡ ds
skip-digits [] h = refl
skip-digits (d ∷ ds) h = cond-false _ _ _ (digit_is_ink d (All-head (λ b. is_ascii_digit b ≡ true) d ds h))

trimmed : (n : ℕ) → n < 2 ^ 64 → trim_ows (32 ∷ decimal n) ≡ decimal n
trimmed n small =
    trim_ows_space (decimal n) (skip-digits (decimal n) (digits n small)) (skip-digits (reverse (decimal n)) (AllPass-reverse is_ascii_digit (decimal n) (digits n small)))

said : (n : ℕ) → n ≤ body_limit → length_said (decimal n) ≡ Ok n
unfolding length_said
said n fits =
    let small : n < 2 ^ 64 = omega arith in
    let value = (decimal_is_IsNumeral n small).1 in
    rw (lt-ltb 0 (length (decimal n)) (decimal_nonempty n small), digits_decimal own n small, value, le-leb n body_limit fits) refl

told : (host method target len : List ℕ) → body_length (headers_of (head_of host method target len)) ≡ length_said (trim_ows (32 ∷ len))
unfolding body_length values_named
told host method target len = refl

stays : (host method target len : List ℕ) → closes_after 1 (headers_of (head_of host method target len)) ≡ false
stays host method target len = refl

-- ---- the whole

sized : (host method target len : List ℕ) → length host ≤ 259 → length method ≤ 8 → length target ≤ 16000 → length len ≤ 20
    → length (print_request (head_of host method target len)) ≤ 16384
sized host method target len h a b c =
    let whole = ap length (printed host method target len [] ∙ append-nil (print_request (head_of host method target len))) in
    let behind = 13 ∷ 10 ∷ (between ++ (len ++ 13 ∷ 10 ∷ 13 ∷ 10 ∷ [])) in
    let first = length-append method (codes " " ++ (target ++ (codes " HTTP/1.1\r\nHost: " ++ (host ++ behind)))) in
    let second = length-append target (codes " HTTP/1.1\r\nHost: " ++ (host ++ behind)) in
    let third = length-append host behind in
    let fourth = length-append len (13 ∷ 10 ∷ 13 ∷ 10 ∷ []) in
    omega (arith, whole, first, second, third, fourth, h, a, b, c)

token : (bytes : List ℕ) → list_all is_token_byte bytes ≡ true → 0 < length bytes → IsToken bytes
token bytes h some = (some, AllPass-from_list_all is_token_byte bytes h)

is_named : (host : List ℕ) → AllPass is_value_byte host → IsField (named host)
unfolding httparse_on_literals
is_named host h = record {
  name = token (codes "Host") refl (lit< tt);
  raw = All-cons (λ b. is_value_byte b ≡ true) 32 host refl h;
}

is_accept : IsField accept
unfolding httparse_on_literals
is_accept = record { name = token (codes "Accept") refl (lit< tt); raw = AllPass-from_list_all is_value_byte (codes " application/json") refl }

is_content_length : (len : List ℕ) → AllPass is_value_byte len → IsField (content_length len)
unfolding httparse_on_literals
is_content_length len h = record {
  name = token (codes "Content-Length") refl (lit< tt);
  raw = All-cons (λ b. is_value_byte b ≡ true) 32 len refl h;
}

are_fields : (host len : List ℕ) → AllPass is_value_byte host → AllPass is_value_byte len → All IsField (named host ∷ accept ∷ content_length len ∷ [])
are_fields host len host_is h =
    All-cons IsField (named host) (accept ∷ content_length len ∷ []) (is_named host host_is)
    (All-cons IsField accept (content_length len ∷ []) is_accept
    (All-cons IsField (content_length len) [] (is_content_length len h) (All-nil IsField)))

pub framed : (host method target body : List ℕ) → IsHost host → IsMethod method → IsTarget target → length body ≤ body_limit
    → BeginsWithRequest (request_text host method target body) (request_with method target body) []
framed host method target body is_host is_method is_target fits =
    let n = length body in
    let small : n < 2 ^ 64 = omega arith in
    let len = decimal n in
    let plain = All-weaker (λ b. is_ascii_digit b ≡ true) (λ b. is_value_byte b ≡ true) digit_of_value len (digits n small) in (
      head_of host method target len,
      record {
        reads = (
          record {
            method = is_method.token;
            target = (is_target.not_empty, is_target.bytes);
            target_text = is_target.text;
            minor = lit≤ tt;
            fields = are_fields host len is_host.bytes plain;
          },
          text-printed host method target body ∙ ap (λ b. print_request (head_of host method target len) ++ b) (sym (append-nil body)),
        );
        size = sized host method target len is_host.short is_method.short is_target.short (length-decimal-le 20 n (lit< tt) (omega arith) small);
        headers = lit≤ tt;
      },
      record {
        method = refl;
        target = refl;
        body = told host method target len ∙ ap length_said (trimmed n small) ∙ said n fits;
        closes = sym (stays host method target len);
      },
    )
