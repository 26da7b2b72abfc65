-- What the window begins with.
use Rattle.std.proofs.Common.{◌≡◌, ℕ, ◌+◌, ◌<◌, ◌≤◌, List, [], ◌++◌, length, drop, refl, ◌∙◌, ap, sym, subst, arith, length-append}
use Rattle.http_framing.specs.Grammar.{RequestHead, print_request}
use Rattle.http_framing.specs.Request.{Request, BeginsWithRequest}
use Rattle.http_framing.specs.Refusal.{IsRefused}
use Rattle.http_framing.specs.Input.{Requested, Refused, Begins, IsUnfinished}
use Rattle.http_framing.specs.Front.{IsRequestAt, NeedsMore, request_at}
use Rattle.http_framing.specs.declared.FramingFault.{FramingFault}
use Rattle.http_framing.specs.declared.front.RequestSpans.{RequestSpans}

-- the request whose spans were found, by what two looks at the window show
pub begins-request : (window : List ℕ) {bytes again : List ℕ} {spans : RequestSpans} {request : Request} (after : List ℕ) → bytes ≡ window → again ≡ window
    → IsRequestAt bytes spans → request ≡ request_at again spans → after ≡ drop spans.body.end window → Begins window (Requested request) after
begins-request window {spans = spans} {request = request} after is is_too at e rest =
    let asked : request ≡ request_at window spans = e ∙ ap (λ (b : List ℕ). request_at b spans) is_too in
    let there = subst (λ (b : List ℕ). IsRequestAt b spans) is at in
    let begins = subst (λ (r : Request). BeginsWithRequest window r (drop spans.body.end window)) (sym asked) there.begins in
    subst (BeginsWithRequest window request) (sym rest) begins

pub begins-refused : (window : List ℕ) {bytes : List ℕ} (fault : FramingFault) → bytes ≡ window → IsRefused bytes fault → Begins window (Refused fault) []
begins-refused window fault is refused = (subst (λ (b : List ℕ). IsRefused b fault) is refused, refl)

-- a head has two spaces
two_bytes : (head : RequestHead) → 2 ≤ length (print_request head)
unfolding print_request
two_bytes head = simp length-append (omega arith)

pub length-after : (bytes : List ℕ) (request : Request) (after : List ℕ) → BeginsWithRequest bytes request after → length after + 2 ≤ length bytes
length-after bytes request after (head, begins, asked) =
    omega (arith, ap length begins.reads.1, length-append (print_request head) (request.body ++ after), length-append request.body after, two_bytes head)

-- fewer bytes came than are needed
pub unfinished : (window : List ℕ) {bytes more : List ℕ} {n : ℕ} (piece : List ℕ) → NeedsMore bytes n → bytes ≡ window → more ≡ window ++ piece
    → length more < length window + n → IsUnfinished more
unfinished window {n = n} piece needs is e less =
    let short : length piece < n = omega (arith, ap length e, length-append window piece) in
    subst IsUnfinished (ap (λ (b : List ℕ). b ++ piece) is ∙ sym e) (needs.unfinished piece short)
