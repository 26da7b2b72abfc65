-- What the front of a connection's bytes is.
use Rattle.std.specs.Prelude.{◌≡◌, ℕ, ◌+◌, ◌<◌, ◌≤◌, List, ◌++◌, length, take, drop}
use Rattle.httparse.specs.Spans.{span_bytes, IsWithin}
use Rattle.http_framing.specs.Request.{head_limit, Request, BeginsWithRequest}
use Rattle.http_framing.specs.Refusal.{IsRefused}
use Rattle.http_framing.specs.Input.{request_limit, IsUnfinished}
use Rattle.http_framing.specs.declared.front.RequestSpans.{RequestSpans}
use Rattle.http_framing.specs.declared.front.Front.{Front}
use Rattle.http_framing.specs.declared.front.Front.TheVariants as front

-- the first bytes of those in which a head has to end
abbrev pub IsFrontOfWindow : List ℕ → List ℕ → Type 0
IsFrontOfWindow front bytes = (n : ℕ) × (n ≤ head_limit) × (front ≡ take n bytes)

-- the request whose parts the spans cover
abbrev pub request_at : List ℕ → RequestSpans → Request
request_at bytes spans = record {
  method = span_bytes bytes spans.method;
  target = span_bytes bytes spans.target;
  body = span_bytes bytes spans.body;
  closes = spans.closes;
}

-- the spans cover the request that the bytes begin with, up to the end of its body
pub record IsRequestAt (bytes : List ℕ) (spans : RequestSpans) : Type 0 where
  pub begins : BeginsWithRequest bytes (request_at bytes spans) (drop spans.body.end bytes)
  pub method : IsWithin (length bytes) spans.method
  pub target : IsWithin (length bytes) spans.target
  pub body : IsWithin (length bytes) spans.body
  pub takes : 0 < spans.body.end

-- the request is unfinished until `more` further bytes have come, for which the limit leaves room
pub record NeedsMore (bytes : List ℕ) (more : ℕ) : Type 0 where
  pub some : 0 < more
  pub unfinished : (further : List ℕ) → length further < more → IsUnfinished (bytes ++ further)
  pub limit : length bytes + more ≤ request_limit

-- what the bytes begin with
abbrev pub IsFrontOf : List ℕ → Front → Type 0
IsFrontOf bytes (front.Request spans) = IsRequestAt bytes spans
IsFrontOf bytes (front.Refused fault) = IsRefused bytes fault
IsFrontOf bytes (front.More more) = NeedsMore bytes more
