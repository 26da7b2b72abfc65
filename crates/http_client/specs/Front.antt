-- What the bytes that have come begin with.
use Rattle.std.specs.Prelude.{ℕ, ◌<◌, List, ◌++◌, length, drop}
use Rattle.httparse.specs.Spans.{span_bytes, IsWithin}
use Rattle.http_client.specs.Response.{Response, BeginsWithResponse, IsUnfinished, IsUnreadable}
use Rattle.http_client.specs.declared.front.ResponseSpans.{ResponseSpans}
use Rattle.http_client.specs.declared.front.Front.{Front}
use Rattle.http_client.specs.declared.front.Front.TheVariants as front

-- the response whose body the span covers
abbrev pub response_at : List ℕ → ResponseSpans → Response
response_at bytes spans = record { status = spans.status; body = span_bytes bytes spans.body }

-- the spans cover the response that the bytes begin with, up to the end of its body
pub record IsResponseAt (bytes : List ℕ) (spans : ResponseSpans) : Type 0 where
  pub begins : BeginsWithResponse bytes (response_at bytes spans) (drop spans.body.end bytes)
  pub body : IsWithin (length bytes) spans.body

-- the response is unfinished until `more` further bytes have come
pub record NeedsMore (bytes : List ℕ) (more : ℕ) : Type 0 where
  pub some : 0 < more
  pub unfinished : (further : List ℕ) → length further < more → IsUnfinished (bytes ++ further)

-- what the bytes begin with
abbrev pub IsFrontOf : List ℕ → Front → Type 0
IsFrontOf bytes (front.Response spans) = IsResponseAt bytes spans
IsFrontOf bytes (front.More more) = NeedsMore bytes more
IsFrontOf bytes front.Unreadable = IsUnreadable bytes
