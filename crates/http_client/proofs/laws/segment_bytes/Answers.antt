use Rattle.http_client.proofs.Segments.{segment_bytes}
use Rattle.http_client.proofs.laws.segment_bytes.Goals as goal

pub returns : goal.returns
returns c = segment_bytes
