use Rattle.std.proofs.Common.{◌≡◌, take}
use Rattle.session_peer.proofs.written.copies.Given as goal

abbrev pub invariant-loop-document : goal.invariant-loop-document
invariant-loop-document l = l.copies.items ≡ take l.document-index l.documents
