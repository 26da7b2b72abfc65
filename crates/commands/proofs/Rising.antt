-- Entries whose keys rise.
pub use Rattle.document_id.proofs.Ascending.{rises-first, rises-rest, rises-cons}
