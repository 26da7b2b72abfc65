-- The definitions, computed: small histories, what is answered and what is left.
mod Fixtures
mod Limits
mod Digests
mod Edits
mod Merges
mod Documents
mod Feeds
mod LocalDocuments
mod Purges
mod Compactions
mod Interleavings
