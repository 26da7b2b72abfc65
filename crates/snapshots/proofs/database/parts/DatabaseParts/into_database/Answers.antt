use Rattle.std.specs.Prelude.{◌≡◌, ◌↔◌, Some}
use Rattle.std.proofs.Common.{◌∙◌, ap, arith, subst, sym}
use Rattle.std.proofs.lemmas.Bool.{true≢false}
use Rattle.std.proofs.lemmas.Option.{none-some}
use Rattle.model.specs.PurgeLog.{PurgeLog}
use Rattle.snapshots.specs.Database.{database_with}
use Rattle.snapshots.proofs.Epochs.{made_only, refused}
use Rattle.snapshots.proofs.Reading.{Fits, Fits-made, documents_of, listing_at, locals_of, made, made-is, purges_of, range_of}
use Rattle.snapshots.proofs.database.parts.DatabaseParts.into_database.Goals as goal

pub returns-then-not-are_in_range : goal.returns-then-not-are_in_range
returns-then-not-are_in_range c = λ d. (
  λ e. absurd (none-some d e),
  λ h. absurd (true≢false (sym (c.are_in_range.ensures.1 (range_of c.args.self d h)) ∙ c.if-not-are_in_range.true)),
)

pub returns-in_default : goal.returns-in_default
returns-in_default c = λ d. refused c.in_ok-documents.field-0 (listing_at c.args.self d) d c.in_default.is (λ h. (c.in_ok-documents.ensures.listed (listing_at c.args.self d)).1 (documents_of c.args.self d h))

pub returns-in_default-2 : goal.returns-in_default-2
returns-in_default-2 c = λ d. refused c.in_ok-locals.field-0 d.locals d c.in_default-2.is (λ h. (c.in_ok-locals.ensures.listed d.locals).1 (locals_of c.args.self d h))

pub returns-in_default-3 : goal.returns-in_default-3
returns-in_default-3 c = λ d. refused c.in_ok-purges.field-0 d.purges d c.in_default-3.is (λ h. (c.in_ok-purges.ensures.listed d.purges).1 (purges_of c.args.self d h))

pub invariant_of-result : goal.invariant_of-result
invariant_of-result c =
    let range = c.are_in_range.ensures.0 c.if-not-are_in_range.false in
    let documents = (c.in_ok-documents.ensures.listed c.in-Some.documents).0 c.in-Some.is in
    let purges = (c.in_ok-purges.ensures.listed c.in-Some-3.purges).0 c.in-Some-3.is in
    record { revisions = range.revs_limit.0; updates = omega (arith, range.updates, documents.0); purges = omega (arith, range.purges, ap (λ (l : PurgeLog). l.purge_seq) purges.0) }

pub returns : goal.returns
returns c = λ d.
    let parts = c.args.self in
    let range = c.are_in_range.ensures.0 c.if-not-are_in_range.false in
    let documents = c.in-Some.documents in
    let locals = c.in-Some-2.locals in
    let purges = c.in-Some-3.purges in
    subst (λ calls. (Some (database_with documents locals purges parts.revs_limit calls) ≡ Some d) ↔ Fits parts d) (sym c.new.ensures)
    (made_only (Fits parts) (made parts documents locals purges) d
    (Fits-made parts documents locals purges range
    ((c.in_ok-documents.ensures.listed documents).0 c.in-Some.is)
    ((c.in_ok-locals.ensures.listed locals).0 c.in-Some-2.is)
    ((c.in_ok-purges.ensures.listed purges).0 c.in-Some-3.is))
    (λ h. made-is parts documents locals purges d h
    (sym c.in-Some.is ∙ (c.in_ok-documents.ensures.listed (listing_at parts d)).1 (documents_of parts d h))
    (sym c.in-Some-2.is ∙ (c.in_ok-locals.ensures.listed d.locals).1 (locals_of parts d h))
    (sym c.in-Some-3.is ∙ (c.in_ok-purges.ensures.listed d.purges).1 (purges_of parts d h))))
