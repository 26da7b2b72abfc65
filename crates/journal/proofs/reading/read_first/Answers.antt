use Rattle.std.proofs.Common.{◌≡◌, sym, subst, ◌∙◌}
use Rattle.std.specs.Prelude.{IfSome}
use Rattle.std.proofs.lemmas.Option.{none-some}
use Rattle.model.specs.History.{Chronicle}
use Rattle.history_dump.specs.Dump.{BeginsAt}
use Rattle.replay_cli.specs.declared.verdict.Verdict.{Verdict}
use Rattle.replay_cli.specs.declared.verdict.Verdict.TheVariants as verdict
use Rattle.journal.specs.Reading.{IsRead}
use Rattle.journal.specs.Refusing.{IsEndedBy}
use Rattle.journal.proofs.Replays.{begins, first_refused, no_entries, one_begun}
use Rattle.journal.proofs.reading.read_first.Goals as goal

pub returns-in_default-clause-judged : goal.returns-in_default-clause-judged
returns-in_default-clause-judged g c = λ synced v at is.
    let old = g.R.Read.remaining c.args.reader.now in
    let new = g.R.Read.remaining c.next_line.new.reader in
    let line = c.next_line.new.line.items in
    let none : (w : Chronicle) → BeginsAt line w → ⊥ = λ w begun. none-some w (sym c.in_default.is ∙ (c.in_ok-begun.ensures w).1 (subst (λ l. BeginsAt l w) (sym c.deref.ensures.value) begun)) in
    let refused = first_refused synced old new line c.in_ok-_whole._whole c.in_ok-_whole.ensures.kind c.in_ok-_whole.ensures.consumed none in
    let same : verdict.UnreadableLine 1 ≡ v = cc in
    let zero : 0 ≡ at = cc in
    subst (λ n. IsRead old new (IsEndedBy synced v n) × IfSome old (IsEndedBy synced v n)) zero
    (subst (λ (w : Verdict). IsRead old new (IsEndedBy synced w 0) × IfSome old (IsEndedBy synced w 0)) same refused)

pub returns-clause-begun : goal.returns-clause-begun
returns-clause-begun g c =
    let line = c.next_line.new.line.items in
    let begun = (c.in_ok-begun.ensures c.in-Some.begun).0 c.in-Some.is in
    let once : (w : Chronicle) → BeginsAt line w → w ≡ c.in-Some.begun = λ w other.
    one_begun w c.in-Some.begun (sym ((c.in_ok-begun.ensures w).1 (subst (λ l. BeginsAt l w) (sym c.deref.ensures.value) other)) ∙ c.in-Some.is) in
    begins (g.R.Read.remaining c.args.reader.now) (g.R.Read.remaining c.next_line.new.reader) line c.in-Some.begun c.in_ok-_whole.ensures.consumed
    (subst (λ l. BeginsAt l c.in-Some.begun) c.deref.ensures.value begun) once

pub returns-clause-no_entries : goal.returns-clause-no_entries
returns-clause-no_entries g c = no_entries c.deref.result.now c.in-Some.begun ((c.in_ok-begun.ensures c.in-Some.begun).0 c.in-Some.is)
