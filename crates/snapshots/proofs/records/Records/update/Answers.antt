use Rattle.std.proofs.Common.{◌+◌, ap, ◌∙◌, arith}
use Rattle.model.specs.Map.{get}
use Rattle.model.specs.Database.{Record}
use Rattle.snapshots.specs.Listing.{Listing, placed}
use Rattle.snapshots.proofs.records.Records.update.Goals as goal

pub placed-requires-clause-free : goal.placed-requires-clause-free
placed-requires-clause-free c other r has same =
    let within = c.self.invariant.numbers.within other r (ap (λ (l : Listing). get l.docs other) c.self.view_is ∙ has) in
    absurd (omega (arith, within.1, same, ap (λ (x : Record). x.seq) c.new.ensures))

pub returns : goal.returns
returns c =
    c.in_ok-updated.ensures
    ∙ ap (λ (r : Record). placed c.args.self c.args.id.now r (c.self.inside.update_seq + 1)) c.new.ensures
    ∙ ap (λ n. placed c.args.self c.args.id.now (record { tree = c.args.tree; seq = n + 1 }) (n + 1)) (ap (λ (l : Listing). l.update_seq) c.self.view_is)
