use Rattle.std.specs.Prelude.{◌≡◌, None}
use Rattle.std.specs.Ordering.{nat_cmp}
use Rattle.std.specs.FinMap.Entries.{find}
use Rattle.std.proofs.Common.{ap, arith, rules, sym}
use Rattle.std.proofs.lemmas.Bool.{true≢false}
use Rattle.snapshots.specs.Listing.{Listing}
use Rattle.snapshots.proofs.Documents.{free, unused}
use Rattle.snapshots.proofs.records.Records.is_free.Goals as goal

pub returns-then-seq-eq0 : goal.returns-then-seq-eq0
returns-then-seq-eq0 c = (λ e. absurd (true≢false (sym e)), λ h. absurd (omega (arith, h.0)))

pub returns-then-seq-last : goal.returns-then-seq-last
returns-then-seq-last c = (λ e. absurd (true≢false (sym e)), λ h. absurd (omega (arith, h.1, ap (λ (l : Listing). l.update_seq) c.self.view_is)))

pub returns : goal.returns
returns c =
    let es = c.self.inside.by_id.entries in
    let numbered = c.self.inside.by_number.entries in
    let number = ap (λ (l : Listing). l.update_seq) c.self.view_is in (
      λ e. (
        omega arith,
        omega (arith, number),
        let none : find nat_cmp c.args.seq numbered ≡ None = search rules in free es numbered c.self.inside.live c.self.inside.update_seq c.args.self.now c.self.invariant c.self.view_is c.args.seq none,
      ),
      λ h. let none : find nat_cmp c.args.seq numbered ≡ None = unused es numbered c.self.inside.live c.self.inside.update_seq c.args.self.now c.self.invariant c.self.view_is c.args.seq h.2 in search rules,
    )
