use Rattle.std.specs.Prelude.{◌≡◌, ◌-◌, length}
use Rattle.std.proofs.Common.{ap, sym, subst, ◌∙◌}
use Rattle.model.specs.Database.{Database}
use Rattle.model.specs.History.{Chronicle, now}
use Rattle.model.specs.PurgeLog.{is_overrun}
use Rattle.model.specs.Compaction.{Marks, touched}
use Rattle.snapshots.specs.Listing.{Listing}
use Rattle.compactor.specs.Copy.{IsCopy}
use Rattle.compactor.proofs.Copies.{none-left, marks-seen, taken-seen, lags, coherent-later, upto-later, some-touched, IsCopy-caught_up}
use Rattle.compactor.proofs.compaction.Compaction.catch_up.Goals as goal

pub caught_up-outcome-requires-clause-coherent : goal.caught_up-outcome-requires-clause-coherent
caught_up-outcome-requires-clause-coherent c =
    let f = c.self.inside in
    let g = lags c.args.version.now f.seen f.last f.left f.update_mark f.purge_mark f.visited f.records c.args.self.now c.self.view_is c.requires.sliced c.requires.follows c.self.invariant c.place-recalled.ensures.history in
    coherent-later c.args.version.now f.records _ g

pub caught_up-outcome-requires-clause-upto : goal.caught_up-outcome-requires-clause-upto
caught_up-outcome-requires-clause-upto c =
    let f = c.self.inside in
    let g = lags c.args.version.now f.seen f.last f.left f.update_mark f.purge_mark f.visited f.records c.args.self.now c.self.view_is c.requires.sliced c.requires.follows c.self.invariant c.place-recalled.ensures.history in
    upto-later c.args.version.now f.records _ g

pub invariant_of-self-2 : goal.invariant_of-self-2
invariant_of-self-2 c =
    let f = c.self.inside in
    let r = c.in_ok-taken.taken in
    let later : Chronicle = c.args.version.now in
    let m : Marks = record { update = f.update_mark; purge = f.purge_mark } in
    let marks : Marks = record { update = r.update_mark; purge = r.purge_mark } in
    let g = lags later f.seen f.last f.left f.update_mark f.purge_mark f.visited f.records c.args.self.now c.self.view_is c.requires.sliced c.requires.follows c.self.invariant c.place-recalled.ensures.history in
    let none : f.left ≡ 0 = none-left f.seen f.left f.update_mark f.purge_mark f.visited f.records.docs c.args.self.now c.self.view_is c.requires.sliced in
    let within = some-touched (is_overrun (now later).purges m.purge) (length (touched (now later) m)) c.in-Some.touched c.in-Some.ensures in
    let database = c.place-recalled-2.ensures.history.database in
    let caught = IsCopy-caught_up later f.records m g database.numbered database.log.numbered within.0 c.args.n f.last r.records marks c.in_ok-taken.ensures.taken c.in_ok-taken.ensures.marks c.in_ok-taken.ensures.coherent in
    subst (λ (h : Chronicle). IsCopy (now h) f.last f.left r.records marks) (sym c.in_ok-taken.ensures.seen) (subst (λ n. IsCopy (now later) f.last n r.records marks) (sym none) caught)

pub returns-clause-left : goal.returns-clause-left
returns-clause-left c =
    let f = c.self.inside in
    let m : Marks = record { update = f.update_mark; purge = f.purge_mark } in
    let new : Database = now c.args.version.now in
    let counted = some-touched (is_overrun new.purges m.purge) (length (touched new m)) c.in-Some.touched c.in-Some.ensures in
    c.saturating_sub.ensures ∙ ap (λ k. k - c.args.n) counted.1 ∙ ap (λ (k : Marks). length (touched new k) - c.args.n) (marks-seen f.seen f.left f.update_mark f.purge_mark f.visited f.records.docs c.args.self.now c.self.view_is c.requires.sliced)

pub returns-clause-taken : goal.returns-clause-taken
returns-clause-taken c =
    let f = c.self.inside in
    taken-seen f.seen f.left f.update_mark f.purge_mark f.visited f.records.docs c.args.self.now c.self.view_is c.requires.sliced (now c.args.version.now) c.args.n c.in_ok-taken.seen c.in_ok-taken.taken.records.docs (ap (λ (l : Listing). l.docs) c.in_ok-taken.ensures.taken)
