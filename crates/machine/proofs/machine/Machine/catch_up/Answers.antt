use Rattle.std.proofs.Common.{rules, ◌≡◌, ◌==◌, ◌∙◌, take, not, sym, ap, subst}
use Rattle.std.specs.Prelude.{true, false, Bool, Option, Some, option_map, MatchBool}
use Rattle.model.specs.PurgeLog.{is_overrun}
use Rattle.model.specs.History.{base_of, now}
use Rattle.model.specs.Compaction.{passed, touched}
use Rattle.model.specs.World.{CatchUp, Abort, OpenCopy, database_of}
use Rattle.machine.specs.declared.copying.Copying.{Copying}
use Rattle.machine.specs.States.{State, stepped, state_of, open_copy}
use Rattle.machine.proofs.Ends.{sliced_in, catch_up_unsliced}
use Rattle.machine.proofs.KeptCopies.{catch_up_stepped}
use Rattle.machine.proofs.NextCopies.{catch_up_next}
use Rattle.machine.proofs.Steps.{catch_up_overrun}
use Rattle.machine.proofs.machine.Machine.catch_up.Goals as goal

pub returns-then-not-is_sliced-clause-stepped : goal.returns-then-not-is_sliced-clause-stepped
returns-then-not-is_sliced-clause-stepped c =
    let not_sliced : sliced_in c.args.self.now.world.copy ≡ false = search rules in
    sym (catch_up_unsliced c.args.self.now c.args.n not_sliced)

pub invariant_of-self-then-goes : goal.invariant_of-self-then-goes
invariant_of-self-then-goes c =
    let f = c.self.inside in
    let x = c.in-Some.copying in
    let y = c.caught_up.new.copying in
    let sliced : sliced_in c.args.self.now.world.copy ≡ true = search rules in
    let mine : (x.compaction.left == 0) ≡ true = subst (λ (o : Option Copying). sliced_in (option_map open_copy o) ≡ true) c.in-Some.is (subst (λ (t : State). sliced_in t.world.copy ≡ true) (sym c.self.view_is) sliced) in
    let fresh : is_overrun (now f.version).purges x.compaction.marks.purge ≡ false = sym c.in_ok-goes.ensures.overrun ∙ ap not c.if-goes.true in
    let passes : open_copy y ≡ record (open_copy x) { marks = passed x.compaction.marks (take c.args.n (touched (now f.version) x.compaction.marks)) } = subst (λ (b : Bool). MatchBool b (open_copy y ≡ record (open_copy x) { marks = passed x.compaction.marks (take c.args.n (touched (now f.version) x.compaction.marks)) }) (open_copy y ≡ open_copy x)) c.if-goes.true c.in_ok-goes.ensures.passed in
    catch_up_next f.version f.config f.waiting.items f.batch.items f.views.items f.copy f.completed.items c.args.n x y c.in-Some.is mine fresh passes c.caught_up.ensures.follows c.self.invariant

pub returns-then-goes-clause-stepped : goal.returns-then-goes-clause-stepped
returns-then-goes-clause-stepped c =
    let f = c.self.inside in
    let x = c.in-Some.copying in
    let y = c.caught_up.new.copying in
    let sliced : sliced_in c.args.self.now.world.copy ≡ true = search rules in
    let mine : (x.compaction.left == 0) ≡ true = subst (λ (o : Option Copying). sliced_in (option_map open_copy o) ≡ true) c.in-Some.is (subst (λ (t : State). sliced_in t.world.copy ≡ true) (sym c.self.view_is) sliced) in
    let fresh : is_overrun (now f.version).purges x.compaction.marks.purge ≡ false = sym c.in_ok-goes.ensures.overrun ∙ ap not c.if-goes.true in
    let passes : open_copy y ≡ record (open_copy x) { marks = passed x.compaction.marks (take c.args.n (touched (now f.version) x.compaction.marks)) } = subst (λ (b : Bool). MatchBool b (open_copy y ≡ record (open_copy x) { marks = passed x.compaction.marks (take c.args.n (touched (now f.version) x.compaction.marks)) }) (open_copy y ≡ open_copy x)) c.if-goes.true c.in_ok-goes.ensures.passed in
    catch_up_stepped f.version f.config f.waiting.items f.batch.items f.views.items f.copy f.completed.items c.args.n x y c.in-Some.is mine fresh passes
    ∙ ap (λ (t : State). stepped t (CatchUp c.args.n)) c.self.view_is

pub returns-clause-stepped : goal.returns-clause-stepped
returns-clause-stepped c =
    let f = c.self.inside in
    let s = c.args.self.now in
    let x = c.in-Some.copying in
    let y = c.caught_up.new.copying in
    let sliced : sliced_in s.world.copy ≡ true = search rules in
    let mine : (x.compaction.left == 0) ≡ true = subst (λ (o : Option Copying). sliced_in (option_map open_copy o) ≡ true) c.in-Some.is (subst (λ (t : State). sliced_in t.world.copy ≡ true) (sym c.self.view_is) sliced) in
    let over : is_overrun (now f.version).purges x.compaction.marks.purge ≡ true = sym c.in_ok-goes.ensures.overrun ∙ ap not c.if-goes.false in
    let kept : open_copy y ≡ open_copy x = subst (λ (b : Bool). MatchBool b (open_copy y ≡ record (open_copy x) { marks = passed x.compaction.marks (take c.args.n (touched (now f.version) x.compaction.marks)) }) (open_copy y ≡ open_copy x)) c.if-goes.false c.in_ok-goes.ensures.passed in
    let st : State = state_of f.version f.config f.waiting.items f.batch.items f.views.items f.copy f.completed.items in
    let copy : s.world.copy ≡ Some (open_copy x) = subst (λ (t : State). t.world.copy ≡ Some (open_copy x)) c.self.view_is (ap (option_map open_copy) c.in-Some.is) in
    c.abort.ensures
    ∙ ap (λ (o : Option OpenCopy). stepped (record st { world = record st.world { copy = o } }) Abort) (ap (λ (k : OpenCopy). Some k) kept ∙ sym (ap (option_map open_copy) c.in-Some.is))
    ∙ ap (λ (t : State). stepped t Abort) c.self.view_is
    ∙ sym (catch_up_overrun s c.args.n (open_copy x) copy mine (subst (λ (t : State). is_overrun (database_of (base_of t.base) t.world).purges x.compaction.marks.purge ≡ true) c.self.view_is over))
