use Rattle.std.proofs.Common.{rules, ◌≡◌, ◌<◌, ◌∙◌, length, sym, ap, subst}
use Rattle.std.specs.Prelude.{true, false, nat_lt, Option, Some, option_map, Result, Ok, Err}
use Rattle.std.proofs.lemmas.Result.{on_ok_weaker}
use Rattle.model.specs.PurgeLog.{is_overrun}
use Rattle.model.specs.History.{base_of}
use Rattle.model.specs.Compaction.{touched}
use Rattle.model.specs.World.{Config, Swap, Abort, OpenCopy, database_of}
use Rattle.machine.specs.States.{State, stepped, swapped_in, state_of, open_copy}
use Rattle.machine.proofs.Ends.{sliced_in, swap_unsliced, swap_full, swap_aborts, swap_waits, swap_ends}
use Rattle.machine.proofs.machine.Machine.swap.Goals as goal

ok_err : {T E : Type 0} (x : T) (e : E) → Ok x ≡ Err e → ⊥
ok_err x e is = cc

err_same : {T E : Type 0} (x y : E) → x ≡ y → ◌≡◌ {A = Result T E} (Err x) (Err y)
err_same x y is = ap (λ e. Err e) is

pub returns-then-not-is_sliced-clause-stepped : goal.returns-then-not-is_sliced-clause-stepped
returns-then-not-is_sliced-clause-stepped c =
    let not_sliced : sliced_in c.args.self.now.world.copy ≡ false = search rules in
    sym (swap_unsliced c.args.self.now not_sliced)

pub returns-then-not-has_place-clause-stepped : goal.returns-then-not-has_place-clause-stepped
returns-then-not-has_place-clause-stepped c =
    let s = c.args.self.now in
    let full : nat_lt (length s.world.history) s.config.max_places ≡ false = search rules in
    sym (swap_full s full)

pub swap_in-requires-clause-event : goal.swap_in-requires-clause-event
swap_in-requires-clause-event c =
    let f = c.self.inside in
    let s = c.args.self.now in
    let x = c.in-Some.copying in
    let k = open_copy x in
    let st : State = state_of f.version f.config f.waiting.items f.batch.items f.views.items f.copy f.completed.items in
    let copy : s.world.copy ≡ Some k = subst (λ (t : State). t.world.copy ≡ Some k) c.self.view_is (ap (option_map open_copy) c.in-Some.is) in
    let same = ap (λ (o : Option OpenCopy). record st { world = record st.world { copy = o } }) (ap (λ (j : OpenCopy). Some j) c.finished.ensures.kept ∙ sym (ap (option_map open_copy) c.in-Some.is)) ∙ c.self.view_is in
    let sliced : sliced_in s.world.copy ≡ true = search rules in
    let room : nat_lt (length s.world.history) s.config.max_places ≡ true = search rules in
    let own : c.limits-limits.result.slack ≡ s.config.slack = ap (λ (l : Config). l.slack) c.limits-limits.ensures.limits ∙ ap (λ (t : State). t.config.slack) c.self.view_is in
    subst (λ (t : State). stepped t Swap ≡ swapped_in t x.session) (sym same)
    (swap_ends s k copy sliced room c.limits-limits.result.slack own
    (λ h. ok_err _ _ (c.in-Ok.ensures.overrun.1 (subst (λ (t : State). is_overrun (database_of (base_of t.base) t.world).purges k.marks.purge ≡ true) (sym c.self.view_is) h)))
    (λ h. ok_err _ _ (c.in-Ok.ensures.behind.1 (subst (λ (t : State). (is_overrun (database_of (base_of t.base) t.world).purges k.marks.purge ≡ false) × (c.limits-limits.result.slack < length (touched (database_of (base_of t.base) t.world) k.marks))) (sym c.self.view_is) h))))

pub returns-in-Ok-clause-stepped : goal.returns-in-Ok-clause-stepped
returns-in-Ok-clause-stepped c =
    let f = c.self.inside in
    let s = c.args.self.now in
    let x = c.in-Some.copying in
    let k = open_copy x in
    let st : State = state_of f.version f.config f.waiting.items f.batch.items f.views.items f.copy f.completed.items in
    let copy : s.world.copy ≡ Some k = subst (λ (t : State). t.world.copy ≡ Some k) c.self.view_is (ap (option_map open_copy) c.in-Some.is) in
    let same = ap (λ (o : Option OpenCopy). record st { world = record st.world { copy = o } }) (ap (λ (j : OpenCopy). Some j) c.finished.ensures.kept ∙ sym (ap (option_map open_copy) c.in-Some.is)) ∙ c.self.view_is in
    let sliced : sliced_in s.world.copy ≡ true = search rules in
    let room : nat_lt (length s.world.history) s.config.max_places ≡ true = search rules in
    let own : c.limits-limits.result.slack ≡ s.config.slack = ap (λ (l : Config). l.slack) c.limits-limits.ensures.limits ∙ ap (λ (t : State). t.config.slack) c.self.view_is in
    let ends : stepped s Swap ≡ swapped_in s x.session =
    (swap_ends s k copy sliced room c.limits-limits.result.slack own
    (λ h. ok_err _ _ (c.in-Ok.ensures.overrun.1 (subst (λ (t : State). is_overrun (database_of (base_of t.base) t.world).purges k.marks.purge ≡ true) (sym c.self.view_is) h)))
    (λ h. ok_err _ _ (c.in-Ok.ensures.behind.1 (subst (λ (t : State). (is_overrun (database_of (base_of t.base) t.world).purges k.marks.purge ≡ false) × (c.limits-limits.result.slack < length (touched (database_of (base_of t.base) t.world) k.marks))) (sym c.self.view_is) h)))) in
    on_ok_weaker c.swap_in.result (λ h. h ∙ ap (λ (t : State). swapped_in t x.session) same ∙ sym ends) c.swap_in.ensures.stepped

pub returns-in-Err-Overrun-clause-stepped : goal.returns-in-Err-Overrun-clause-stepped
returns-in-Err-Overrun-clause-stepped c =
    let f = c.self.inside in
    let s = c.args.self.now in
    let x = c.in-Some.copying in
    let k = open_copy x in
    let st : State = state_of f.version f.config f.waiting.items f.batch.items f.views.items f.copy f.completed.items in
    let copy : s.world.copy ≡ Some k = subst (λ (t : State). t.world.copy ≡ Some k) c.self.view_is (ap (option_map open_copy) c.in-Some.is) in
    let same = ap (λ (o : Option OpenCopy). record st { world = record st.world { copy = o } }) (ap (λ (j : OpenCopy). Some j) c.finished.ensures.kept ∙ sym (ap (option_map open_copy) c.in-Some.is)) ∙ c.self.view_is in
    let sliced : sliced_in s.world.copy ≡ true = search rules in
    let room : nat_lt (length s.world.history) s.config.max_places ≡ true = search rules in
    c.abort.ensures ∙ ap (λ (t : State). stepped t Abort) same
    ∙ sym (swap_aborts s k copy sliced room (subst (λ (t : State). is_overrun (database_of (base_of t.base) t.world).purges k.marks.purge ≡ true) c.self.view_is (c.in-Err-Overrun.ensures.overrun.0 (err_same _ _ c.in-Err-Overrun.field-0-is))))

pub returns-in-Err-Behind-clause-stepped : goal.returns-in-Err-Behind-clause-stepped
returns-in-Err-Behind-clause-stepped c =
    let f = c.self.inside in
    let s = c.args.self.now in
    let x = c.in-Some.copying in
    let k = open_copy x in
    let st : State = state_of f.version f.config f.waiting.items f.batch.items f.views.items f.copy f.completed.items in
    let copy : s.world.copy ≡ Some k = subst (λ (t : State). t.world.copy ≡ Some k) c.self.view_is (ap (option_map open_copy) c.in-Some.is) in
    let same = ap (λ (o : Option OpenCopy). record st { world = record st.world { copy = o } }) (ap (λ (j : OpenCopy). Some j) c.finished.ensures.kept ∙ sym (ap (option_map open_copy) c.in-Some.is)) ∙ c.self.view_is in
    let sliced : sliced_in s.world.copy ≡ true = search rules in
    let room : nat_lt (length s.world.history) s.config.max_places ≡ true = search rules in
    let own : c.limits-limits.result.slack ≡ s.config.slack = ap (λ (l : Config). l.slack) c.limits-limits.ensures.limits ∙ ap (λ (t : State). t.config.slack) c.self.view_is in
    same ∙ sym (swap_waits s k copy sliced room c.limits-limits.result.slack own (subst (λ (t : State). (is_overrun (database_of (base_of t.base) t.world).purges k.marks.purge ≡ false) × (c.limits-limits.result.slack < length (touched (database_of (base_of t.base) t.world) k.marks))) c.self.view_is (c.in-Err-Behind.ensures.behind.0 (err_same _ _ c.in-Err-Behind.field-0-is))))
