use Rattle.std.proofs.Common.{rules, ◌≡◌, ◌+◌, ◌&&◌, ◌∙◌, List, length, sym, ap, subst}
use Rattle.std.specs.Prelude.{true, false, nat_lt, nat_le}
use Rattle.machine.specs.States.{State, stepped, state_of}
use Rattle.model.specs.Command.{Job}
use Rattle.model.specs.History.{Chronicle, now, extended, batch_entries}
use Rattle.machine.specs.Events.{wrote_from}
use Rattle.updater.specs.Batches.{MayFollow}
use Rattle.model.specs.World.{Put}
use Rattle.machine.specs.declared.completed.Completed.{Completed}
use Rattle.machine.specs.Views.{all_seeing, seen_by}
use Rattle.machine.proofs.Kept.{put_stepped}
use Rattle.machine.proofs.Next.{put_next}
use Rattle.machine.proofs.Outcome.{on_err, not_ok}
use Rattle.machine.proofs.Reached.{batch_follows}
use Rattle.machine.proofs.Steps.{put_none}
use Rattle.machine.proofs.machine.Machine.put.Goals as goal

pub returns-then-not-may_put-clause-stepped : goal.returns-then-not-may_put-clause-stepped
returns-then-not-may_put-clause-stepped c =
    let s = c.args.self.now in
    let no : (nat_lt 0 (length s.world.batch) && nat_le (length s.world.history + length s.world.batch) s.config.max_places) ≡ false = search rules in
    sym (put_none s no)

pub applied-requires-clause-next : goal.applied-requires-clause-next
applied-requires-clause-next c =
    let f = c.self.inside in
    subst (λ (js : List Job). MayFollow (now f.version) js) (sym c.deref.ensures.value) (batch_follows (state_of f.version f.config f.waiting.items f.batch.items f.views.items f.copy f.completed.items) c.self.invariant.reached)

pub returns-in_err-append-clause-kept : goal.returns-in_err-append-clause-kept
returns-in_err-append-clause-kept c =
    let f = c.self.inside in
    on_err _ c.from_residual-in_err-append.result (ap (λ (cs : List Completed). state_of f.version f.config f.waiting.items f.batch.items f.views.items f.copy cs) c.in_err-append.ensures.items ∙ c.self.view_is)

pub returns-in_err-append-clause-stepped : goal.returns-in_err-append-clause-stepped
returns-in_err-append-clause-stepped c = not_ok _ c.from_residual-in_err-append.result c.from_residual-in_err-append.ensures.0

pub invariant_of-self-2 : goal.invariant_of-self-2
invariant_of-self-2 c =
    let f = c.self.inside in
    let s = c.args.self.now in
    let may : (nat_lt 0 (length s.world.batch) && nat_le (length s.world.history + length s.world.batch) s.config.max_places) ≡ true = search rules in
    let here : (nat_lt 0 (length f.batch.items) && nat_le (length f.version.entries + length f.batch.items) f.config.max_places) ≡ true = subst (λ (t : State). (nat_lt 0 (length t.world.batch) && nat_le (length t.world.history + length t.world.batch) t.config.max_places) ≡ true) (sym c.self.view_is) may in
    put_next f.version f.config f.waiting.items f.batch.items f.views.items f.copy f.completed.items c.put_in_place.new.version c.clear.new.self.items c.see_all.new.views.items c.in_ok-version.field-0.calls.items c.append.new.self.items here
    (c.put_in_place.ensures ∙ c.in_ok-version.ensures.version ∙ ap (λ (js : List Job). extended f.version (batch_entries (now f.version) js)) c.deref.ensures.value)
    (c.in_ok-version.ensures.calls ∙ ap (λ (js : List Job). wrote_from (length f.version.entries) (batch_entries (now f.version) js)) c.deref.ensures.value)
    c.in_ok-append.ensures.items
    (c.see_all.ensures ∙ ap (all_seeing f.views.items) (c.in_ok-version.ensures.seen ∙ ap (λ (js : List Job). seen_by c.in_ok-version.field-0.version js) c.deref.ensures.value ∙ ap (λ (v : Chronicle). seen_by v f.batch.items) (sym c.put_in_place.ensures)))
    (search rules) c.self.invariant

pub returns-clause-stepped : goal.returns-clause-stepped
returns-clause-stepped c =
    let f = c.self.inside in
    let s = c.args.self.now in
    let may : (nat_lt 0 (length s.world.batch) && nat_le (length s.world.history + length s.world.batch) s.config.max_places) ≡ true = search rules in
    let here : (nat_lt 0 (length f.batch.items) && nat_le (length f.version.entries + length f.batch.items) f.config.max_places) ≡ true = subst (λ (t : State). (nat_lt 0 (length t.world.batch) && nat_le (length t.world.history + length t.world.batch) t.config.max_places) ≡ true) (sym c.self.view_is) may in
    put_stepped f.version f.config f.waiting.items f.batch.items f.views.items f.copy f.completed.items c.put_in_place.new.version c.clear.new.self.items c.see_all.new.views.items c.in_ok-version.field-0.calls.items c.append.new.self.items here
    c.self.invariant.batch
    (c.put_in_place.ensures ∙ c.in_ok-version.ensures.version ∙ ap (λ (js : List Job). extended f.version (batch_entries (now f.version) js)) c.deref.ensures.value)
    (c.in_ok-version.ensures.calls ∙ ap (λ (js : List Job). wrote_from (length f.version.entries) (batch_entries (now f.version) js)) c.deref.ensures.value)
    c.in_ok-append.ensures.items
    (c.see_all.ensures ∙ ap (all_seeing f.views.items) (c.in_ok-version.ensures.seen ∙ ap (λ (js : List Job). seen_by c.in_ok-version.field-0.version js) c.deref.ensures.value ∙ ap (λ (v : Chronicle). seen_by v f.batch.items) (sym c.put_in_place.ensures)))
    (search rules)
    ∙ ap (λ (t : State). stepped t Put) c.self.view_is
