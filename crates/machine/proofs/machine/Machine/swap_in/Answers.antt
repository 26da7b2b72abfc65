use Rattle.std.proofs.Common.{◌≡◌, ◌+◌, ◌<◌, ◌∙◌, List, [], ◌∷◌, length, map, sym, ap, subst}
use Rattle.std.specs.Prelude.{ℕ, Option, Some, None, option_map}
use Rattle.machine.specs.declared.copying.Copying.{Copying}
use Rattle.machine.specs.States.{State, stepped, state_of, open_copy}
use Rattle.std.specs.Prelude.{IfSome}
use Rattle.std.proofs.lemmas.Option.{none-some, same_Some}
use Rattle.model.specs.History.{Chronicle, extended}
use Rattle.model.specs.World.{Swap, OpenCopy}
use Rattle.machine.specs.declared.completed.Completed.{Completed}
use Rattle.machine.specs.Events.{completed_of, wrote_at}
use Rattle.machine.specs.States.{chronicle_in, compact_entry, swapped_in, IsUnderWay}
use Rattle.machine.specs.Views.{seeing, all_seeing}
use Rattle.machine.proofs.KeptCopies.{swap_stepped}
use Rattle.machine.proofs.NextCopies.{swap_next}
use Rattle.machine.proofs.Outcome.{on_err}
use Rattle.machine.proofs.machine.Machine.swap_in.Goals as goal

session_within : (v : Chronicle) (n s : ℕ) (k : Option Copying) → IfSome k (IsUnderWay v n) → option_map (λ (o : OpenCopy). o.session) (option_map open_copy k) ≡ Some s → s < n
session_within v n s None h is = absurd (none-some s is)
session_within v n s (Some x) h is = subst (λ m. m < n) (same_Some x.session s is) h.session

pub returns-in_err-append-clause-kept : goal.returns-in_err-append-clause-kept
returns-in_err-append-clause-kept c =
    let f = c.self.inside in
    on_err _ c.from_residual.result (ap (λ (cs : List Completed). state_of f.version f.config f.waiting.items f.batch.items f.views.items f.copy cs) c.in_err-append.ensures.items ∙ c.self.view_is)

pub invariant_of-self-2 : goal.invariant_of-self-2
invariant_of-self-2 c =
    let f = c.self.inside in
    let n = c.args.session in
    let lt : n < length f.views.items = session_within f.version (length f.views.items) n f.copy c.self.invariant.copying (subst (λ (t : State). option_map (λ (o : OpenCopy). o.session) t.world.copy ≡ Some n) (sym c.self.view_is) c.requires.copy) in
    let version : c.args.next.version ≡ extended f.version (compact_entry f.version n ∷ []) = subst (λ (t : State). c.args.next.version ≡ extended (chronicle_in t) (compact_entry (chronicle_in t) n ∷ [])) (sym c.self.view_is) c.requires.version in
    let calls : map completed_of c.args.next.calls.items ≡ wrote_at (length f.version.entries + 1) (compact_entry f.version n) ∷ [] = subst (λ (t : State). map completed_of c.args.next.calls.items ≡ wrote_at (length t.world.history + 1) (compact_entry (chronicle_in t) n) ∷ []) (sym c.self.view_is) c.requires.calls in
    swap_next f.version f.config f.waiting.items f.batch.items f.views.items f.copy f.completed.items n c.put_in_place.new.version c.args.next.calls.items _ _ _ lt
    (c.put_in_place.ensures ∙ version) calls c.in_ok-append.ensures.items c.end.ensures
    (c.see_all.ensures ∙ ap (all_seeing f.views.items) c.requires.seen ∙ ap (λ (v : Chronicle). seeing f.views.items (record { session = n; version = v })) (sym c.put_in_place.ensures))
    (subst (λ (t : State). stepped t Swap ≡ swapped_in t n) (sym c.self.view_is) c.requires.event)
    c.self.invariant

pub returns-clause-stepped : goal.returns-clause-stepped
returns-clause-stepped c =
    let f = c.self.inside in
    let n = c.args.session in
    let lt : n < length f.views.items = session_within f.version (length f.views.items) n f.copy c.self.invariant.copying (subst (λ (t : State). option_map (λ (o : OpenCopy). o.session) t.world.copy ≡ Some n) (sym c.self.view_is) c.requires.copy) in
    let version : c.args.next.version ≡ extended f.version (compact_entry f.version n ∷ []) = subst (λ (t : State). c.args.next.version ≡ extended (chronicle_in t) (compact_entry (chronicle_in t) n ∷ [])) (sym c.self.view_is) c.requires.version in
    let calls : map completed_of c.args.next.calls.items ≡ wrote_at (length f.version.entries + 1) (compact_entry f.version n) ∷ [] = subst (λ (t : State). map completed_of c.args.next.calls.items ≡ wrote_at (length t.world.history + 1) (compact_entry (chronicle_in t) n) ∷ []) (sym c.self.view_is) c.requires.calls in
    swap_stepped f.version f.config f.waiting.items f.batch.items f.views.items f.copy f.completed.items n c.put_in_place.new.version c.args.next.calls.items _ _ _ lt
    (c.put_in_place.ensures ∙ version) calls c.in_ok-append.ensures.items c.end.ensures
    (c.see_all.ensures ∙ ap (all_seeing f.views.items) c.requires.seen ∙ ap (λ (v : Chronicle). seeing f.views.items (record { session = n; version = v })) (sym c.put_in_place.ensures))
    ∙ ap (λ (t : State). swapped_in t n) c.self.view_is
