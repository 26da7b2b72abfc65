use Rattle.std.specs.Prelude.{Option, List}
use Rattle.std.specs.Ordering.{nat_cmp}
use Rattle.std.specs.FinMap.Entries as listed
use Rattle.std.proofs.Common.{ℕ, ap, sym, ◌∙◌}
use Rattle.cow_index.specs.CowMap.{MapView}
use Rattle.model.specs.Map.{Map, from_list, put}
use Rattle.model.specs.Command.{numbers}
use Rattle.snapshots.specs.Calls.{calls_in}
use Rattle.snapshots.specs.declared.database.calls.Caller.{Caller}
use Rattle.snapshots.proofs.Calls.{put-last}
use Rattle.snapshots.proofs.MapLists.{from_list-put}
use Rattle.snapshots.proofs.database.calls.Calls.put.Goals as goal

pub returns-then-last-session : goal.returns-then-last-session
returns-then-last-session c =
    put-last c.in-Some.last c.self.inside.earlier.entries c.args.session c.args.calls c.if-last-session.true
    ∙ ap (λ (o : Option Caller). put {O = numbers} (calls_in o c.self.inside.earlier.entries) c.args.session c.args.calls) (sym c.in-Some.is)
    ∙ ap (λ (m : Map numbers ℕ). put {O = numbers} m c.args.session c.args.calls) c.self.view_is

pub returns : goal.returns
returns c =
    let last = c.in-Some.last in
    let es = c.self.inside.earlier.entries in
    let entries = c.in_ok-self-inside.ensures.entries ∙ ap (λ (m : MapView ℕ ℕ). listed.put nat_cmp last.session last.calls m.entries) c.replace-earlier.ensures.value in
    ap (λ (fs : List (ℕ × ℕ)). put {O = numbers} (from_list fs) c.args.session c.args.calls) entries
    ∙ ap (λ (m : Map numbers ℕ). put {O = numbers} m c.args.session c.args.calls) (from_list-put numbers last.session last.calls es)
    ∙ ap (λ (o : Option Caller). put {O = numbers} (calls_in o es) c.args.session c.args.calls) (sym c.in-Some.is)
    ∙ ap (λ (m : Map numbers ℕ). put {O = numbers} m c.args.session c.args.calls) c.self.view_is
