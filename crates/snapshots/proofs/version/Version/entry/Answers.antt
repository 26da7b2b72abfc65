use Rattle.std.proofs.Common.{◌≡◌, ◌≤◌, ◌-◌, ℕ, zero, suc, List, slice_get, ap, ◌∙◌, arith}
use Rattle.model.specs.Command.{Entry}
use Rattle.model.specs.History.{Chronicle}
use Rattle.snapshots.specs.Version.{entry_at}
use Rattle.snapshots.proofs.version.Version.entry.Goals as goal

before : (entries : List Entry) (place n : ℕ) → 1 ≤ place → n ≡ place - 1 → slice_get entries n ≡ entry_at entries place
before entries zero n some is = absurd (omega arith)
before entries (suc k) n some is = let same : n ≡ k = omega (arith, is) in ap (slice_get entries) same

pub returns : goal.returns
returns c =
    let place = c.in_ok-checked_sub.ensures in
    c.get.ensures
    ∙ before c.self.inside.history.values c.args.place c.in_ok-checked_sub.field-0 place.0 place.1
    ∙ ap (λ (h : Chronicle). entry_at h.entries c.args.place) c.self.view_is
