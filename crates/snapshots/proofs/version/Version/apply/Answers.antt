use Rattle.std.specs.Prelude.{◌≡◌, ◌∷◌, [], ◌++◌}
use Rattle.std.proofs.Common.{ap, subst, ◌∙◌}
use Rattle.model.specs.Database.{Database, act}
use Rattle.model.specs.History.{Chronicle, now, entry_of}
use Rattle.snapshots.specs.Version.{IsHistory}
use Rattle.snapshots.proofs.Histories.{IsVersion-pushed}
use Rattle.snapshots.proofs.version.Version.apply.Goals as goal

pub invariant_of-self : goal.invariant_of-self
invariant_of-self c =
    let h : Chronicle = c.args.self.now in
    let seat = c.args.seat in
    let command = c.args.command.now in
    let database : c.self.inside.database ≡ now h = c.self.invariant.replayed ∙ ap now c.self.view_is in
    let history : IsHistory h = subst IsHistory c.self.view_is c.self.invariant.history in
    IsVersion-pushed h seat command history c.in-Ok.ensures.limits.0 c.in-Ok.ensures.limits.1 c.requires.next c.requires.room
    c.self.inside.base c.apply_to.new.history.values
    (ap (λ (k : Chronicle). k.base) c.self.view_is)
    (c.in-Ok.ensures.pushed ∙ (λ i. (c.self.view_is i).entries ++ entry_of (database i) seat command ∷ []))
    c.apply_to.new.database (c.in-Ok.ensures.after ∙ ap (λ (d : Database). act d seat command) database)
