use Rattle.std.proofs.Common.{◌≡◌, ◌∙◌, [], ap, sym, subst}
use Rattle.std.specs.Prelude.{Some}
use Rattle.std.proofs.lemmas.Result.{IfOk-weaker}
use Rattle.model.specs.Database.{Database}
use Rattle.model.specs.History.{Chronicle, now, successor, IsBase}
use Rattle.model.proofs.BaseLaws.{IsBase-successor}
use Rattle.snapshots.proofs.version.Version.successor.Goals as goal

pub over-requires : goal.over-requires
over-requires c =
    let h : Chronicle = c.args.self.now in
    let uncalled : c.in_ok-database.database ≡ successor (now h) = c.in_ok-database.ensures ∙ ap successor (c.self.invariant.replayed ∙ ap now c.self.view_is) in
    subst IsBase (sym uncalled) (IsBase-successor (now h) c.place-recalled.ensures.history.database c.requires.updates c.requires.purges)

pub returns : goal.returns
returns c =
    let h : Chronicle = c.args.self.now in
    let uncalled : c.in_ok-database.database ≡ successor (now h) = c.in_ok-database.ensures ∙ ap successor (c.self.invariant.replayed ∙ ap now c.self.view_is) in
    record {
      successor = IfOk-weaker c.over.result (λ (v : Chronicle). v ≡ record { base = Some c.in_ok-database.database; entries = [] }) (λ (v : Chronicle). v ≡ record { base = Some (successor (now h)); entries = [] })
          (λ v is. is ∙ ap (λ (d : Database). record { base = Some d; entries = [] }) uncalled) c.over.ensures;
    }
