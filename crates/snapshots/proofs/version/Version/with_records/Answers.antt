use Rattle.std.specs.Prelude.{◌≡◌, ◌∷◌, [], ◌++◌}
use Rattle.std.proofs.Common.{ap, subst, ◌∙◌}
use Rattle.model.specs.Command.{Compact}
use Rattle.model.specs.Database.{Database, act}
use Rattle.model.specs.History.{Chronicle, now}
use Rattle.snapshots.specs.Version.{IsHistory}
use Rattle.snapshots.proofs.Histories.{IsVersion-pushed, view-pushed, compact_entry-is}
use Rattle.snapshots.proofs.version.Version.with_records.Goals as goal

pub invariant_of-result : goal.invariant_of-result
invariant_of-result c =
    let h : Chronicle = c.args.self.now in
    let database : c.in_ok-database.database ≡ now h = c.in_ok-database.ensures ∙ c.self.invariant.replayed ∙ ap now c.self.view_is in
    let history : IsHistory h = subst IsHistory c.self.view_is c.self.invariant.history in
    let entry = compact_entry-is (now h) c.args.seat c.compact.result c.new.result c.compact.ensures c.new.ensures.reply in
    IsVersion-pushed h c.args.seat Compact history c.in_ok-compact_with.ensures.limits tt c.requires.next c.requires.room
    c.in_ok-share.field-0 c.in_ok-history.history.values
    (c.in_ok-share.ensures ∙ ap (λ (k : Chronicle). k.base) c.self.view_is)
    (c.in_ok-history.ensures.values ∙ (λ i. (c.self.view_is i).entries ++ entry i ∷ []))
    c.compact_with.new.self (c.in_ok-compact_with.ensures.after ∙ ap (λ (d : Database). act d c.args.seat Compact) database)

pub returns : goal.returns
returns c =
    let h : Chronicle = c.args.self.now in
    let history : IsHistory h = subst IsHistory c.self.view_is c.self.invariant.history in
    let entry = compact_entry-is (now h) c.args.seat c.compact.result c.new.result c.compact.ensures c.new.ensures.reply in
    record {
      pushed = view-pushed h c.args.seat Compact history c.in_ok-compact_with.ensures.limits tt c.requires.next c.requires.room
          c.in_ok-share.field-0 c.in_ok-history.history.values (c.in_ok-share.ensures ∙ ap (λ (k : Chronicle). k.base) c.self.view_is) (c.in_ok-history.ensures.values ∙ (λ i. (c.self.view_is i).entries ++ entry i ∷ []));
    }
