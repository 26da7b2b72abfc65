use Rattle.std.specs.Prelude.{◌∷◌, Some, option_map, option_copied}
use Rattle.std.proofs.Common.{ap, sym, ◌∙◌}
use Rattle.model.specs.Edit.{with_path}
use Rattle.model.specs.Database.{Record}
use Rattle.snapshots.proofs.Remerged.{reply_again, after_again}
use Rattle.snapshots.proofs.database.Database.has_merged.Goals as goal

pub returns-clause-reply : goal.returns-clause-reply
returns-clause-reply c = λ e.
    let d = c.args.self.now in
    let m = c.args.merge.now in
    let t = c.tree.result.now in
    reply_again d m t (ap (option_map (λ (r : Record). r.tree)) (sym c.requires ∙ ap option_copied c.in-Some.is) ∙ ap Some (sym c.tree.ensures))
    (λ body deleted.
    ap (λ l. with_path l (Some t) (m.newest ∷ m.older) body deleted) (sym c.revs_limit.ensures.limit)
    ∙ ap (λ p. with_path c.revs_limit.result (Some t) p body deleted) (sym c.path.ensures.path)
    ∙ c.is_written.ensures e body deleted)

pub returns-clause-after : goal.returns-clause-after
returns-clause-after c = λ e.
    let d = c.args.self.now in
    let m = c.args.merge.now in
    let t = c.tree.result.now in
    after_again d m t (ap (option_map (λ (r : Record). r.tree)) (sym c.requires ∙ ap option_copied c.in-Some.is) ∙ ap Some (sym c.tree.ensures))
    (λ body deleted.
    ap (λ l. with_path l (Some t) (m.newest ∷ m.older) body deleted) (sym c.revs_limit.ensures.limit)
    ∙ ap (λ p. with_path c.revs_limit.result (Some t) p body deleted) (sym c.path.ensures.path)
    ∙ c.is_written.ensures e body deleted)
