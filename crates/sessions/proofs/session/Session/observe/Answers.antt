use Rattle.std.proofs.Common.{rules, ◌≡◌, sym, subst}
use mathlib.Core.List.{IsPrefix}
use Rattle.version_log.proofs.Prefixes.{prefix_self}
use Rattle.sessions.proofs.session.Session.observe.Goals as goal

pub returns-clause-later : goal.returns-clause-later
returns-clause-later g c =
    let same : c.in_ok-same.same ≡ c.args.self.now.published = search rules in
    subst (IsPrefix c.args.self.now.published) (sym same) (prefix_self c.args.self.now.published)
