use Rattle.std.proofs.Common.{◌≡◌, ◌+◌, ◌∷◌, ◌∙◌, [], List, ap, arith, length, length-append, subst, sym}
use Rattle.sessions.specs.Known.{Known as KnownOfThreads, seen}
use Rattle.model.specs.History.{Chronicle, Extends}
use Rattle.history_lock.specs.Ending.{Ends}
use Rattle.history_lock.specs.Successors.{last_database}
use Rattle.journal.specs.Held.{BeginsDump}
use Rattle.journal_front.specs.Server.{EndsWhole, syncs}
use Rattle.journal_front.proofs.Ending.{begins_last, extends_last}
use Rattle.journal_front.proofs.Served.{keeper_begins, last_seen, next_over}
use Rattle.journal_front.proofs.closing.close_kept.Goals as goal

pub end-closed-requires : goal.end-closed-requires
end-closed-requires g c =
    let before = c.args.sessions.items in
    let pushed : length c.push_reserved.new.self.items ≡ length before + 1 = ap length c.push_reserved.ensures.items ∙ length-append before (c.args.left.session ∷ []) in
    record { all = omega (arith, pushed, c.requires.all); room = (c.requires.ends.0, omega (arith, pushed, c.requires.ends.1)) }

pub complete-requires : goal.complete-requires
complete-requires g c =
    let base = g.J.Naming.base in
    let keeper = c.args.left.session in
    let end = c.end-closed.result in
    let begins = keeper_begins base c.push_reserved.new.self.items c.args.sessions.items keeper end c.push_reserved.ensures.items c.end-closed.ensures.end in
    record {
      reported = c.requires.reported;
      broken = c.requires.round.failed;
      held = λ sound.
          let behind = c.requires.round.behind sound in
          (behind.history, behind.holds, subst (λ (v : Chronicle). Extends v behind.history) (sym c.version-last.ensures) (extends_last base (seen keeper) end.history begins behind.history behind.extends));
      begins = subst (λ (v : Chronicle). BeginsDump c.args.left.journal v) (sym c.version-last.ensures) (begins_last base (seen keeper) end.history begins c.args.left.journal c.requires.round.begins);
    }

pub returns : goal.returns
returns g c =
    let base = g.J.Naming.base in
    let keeper = c.args.left.session in
    let end = c.end-closed.result in
    let closing = c.push_reserved.new.self.items in
    record {
      end = end;
      ends = subst (λ (ks : List KnownOfThreads). Ends base ks end) c.push_reserved.ensures.items c.end-closed.ensures.end;
      whole = subst (λ (h : Chronicle). EndsWhole (syncs c.args.service.now.policy) g.N.Keeping.has_failed h c.complete.new.journal) c.version-last.ensures c.in-Ok.ensures;
      next_is = next_over (λ e. e.version.base) c.args.left.next c.from_all.result (last_database base end) _ c.place.result c.place-seen.result
          (λ same. last_seen base closing c.args.sessions.items keeper end c.place-seen.result c.place.result c.push_reserved.ensures.items c.end-closed.ensures.end
          c.place-seen.ensures.place (c.place.ensures.place ∙ ap (λ v. length v.entries) c.version-last.ensures) same)
          c.requires.round.next_is c.from_all.ensures;
    }
