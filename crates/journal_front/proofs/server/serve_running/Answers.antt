use denote.Param.{param}
use denote.Param.Send.{sendable}
use Rattle.std.proofs.Common.{◌≡◌, ◌-◌, ◌∙◌, ◌++◌, ◌∷◌, [], List, arith, ap, length, refl, inl, inr, sym, take}
use Rattle.std.specs.Prelude.{Option}
use Rattle.model.specs.Command.{Entry}
use Rattle.model.specs.Database.{Database}
use Rattle.model.specs.History.{base_of}
use Rattle.std.proofs.lemmas.List.FromFn.{length-map-range_with_len}
use Rattle.http_front.specs.Server.{server_turns}
use Rattle.session_calls.specs.Sessions.{Goes, known_of}
use Rattle.sessions.specs.Known.{Known, fresh, seen}
use Rattle.session_calls.proofs.Crossing.{opened-send, shared_session-send}
use Rattle.journal.specs.Held.{begun}
use Rattle.journal_front.specs.Server.{awaits}
use Rattle.journal_front.proofs.Keeping.{names_first, on_some}
use Rattle.journal_front.proofs.Served.{all_served, keeper_begins, served_from, serves_kept}
use Rattle.journal_front.proofs.server.serve_running.Goals as goal

pub open-account-requires : goal.open-account-requires
open-account-requires g c =
    let same = ap (λ (b : Option Database). (base_of b).update_seq) c.requires.base in
    record { named = c.requires.log; limit = c.requires.names.limit c.args.limit [] (inl (omega (arith, c.requires.limit, same))) }

pub new-round-requires : goal.new-round-requires
new-round-requires g c = record {
  named = names_first g.F.Appended.said g.F.Appended.told g.L.Notices.reported g.E.Epochs.reported g.N.Keeping.is_appended g.N.Keeping.is_kept g.N.Keeping.is_limit g.N.Keeping.has_failed g.N.Naming.base c.requires.names;
  accounted = record {
    base_is = sym c.requires.base;
    begins = (seen c.in-Some-pop.keeper, ap (λ (es : List Entry). es ++ seen c.in-Some-pop.keeper) c.open-account.ensures.none);
  };
  unready = λ told. c.requires.names.failed (inr told);
  behind = record { history = begun g.J.Naming.base; holds = c.requires.held; extends = record { base = refl; more = _; entries = refl } };
}

pub serve_kept-requires-send-S : goal.serve_kept-requires-send-S
serve_kept-requires-send-S g c κs within = search (shared_session-send (param 0 g.row.J) g.J.Queued g.J.Opening g.J.Naming, sendable) depth 20

pub serve_kept-requires-send-K : goal.serve_kept-requires-send-K
serve_kept-requires-send-K g c κs within = search (shared_session-send (param 0 g.row.J) g.J.Queued g.J.Opening g.J.Naming, sendable) depth 20

pub serve_kept-requires-send-S-Opened : goal.serve_kept-requires-send-S-Opened
serve_kept-requires-send-S-Opened g c κs within = search (opened-send, sendable) depth 20

pub serve_kept-requires-send-K-Opened : goal.serve_kept-requires-send-K-Opened
serve_kept-requires-send-K-Opened g c κs within = search (opened-send, sendable) depth 20

pub close_kept-requires : goal.close_kept-requires
unfolding server_turns
close_kept-requires g c =
    let keeper = c.in-Some-serve_kept.left.session in
    let opened = c.in-Some.sessions.items in
    let base = g.J.Naming.base in
    let rest_is = c.in-Some-pop.ensures.rest ∙ ap (λ n. take (n - 1) opened) c.in-Some.sessions.ok.0 in
    let served = served_from (λ old call new. Goes base g.J.Opening.config g.J.Queued.sessions g.J.Queued.capacity old call new) (λ (k : Known). known_of base g.J.Opening.config g.J.Queued.sessions g.J.Queued.capacity k)
    g.N.Keeping.is_appended g.N.Keeping.is_kept g.N.Keeping.is_limit g.N.Keeping.has_failed (awaits c.args.service.now.policy) server_turns c.in-Some.running.setting c.args.service.now.terms.connections (seen keeper)
    (take (length opened - 1) opened) c.pop.new.self.items c.in-Some-serve_kept.sessions.items c.in-Some.ensures.turns rest_is c.in-Some-serve_kept.ensures.served in
    let all = all_served base g.N.Keeping.is_appended g.N.Keeping.is_kept g.N.Keeping.is_limit g.N.Keeping.has_failed c.args.opened.config (awaits c.args.service.now.policy) server_turns
    c.args.service.now.terms.connections (seen keeper) opened c.in-Some-serve_kept.sessions.items c.requires.some c.in-Some.ensures.sessions g.J.Opening.config g.J.Queued.sessions g.J.Queued.capacity served in
    let count : length opened ≡ c.args.opened.config.sessions = ap length c.in-Some.ensures.sessions ∙ length-map-range_with_len fresh 0 c.args.opened.config.sessions in
    record {
      reported = λ told. c.requires.names.failed (inl told);
      room = c.in-Some-serve_kept.ensures.room;
      all = omega (arith, all, c.requires.named.sessions_is);
      ends = (c.in-Some.ensures.room.0, omega (arith, all, count, c.in-Some.ensures.room.1));
      round = c.in-Some-serve_kept.ensures.round;
    }

pub returns : goal.returns
unfolding server_turns
returns g c =
    let named = c.requires.named in
    let keeper = c.in-Some-serve_kept.left.session in
    let opened = c.in-Some.sessions.items in
    let base = g.J.Naming.base in
    let rest_is = c.in-Some-pop.ensures.rest ∙ ap (λ n. take (n - 1) opened) c.in-Some.sessions.ok.0 in
    let served = served_from (λ old call new. Goes base g.J.Opening.config g.J.Queued.sessions g.J.Queued.capacity old call new) (λ (k : Known). known_of base g.J.Opening.config g.J.Queued.sessions g.J.Queued.capacity k)
    g.N.Keeping.is_appended g.N.Keeping.is_kept g.N.Keeping.is_limit g.N.Keeping.has_failed (awaits c.args.service.now.policy) server_turns c.in-Some.running.setting c.args.service.now.terms.connections (seen keeper)
    (take (length opened - 1) opened) c.pop.new.self.items c.in-Some-serve_kept.sessions.items c.in-Some.ensures.turns rest_is c.in-Some-serve_kept.ensures.served in
    on_some c.close_kept.result
    (λ closed closes. record {
      keeper = keeper;
      end = closes.end;
      served = serves_kept base g.N.Keeping.is_appended g.N.Keeping.is_kept g.N.Keeping.is_limit g.N.Keeping.has_failed c.args.opened.config (awaits c.args.service.now.policy) server_turns
          c.args.service.now.terms.connections (seen keeper) opened c.in-Some-serve_kept.sessions.items c.requires.some c.in-Some.ensures.sessions
          g.J.Opening.config g.J.Queued.sessions g.J.Queued.capacity keeper closes.end named.config_is named.sessions_is named.capacity_is served
          (keeper_begins base (c.in-Some-serve_kept.sessions.items ++ keeper ∷ []) c.in-Some-serve_kept.sessions.items keeper closes.end refl closes.ends) closes.ends;
      whole = closes.whole;
      next_is = closes.next_is;
    })
    c.close_kept.ensures
