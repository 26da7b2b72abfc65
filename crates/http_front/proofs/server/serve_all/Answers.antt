use denote.Param.{param}
use denote.Param.Send.{sendable}
use Rattle.session_calls.proofs.Crossing.{opened-send, shared_session-send}
use Rattle.history_lock.proofs.Lending.{no_more}
use Rattle.http_front.specs.Server.{server_turns}
use Rattle.http_front.proofs.Servers.{lent_back, serves_named}
use Rattle.http_front.proofs.server.serve_all.Goals as goal

pub listen-requires-send-S : goal.listen-requires-send-S
listen-requires-send-S g c κs within = search (shared_session-send (param 0 g.row.J) g.J.Queued g.J.Opening g.J.Naming, sendable) depth 20

pub listen-requires-send-S-Opened : goal.listen-requires-send-S-Opened
listen-requires-send-S-Opened g c κs within = search (opened-send, sendable) depth 20

pub end-closed-requires : goal.end-closed-requires
end-closed-requires g c =
    let lent = c.as_mut_slice in
    let opened = c.in-Some.sessions in
    record {
      all = no_more opened.items lent.result.now _ opened.len _ _ c.in-Some.ensures.sessions c.requires.named.sessions_is lent.ensures.value lent.ensures.len;
      room = (c.in-Some.ensures.room.0, lent_back opened.items _ opened.len _ opened.ok.0 c.in-Some.ensures.room.1);
    }

pub returns : goal.returns
unfolding server_turns
returns g c =
    λ _.
    let lent = c.as_mut_slice in
    let named = c.requires.named in
    let opened = c.in-Some.sessions in
    serves_named g.J.Naming.base g.J.Opening.config c.args.opened.config _ _ _ _ opened.len opened.items lent.result.now _ _ named.config_is named.sessions_is named.capacity_is _ c.requires.config _ c.in-Some.ensures.turns
    c.in-Some.ensures.sessions lent.ensures.value lent.ensures.len c.listen.ensures.same_number c.listen.ensures.each c.end-closed.ensures.end
