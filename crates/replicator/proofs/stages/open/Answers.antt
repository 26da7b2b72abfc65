use Rattle.std.proofs.Common.{◌≡◌, ◌∙◌, List, Ok, subst, sym, true, rules}
use Rattle.model.specs.Command.{Id}
use Rattle.model.specs.Revision.{Rev}
use Rattle.replicator.specs.Call.{OpenRevs}
use Rattle.replicator.specs.Due.{AsksNext}
use Rattle.replicator.specs.Learned.{with_opened}
use Rattle.replicator.specs.Readable.{is_readable_opened}
use Rattle.replicator.proofs.Turns.{opened-called}
use Rattle.replicator.proofs.stages.open.Goals as goal

pub returns-clause-called : goal.returns-clause-called
returns-clause-called g c =
    let i = c.asked.inside.id in
    let revs = c.asked.inside.revisions.items in
    let opened = c.in_ok-opened.opened in
    let went = subst (λ (rs : List Rev). g.S.Peer.goes c.args.source.now (OpenRevs i rs (Ok opened)) c.open_next.new.source) c.deref.ensures.value c.in_ok-opened.ensures.goes in
    let asks = subst (λ (a : Id × List Rev). AsksNext c.args.pass a.0 a.1) (sym c.asked.view_is) c.in_ok-asked.ensures.next in
    let ready : c.is_readable_opened.result ≡ true = search rules in
    let readable = sym (subst (λ (rs : List Rev). c.is_readable_opened.result ≡ is_readable_opened i rs opened) c.deref-2.ensures.value c.is_readable_opened.ensures) ∙ ready in
    let with = subst (λ (a : Id × List Rev). c.in_ok-pass.pass ≡ with_opened c.args.pass a.0 a.1 opened) (sym c.asked.view_is) c.in_ok-pass.ensures.with in
    opened-called g.S.Peer.goes c.args.source.now c.open_next.new.source c.args.job.now c.args.pass c.in_ok-pass.pass i revs opened went c.in_ok-opened.ensures.reads asks readable with
