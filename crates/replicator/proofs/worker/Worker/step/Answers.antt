use Rattle.std.proofs.Common.{Err, Ok, ap, refl, subst, Option}
use Rattle.replicator.specs.declared.stage.Stage.{Stage as StageKind}
use Rattle.replicator.specs.Run.{Exchange, Exchanges, IsStep}
use Rattle.replicator.specs.Stage.{Known}
use Rattle.replicator.specs.Stages.{learned_of, stage_of}
use Rattle.replicator.proofs.Turns.{stepped}
use Rattle.replicator.proofs.worker.Worker.step.Goals as goal

pub returns-in-Ok-clause-steps : goal.returns-in-Ok-clause-steps
returns-in-Ok-clause-steps g c =
    let w = c.self.inside in
    let sg = g.S.Peer.goes in
    let tg = g.T.Peer.goes in
    let s = c.args.source.now in
    let t = c.args.target.now in
    let s' = c.advance.new.source in
    let t' = c.advance.new.target in
    let old : Known = record { job = w.job; stage = stage_of w.stage } in
    let new : Known = record { job = w.job; stage = stage_of c.in-Ok.stage } in
    let learned = learned_of (Ok (c.in-Ok.stage, c.in-Ok.progress)) in
    let made = subst (λ (st : StageKind). (e : Option Exchange) × Exchanges sg tg w.job (stage_of st) s t s' t' e learned) c.replace-stage.ensures.value c.in-Ok.ensures.exchanges in
    subst (λ (k : Known). (e : Option Exchange) × IsStep sg tg (record { worker = k; source = s; target = t }) (record { exchange = e; result = Ok c.in-Ok.progress }) (record { worker = new; source = s'; target = t' }))
    c.self.view_is (stepped sg tg old new s s' t t' learned (Ok c.in-Ok.progress) made refl refl)

pub returns-in-Err-clause-steps : goal.returns-in-Err-clause-steps
returns-in-Err-clause-steps g c =
    let w = c.self.inside in
    let sg = g.S.Peer.goes in
    let tg = g.T.Peer.goes in
    let s = c.args.source.now in
    let t = c.args.target.now in
    let s' = c.advance.new.source in
    let t' = c.advance.new.target in
    let old : Known = record { job = w.job; stage = stage_of w.stage } in
    let new : Known = record { job = w.job; stage = stage_of c.replace-stage.new.dest } in
    let learned = learned_of (Err c.in-Err.fault) in
    let made = subst (λ (st : StageKind). (e : Option Exchange) × Exchanges sg tg w.job (stage_of st) s t s' t' e learned) c.replace-stage.ensures.value c.in-Err.ensures.exchanges in
    subst (λ (k : Known). (e : Option Exchange) × IsStep sg tg (record { worker = k; source = s; target = t }) (record { exchange = e; result = Err c.in-Err.fault }) (record { worker = new; source = s'; target = t' }))
    c.self.view_is (stepped sg tg old new s s' t t' learned (Err c.in-Err.fault) made refl
    (ap (λ (st : StageKind). record { job = w.job; stage = stage_of st }) c.replace-stage.ensures.after))
