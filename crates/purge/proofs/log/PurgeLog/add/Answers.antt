use Rattle.std.proofs.Common.{◌+◌, ap, ◌∙◌}
use Rattle.std.specs.Ordering.{nat_cmp}
use Rattle.std.specs.FinMap.Entries.{put}
use Rattle.model.specs.Command.{Id}
use Rattle.purge.specs.Log.{PurgedEntry}
use Rattle.purge.proofs.Logs.{IsKept-newest, log-added, numbered-added}
use Rattle.purge.proofs.log.PurgeLog.add.Goals as goal

pub without_older-requires : goal.without_older-requires
without_older-requires c =
    let made = c.new.ensures ∙ ap (λ (id : Id). (id, c.args.leaves.items)) c.in_ok-share.ensures.same in
    let put_one = c.in_ok-all.ensures.entries ∙ ap (λ (p : PurgedEntry). put nat_cmp (c.self.inside.purge_seq + 1) p c.self.inside.infos.entries) made in
    numbered-added c.self.inside.purge_seq c.self.inside.limit c.self.inside.infos.entries c.args.id.now c.args.leaves.items c.self.invariant c.in_ok-all.all.entries put_one

pub invariant_of-result : goal.invariant_of-result
invariant_of-result c =
    let made = c.new.ensures ∙ ap (λ (id : Id). (id, c.args.leaves.items)) c.in_ok-share.ensures.same in
    let put_one = c.in_ok-all.ensures.entries ∙ ap (λ (p : PurgedEntry). put nat_cmp (c.self.inside.purge_seq + 1) p c.self.inside.infos.entries) made in
    let numbered = numbered-added c.self.inside.purge_seq c.self.inside.limit c.self.inside.infos.entries c.args.id.now c.args.leaves.items c.self.invariant c.in_ok-all.all.entries put_one in
    IsKept-newest (c.self.inside.purge_seq + 1) c.self.inside.limit c.in_ok-all.all.entries c.in_ok-infos.infos.entries c.self.invariant.not_zero numbered c.in_ok-infos.ensures

pub returns : goal.returns
returns c =
    let made = c.new.ensures ∙ ap (λ (id : Id). (id, c.args.leaves.items)) c.in_ok-share.ensures.same in
    let put_one = c.in_ok-all.ensures.entries ∙ ap (λ (p : PurgedEntry). put nat_cmp (c.self.inside.purge_seq + 1) p c.self.inside.infos.entries) made in
    record { logged = log-added c.self.inside.purge_seq c.self.inside.limit c.self.inside.infos.entries c.args.id.now c.args.leaves.items c.self.invariant c.in_ok-all.all.entries put_one c.in_ok-infos.infos.entries c.args.self.now c.self.view_is c.in_ok-infos.ensures }
