use Rattle.std.proofs.Common.{ap, sym, ◌∙◌, subst, [], List, map, filter}
use Rattle.std.specs.List.{All}
use mathlib.Core.List.{IsPrefix}
use Rattle.version_log.specs.Histories.{newest}
use Rattle.version_log.proofs.Growing.{newest_grows, newest_legal}
use Rattle.sessions.specs.Known.{Known}
use Rattle.history_lock.specs.Ending.{Ending, Ends}
use Rattle.sessions.specs.Ends.{is_lost, IsExact}
use Rattle.history_lock.proofs.master.Master+Core+R+J+J+G.close.Goals as goal

pub returns : goal.returns
returns g c =
    let last = c.last_of_all-last.result.0 in
    let h = newest last in
    let all = c.last_of_all-last.ensures in
    let grows = all.last.1 in
    let items = c.as_slice.ensures.value ∙ all.ended in
    record {
      end = subst (λ (e : Ending). Ends g.J.Naming.base c.args.sessions.items e) (sym c.new.ensures) (record {
        legal = newest_legal g.J.Naming.base [] last tt grows;
        extends = subst (All (λ (k : Known). IsPrefix (newest k.published) h)) all.ended (λ i d lt. newest_grows g.J.Naming.base _ last grows (all.extends i d lt));
        exact = subst (All (IsExact h)) items c.lost_of-lost.ensures.exact;
        lost = c.lost_of-lost.ensures.lost ∙ ap (λ (l : List Known). map (λ (k : Known). k.number) (filter (is_lost h) l)) items;
      });
    }
