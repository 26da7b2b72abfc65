use Rattle.std.proofs.Common.{[], ◌∷◌, ◌++◌, sym, ap, subst, ◌∙◌}
use Rattle.std.specs.Vec.Iter.{into_iter_items}
use Rattle.std.proofs.lemmas.List.{map-append}
use Rattle.std.proofs.lemmas.List.Elements.{All-tail}
use Rattle.session_peer.specs.Shown.{ShowPaths, ShowsPath, all_brought, brought}
use Rattle.session_peer.proofs.shown.bring_all.Goals as goal

pub loop-one-preserved : goal.loop-one-preserved
loop-one-preserved c =
    let one = c.in-Some.one in
    let taken = c.loop-one.yielded in
    record {
      given = c.in_ok-push.ensures.items ∙ ap (λ ms. ms ++ c.bring.result ∷ []) c.loop-one.invariant.given
          ∙ ap (λ m. all_brought taken ++ m ∷ []) c.bring.ensures ∙ sym (map-append brought taken (one ∷ []));
      paths = All-tail ShowsPath one (into_iter_items c.next.new.self) (subst ShowPaths c.in-Some.ensures.steps.0 c.loop-one.invariant.paths);
    }
