use Rattle.std.proofs.Common.{◌≡◌, List, ◌∷◌, [], ◌++◌, ap, length, sym, ◌∙◌}
use Rattle.std.specs.FinMap.Entries.{put}
use Rattle.std.proofs.lemmas.Iterator.Adapters.{YieldsList-from_vec}
use Rattle.std.proofs.lemmas.Iterator.Consumers.{YieldsList-so_far, YieldsList-turn}
use Rattle.std.proofs.lemmas.List.{map-id}
use Rattle.model.specs.Command.{Id, names}
use Rattle.model.specs.Local.{Local}
use Rattle.document_id.proofs.Ascending.{put_next}
use Rattle.local_docs.proofs.locals.listed.map_of.Goals as goal

pub loop-id-preserved : goal.loop-id-preserved
loop-id-preserved c =
    let items : List (Id × Local) = c.args.documents.items in
    let e : Id × Local = (c.in-Some.id, c.in-Some.document) in
    let long = c.args.documents.ok.0 in
    let road = YieldsList-from_vec items (cc) cc in
    let t = YieldsList-turn road c.loop-id.yielded c.loop-id.id-iterator c.loop-id.yielded_by _ c.next.new.self e c.in-Some.is c.next.ensures.steps in
    let so_far = sym (map-id c.loop-id.yielded) ∙ YieldsList-so_far road c.loop-id.yielded c.loop-id.id-iterator c.loop-id.yielded_by in
    c.in_ok-map.ensures.entries
    ∙ ap (put names.cmp e.0 e.1) (c.loop-id.invariant ∙ so_far)
    ∙ put_next items (length c.loop-id.yielded) e c.requires t.0 t.1
    ∙ ap (λ (es : List (Id × Local)). es ++ e ∷ []) (sym so_far)
