use Rattle.std.proofs.Common.{◌≡◌, ◌∷◌, sym, ap, ◌∙◌}
use Rattle.std.specs.Prelude.{codes}
use Rattle.serde_json.specs.Data.{no_members}
use Rattle.serde_json.specs.Find.{get_member}
use Rattle.json_profile.specs.Objects.{without}
use Rattle.document_json.specs.Written.{revs_data}
use Rattle.history_json.proofs.Taken.{inside, once}
use Rattle.history_json.proofs.merges.MergeLineValue.read.Goals as goal

pub returns-in_default-2-clause-found : goal.returns-in_default-2-clause-found
returns-in_default-2-clause-found c = λ it is e.
    let here = inside c.args.value c.in-Some.members _ c.in-Some.ensures e in
    let path : c.in-Some-take.path ≡ revs_data (it.newest ∷ it.older) = once _ _ (c.in-Some-take.ensures.taken ∙ ap (get_member (codes "path")) here) in
    let none = rw c.in_default-2.is at (c.in_ok-path.ensures.found (it.newest ∷ it.older) is.revs path) in
    absurd (cc)

pub returns-clause-found : goal.returns-clause-found
returns-clause-found c = λ it is e.
    let here = inside c.args.value c.in-Some.members _ c.in-Some.ensures e in
    let path : c.in-Some-take.path ≡ revs_data (it.newest ∷ it.older) = once _ _ (c.in-Some-take.ensures.taken ∙ ap (get_member (codes "path")) here) in
    let revs : c.in-Some-2.path.items ≡ it.newest ∷ it.older = once _ _ (rw c.in-Some-2.is at (c.in_ok-path.ensures.found (it.newest ∷ it.older) is.revs path)) in
    let left = c.in-Some-take.ensures.left ∙ ap (without (codes "path")) here in
    let write : c.in-Some-3.write ≡ (it.id, it.deleted, it.body) = once _ _ (sym c.in-Some-3.is ∙ c.in_ok-write.ensures.found it.id it.deleted it.body no_members is.id is.body left) in
    c.merge_of.ensures.found it is revs write
