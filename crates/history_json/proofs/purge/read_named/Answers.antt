use Rattle.std.proofs.Common.{◌≡◌, All, map, sym, ap, ◌∙◌, subst}
use Rattle.model.specs.Command.{NamesRevs}
use Rattle.model.specs.Map.{entries}
use Rattle.api_json.specs.NamedRevisions.{pairs_in}
use Rattle.api_json.specs.Purge.{named_leaves}
use Rattle.api_json.proofs.NamedRevisions.{pairs_in-members_of}
use Rattle.history_json.proofs.Taken.{if_some, inside, named_once, once, pairs_in-members_from}
use Rattle.history_json.proofs.purge.read_named.Goals as goal

pub returns-in_default-2-clause-found : goal.returns-in_default-2-clause-found
returns-in_default-2-clause-found c = λ named is e.
    let here = inside c.args.value c.in-Some.object _ c.in-Some.ensures e in
    let pairs = sym (pairs_in-members_of c.in_ok-members.members.items) ∙ ap pairs_in (c.in_ok-members.ensures ∙ here) ∙ pairs_in-members_from (map named_leaves (entries named)) in
    let none = rw c.in_default-2.is at (c.in_ok-documents.ensures.found (entries named) is pairs) in
    absurd (cc)

pub returns-clause-within : goal.returns-clause-within
returns-clause-within c =
    let within = rw c.in-Some-2.is at c.in_ok-documents.ensures.within in
    if_some c.new.result _ _ (λ n e. subst (All NamesRevs) (sym e) within) c.new.ensures.entries

pub returns-clause-found : goal.returns-clause-found
returns-clause-found c = λ named is e.
    let here = inside c.args.value c.in-Some.object _ c.in-Some.ensures e in
    let pairs = sym (pairs_in-members_of c.in_ok-members.members.items) ∙ ap pairs_in (c.in_ok-members.ensures ∙ here) ∙ pairs_in-members_from (map named_leaves (entries named)) in
    let found : c.in-Some-2.documents.items ≡ entries named = once _ _ (rw c.in-Some-2.is at (c.in_ok-documents.ensures.found (entries named) is pairs)) in
    named_once c.new.result c.in-Some-2.documents.items named c.new.ensures.rising c.new.ensures.entries found
