use Rattle.std.proofs.Common.{◌≡◌, [], ◌∷◌, length, All, map, Some, sym, ap, ◌∙◌, subst, arith}
use Rattle.std.specs.Vec.Iter.{into_iter_items, into_iter_len}
use Rattle.std.proofs.lemmas.List.{nil_from_length}
use Rattle.std.proofs.lemmas.List.Elements.{All-append, All-cons, All-nil}
use Rattle.model.specs.Command.{NamesRevs}
use Rattle.api_json.specs.NamedRevisions.{member_pair}
use Rattle.api_json.specs.Purge.{named_leaves}
use Rattle.history_json.proofs.Rests.{Rest, rest-next, rest-none, rest-last}
use Rattle.history_json.proofs.purge.read_documents.Goals as goal

pub loop-member-preserved : goal.loop-member-preserved
loop-member-preserved c =
    let steps = c.in-Some.ensures.steps in
    let item = c.in-Some-2.document in
    let here : NamesRevs item = rw c.in-Some-2.is at c.in_ok-document.ensures.within in
    let tells : (z : _) → NamesRevs z → member_pair c.in-Some.member ≡ named_leaves z → Some item ≡ Some z = λ z p e. sym c.in-Some-2.is ∙ c.in_ok-document.ensures.found z p e in
    let counted = ap length steps.0 in
    let lens = c.loop-member.invariant.2 in
    let one = steps.1 in
    let len : into_iter_len c.next.new.self ≡ length (into_iter_items c.next.new.self) = omega (arith, counted, lens, one) in
    let pushed = c.in_ok-push.ensures.items in (
      tt,
      tt,
      len,
      subst (All NamesRevs) (sym pushed) (All-append NamesRevs c.loop-member.documents.items (item ∷ []) c.loop-member.invariant.3 (All-cons NamesRevs item [] here (All-nil NamesRevs))),
      λ documents within is. subst (λ found. Rest named_leaves NamesRevs (map member_pair (into_iter_items c.next.new.self)) found documents) (sym pushed)
          (rest-next named_leaves NamesRevs (member_pair c.in-Some.member) (map member_pair (into_iter_items c.next.new.self)) c.loop-member.documents.items documents item tells
          (subst (λ left. Rest named_leaves NamesRevs (map member_pair left) c.loop-member.documents.items documents) steps.0 (c.loop-member.invariant.4 documents within is))),
    )

pub returns-in_default-clause-found : goal.returns-in_default-clause-found
returns-in_default-clause-found c = λ documents within is.
    let steps = c.in-Some.ensures.steps in
    absurd (rest-none named_leaves NamesRevs (member_pair c.in-Some.member) (map member_pair (into_iter_items c.next.new.self)) c.loop-member.documents.items documents
    (λ z p e. sym c.in_default.is ∙ c.in_ok-document.ensures.found z p e)
    (subst (λ left. Rest named_leaves NamesRevs (map member_pair left) c.loop-member.documents.items documents) steps.0 (c.loop-member.invariant.4 documents within is)))

pub returns-clause-found : goal.returns-clause-found
returns-clause-found c = λ documents within is.
    let left = into_iter_items c.loop-member.member-iterator in
    let steps : into_iter_len c.loop-member.member-iterator ≡ 0 = c.in-None.ensures.steps.0 in
    let none : left ≡ [] = nil_from_length left (sym c.loop-member.invariant.2 ∙ steps) in
    ap Some (rest-last named_leaves NamesRevs c.loop-member.documents.items documents
    (subst (λ xs. Rest named_leaves NamesRevs (map member_pair xs) c.loop-member.documents.items documents) none (c.loop-member.invariant.4 documents within is)))
