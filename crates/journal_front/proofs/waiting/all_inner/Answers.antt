use Rattle.std.proofs.Common.{◌≡◌, List, [], ◌∷◌, ◌++◌, map, ap, sym, ◌∙◌, append_assoc, rules}
use Rattle.std.specs.Vec.Iter.{into_iter_items}
use Rattle.journal_front.proofs.Progress.{before_journaled}
use Rattle.journal_front.proofs.waiting.all_inner.Goals as goal

-- one more of what is left is mapped
one_more : {A B : Type 0} (f : A → B) (made pushed all : List B) (old rest : List A) (first : A) (x : B) → pushed ≡ made ++ x ∷ [] → x ≡ f first → old ≡ first ∷ rest → made ++ map f old ≡ all → pushed ++ map f rest ≡ all
one_more f made pushed all old rest first x pushed_is x_is old_is so_far =
    ap (λ (ys : List _). ys ++ map f rest) (pushed_is ∙ ap (λ (y : _). made ++ y ∷ []) x_is) ∙ append_assoc made (f first ∷ []) (map f rest) ∙ ap (λ (xs : List _). made ++ map f xs) (sym old_is) ∙ so_far

pub loop-session-preserved : goal.loop-session-preserved
loop-session-preserved g c =
    let split : into_iter_items c.loop-session.session-iterator ≡ c.in-Some.session ∷ into_iter_items c.next.new.self = search rules in (
      one_more (λ d. d.0) c.loop-session.sessions.items c.push_reserved.new.self.items _ (into_iter_items c.loop-session.session-iterator) (into_iter_items c.next.new.self) c.in-Some.session c.into_parts-session.result.0
          c.push_reserved.ensures.items c.into_parts-session.ensures.session split c.loop-session.invariant.0,
      search rules,
      search rules,
      λ rest.
          c.loop-session.invariant.3 (before_journaled c.args.known.now (into_iter_items c.loop-session.session-iterator) (into_iter_items c.next.new.self) c.in-Some.session c.into_parts-session.result.1
          split c.into_parts-session.ensures.known (c.precedes.ensures c.if-not-precedes.false) rest),
    )
