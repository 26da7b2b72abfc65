-- What is lacking of documents that are not known, and of several documents.
use Rattle.std.specs.Prelude.{◌≡◌, ℕ, true, List, [], ◌∷◌, ◌++◌, filter, nat_lt, Option, Some, None, refl}
use Rattle.std.proofs.Common.{sym, ap, ◌∙◌}
use Rattle.model.specs.Lists.{each_once}
use Rattle.model.specs.Map.{empty, kept, refine_list}
use Rattle.model.specs.Revision.{Rev, same_rev}
use Rattle.model.specs.Tree.{leaves, revs_of}
use Rattle.model.specs.Command.{Id, names}
use Rattle.model.specs.Query.{Difference}
use Rattle.model.specs.Documents.{in_order, missing_from}
use Rattle.changes_feed.specs.Lacking.{ancestors_of, one_lacking}

passing_all : (xs : List Rev) → filter (λ r. true) xs ≡ xs
passing_all [] = refl
passing_all (x ∷ xs) = ap (λ ys. x ∷ ys) (passing_all xs)

-- of a document that is not known all are missing
pub missing-empty : (asked : List Rev) → missing_from empty asked ≡ each_once same_rev asked
missing-empty asked = ap (each_once same_rev) (passing_all asked)

leaves-empty : leaves empty ≡ []
unfolding leaves
leaves-empty = refl

-- and no leaf is an ancestor
pub ancestors-empty : (generation : ℕ) → [] ≡ ancestors_of generation empty
ancestors-empty generation = sym (ap (λ ls. in_order (filter (λ (l : Rev). nat_lt l.generation generation) (revs_of ls))) leaves-empty)

module _ (f : Id → List Rev → Option Difference) where
  kept-append : (o : Option Difference) (e : Id × List Rev) (es ds : List (Id × Difference)) → (elim o [ None ↦ es ++ ds | Some y ↦ (e.0, y) ∷ (es ++ ds) ]) ≡ (elim o [ None ↦ es | Some y ↦ (e.0, y) ∷ es ]) ++ ds
  kept-append None e es ds = refl
  kept-append (Some y) e es ds = refl

  -- one more document goes last, if it lacks something
  pub refine_list-push : (es : List (Id × List Rev)) (e : Id × List Rev) → refine_list names f (es ++ e ∷ []) ≡ refine_list names f es ++ one_lacking e.0 (f e.0 e.1)
  refine_list-push [] e = at (f e.0 e.1)
    where
      at : (o : Option Difference) → (elim o [ None ↦ [] | Some y ↦ (e.0, y) ∷ [] ]) ≡ one_lacking e.0 o
      at None = refl
      at (Some y) = refl
  refine_list-push (d ∷ ds) e = ap (kept names f d) (refine_list-push ds e) ∙ kept-append (f d.0 d.1) d (refine_list names f ds) (one_lacking e.0 (f e.0 e.1))
