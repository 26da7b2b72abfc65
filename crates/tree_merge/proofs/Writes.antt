-- A write of a path, and the leaves that a cut takes.
use Rattle.std.specs.Prelude.{◌≡◌, ◌↔◌, ℕ, ◌+◌, ◌<◌, Bool, true, false, not, ◌&&◌, ◌||◌, cond, List, [], ◌∷◌, ◌++◌, length, get_or, take, Option, Some, None, unwrap_or, Result, Ok, Err, IsErrAnd, if◌then◌else◌, refl}
use Rattle.std.proofs.Common.{sym, ap, ◌∙◌}
use Rattle.std.specs.BTreeSet.{BTreeSet, contains, Updates}
use Rattle.std.specs.Cmp.{both_ways}
use Rattle.std.proofs.lemmas.Bool.{true≢false, and_left, and_from, cond-true, cond-false}
use Rattle.std.proofs.lemmas.List.{take_more}
use Rattle.std.proofs.lemmas.List.Folds.{list_any-append}
use Rattle.model.specs.Map.{empty}
use Rattle.model.specs.Body.{Body}
use Rattle.model.specs.Revision.{Rev, rev_cmp, same_rev}
use Rattle.model.specs.Tree.{Tree, is_leaf, among}
use Rattle.model.specs.TreeChange.{graft, stem, removed_leaves}
use Rattle.model.specs.declared.refusal.Refusal.TheVariants.{BadHistory}
use Rattle.model.specs.Edit.{stemmed, with_path}
use Rattle.model.proofs.OnceLaws.{Contains-removed_leaves, removed_leaves-push}
use Rattle.model.proofs.AncestorLaws.{Contains-among}
use Rattle.model.proofs.PathLaws.{same_rev-symm}
use Rattle.tree_merge.specs.Seen.{AreSeen}
use Rattle.tree_merge.specs.declared.fault.MergeFault.{MergeFault}

-- ---- writes

module _ (limit : ℕ) (o : Option Tree) (path : List Rev) (body : Body) (deleted : Bool) where
  pub written_ok : (g : Tree) → graft path body deleted (unwrap_or o empty) ≡ Some g → with_path limit o path body deleted ≡ Ok (stem limit g)
  unfolding with_path
  written_ok g e = ap (stemmed limit) e

  refused_of : (x : Option Tree) → stemmed limit x ≡ Err BadHistory → x ≡ None
  refused_of None e = refl
  refused_of (Some t) e = cc

  pub written_refused : (graft path body deleted (unwrap_or o empty) ≡ None) ↔ (with_path limit o path body deleted ≡ Err BadHistory)
  unfolding with_path
  written_refused = (λ e. ap (stemmed limit) e, λ e. refused_of (graft path body deleted (unwrap_or o empty)) e)

pub same_fault : {X : Type 0} (r : Result X MergeFault) (e : MergeFault) → IsErrAnd r (λ f. f ≡ e) → r ≡ Err e
same_fault (Ok x) e h = absurd h
same_fault (Err f) e h = ap Err h

-- ---- the leaves that a cut takes

abbrev pub added : Tree → List Rev → Rev → List Rev
added t rs r = if is_leaf t r && not (among rs r) then rs ++ r ∷ [] else rs

seen : (named : List Rev) (t : Tree) (r : Rev) → is_leaf t r ≡ true → among (removed_leaves named t) r ≡ among named r
seen named t r l = both_ways _ _
    (λ h. (Contains-among named r).1 ((Contains-removed_leaves named t r).0 ((Contains-among (removed_leaves named t) r).0 h)).0)
    (λ h. (Contains-among (removed_leaves named t) r).1 ((Contains-removed_leaves named t r).1 ((Contains-among named r).0 h, l)))

pub added_next : (named : List Rev) (t : Tree) (i : ℕ) (r : Rev) (old new : List Rev) → i < length named → r ≡ get_or named i r → old ≡ removed_leaves (take i named) t → new ≡ added t old r → new ≡ removed_leaves (take (i + 1) named) t
added_next named t i r old new lt is before e =
    e ∙ ap (λ rs. added t rs r) before ∙ at (is_leaf t r) refl ∙ sym (removed_leaves-push (take i named) t r)
    ∙ ap (λ q. removed_leaves (take i named ++ q ∷ []) t) is ∙ ap (λ rs. removed_leaves rs t) (sym (take_more named i r lt))
  where
    at : (b : Bool) → is_leaf t r ≡ b → added t (removed_leaves (take i named) t) r ≡ cond (is_leaf t r && not (among (take i named) r)) (removed_leaves (take i named) t ++ r ∷ []) (removed_leaves (take i named) t)
    at true l = ap (λ b. cond (is_leaf t r && not b) (removed_leaves (take i named) t ++ r ∷ []) (removed_leaves (take i named) t)) (seen (take i named) t r l)
    at false l = cond-false (is_leaf t r && not (among (removed_leaves (take i named) t) r)) (removed_leaves (take i named) t ++ r ∷ []) (removed_leaves (take i named) t) (and_left (is_leaf t r) (not (among (removed_leaves (take i named) t) r)) l)
        ∙ sym (cond-false (is_leaf t r && not (among (take i named) r)) (removed_leaves (take i named) t ++ r ∷ []) (removed_leaves (take i named) t) (and_left (is_leaf t r) (not (among (take i named) r)) l))

pub is_added : (t : Tree) (rs : List Rev) (r : Rev) → is_leaf t r ≡ true → among rs r ≡ false → rs ++ r ∷ [] ≡ added t rs r
is_added t rs r l e = sym (cond-true (is_leaf t r && not (among rs r)) (rs ++ r ∷ []) rs (and_from (is_leaf t r) (not (among rs r)) l (ap not e)))

-- ---- the set of those that were taken

last_too : (a b : Bool) → (a || (b || false)) ≡ cond b true a
last_too true true = refl
last_too true false = refl
last_too false true = refl
last_too false false = refl

among-push : (rs : List Rev) (r q : Rev) → among (rs ++ r ∷ []) q ≡ cond (same_rev r q) true (among rs q)
among-push rs r q = list_any-append (same_rev q) rs (r ∷ []) ∙ last_too (among rs q) (same_rev q r) ∙ ap (λ b. cond b true (among rs q)) (same_rev-symm q r)

pub AreSeen-push : (s n : BTreeSet Rev) (rs : List Rev) (r : Rev) → Updates rev_cmp s n r true → AreSeen s rs → AreSeen n (rs ++ r ∷ [])
AreSeen-push s n rs r u h = record { has = λ q. u.0 q ∙ ap (cond (same_rev r q) true) (h.has q) ∙ sym (among-push rs r q) }

not_from_true : (a b : Bool) → a ≡ not b → a ≡ true → b ≡ false
not_from_true a true e h = absurd (true≢false (sym h ∙ e))
not_from_true a false e h = refl

-- what the set hasn't is not in the list
pub untaken_of : (s : BTreeSet Rev) (rs : List Rev) (r : Rev) (b : Bool) → AreSeen s rs → b ≡ not (contains rev_cmp s r) → b ≡ true → among rs r ≡ false
untaken_of s rs r b h e t = sym (h.has r) ∙ not_from_true b (contains rev_cmp s r) e t
