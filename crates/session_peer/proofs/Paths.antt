-- Documents that are opened with their paths show them.
use Rattle.std.proofs.Common.{◌≡◌, ℕ, zero, suc, true, cond, List, [], ◌∷◌, All, Option, Some, None, is_some, option_map, option_and_then, unwrap_or, ok_or, Ok, Err, refl, sym, ap, subst, arith}
use Rattle.std.proofs.lemmas.List.Elements.{All-cons, All-map, All-nil}
use Rattle.std.proofs.lemmas.Option.{none-some}
use Rattle.model.specs.Map.{get}
use Rattle.model.specs.Body.{Body}
use Rattle.model.specs.Command.{Id}
use Rattle.model.specs.Database.{Database, Record, IsDatabase}
use Rattle.model.specs.Documents.{asked_of, document, opened, opened_at, opened_in, opened_unknown}
use Rattle.model.specs.Revision.{Rev}
use Rattle.model.specs.Tree.{Revision, Tree, IsForest, ancestors, body_of, knows, parent_of, path_of, upward}
use Rattle.model.specs.TreeChange.{IsPath}
use Rattle.session_peer.specs.Shown.{ShowPaths, ShowsPath, with_paths}

every : {X : Type 0} (P : X → Type 0) → ((x : X) → P x) → (xs : List X) → All P xs
every P holds [] = All-nil P
every P holds (x ∷ xs) = All-cons P x xs (holds x) (every P holds xs)

module _ (t : Tree) (forest : IsForest t) where
  -- the way up from a known revision is a path
  upward-is_path : (n : ℕ) (r : Rev) → knows t r ≡ true → r.generation ≡ n → IsPath (upward t n (Some r))
  upward-is_path zero r k e = absurd (omega (arith, forest.generations r k))
  upward-is_path (suc n) r k e = at n (omega arith) (upward-is_path n) (parent_of t r) refl
    where
      at : (m : ℕ) → r.generation ≡ suc m → ((p : Rev) → knows t p ≡ true → p.generation ≡ m → IsPath (upward t m (Some p)))
          → (o : Option Rev) → parent_of t r ≡ o → IsPath (r ∷ upward t m o)
      at zero e above None is = omega arith
      at (suc m) e above None is = omega arith
      at zero e above (Some p) is = let up = forest.parents r p is in absurd (omega (arith, up.1, forest.generations p up.0))
      at (suc m) e above (Some p) is = let up = forest.parents r p is in (up.1, above p up.0 (omega (arith, up.1)))

  path-is_path : (r : Rev) → knows t r ≡ true → IsPath (path_of t r)
  path-is_path r k = subst (λ b. IsPath (cond b (ancestors t (Some r)) [])) (sym k) (upward-is_path r.generation r k refl)

  has_body-known : (r : Rev) (b : Body) (o : Option Revision) → get t r ≡ o → option_and_then (λ v. v.body) o ≡ Some b → knows t r ≡ true
  has_body-known r b None is e = absurd (none-some b e)
  has_body-known r b (Some v) is e = ap is_some is

  document-shows : (id : Id) (r : Rev) (b : Body) → knows t r ≡ true → ShowsPath (Ok (document id t with_paths r b))
  unfolding document
  document-shows id r b k = path-is_path r k

  opened-at-shows : (id : Id) (r : Rev) → ShowsPath (opened_at id t with_paths r)
  opened-at-shows id r = at (body_of t r) refl
    where
      at : (o : Option Body) → body_of t r ≡ o → ShowsPath (ok_or (option_map (document id t with_paths r) o) r)
      at None is = tt
      at (Some b) is = document-shows id r b (has_body-known r b (get t r) refl is)

  opened-in-shows : (id : Id) (revs : List Rev) → ShowPaths (opened_in id with_paths (Some revs) t)
  opened-in-shows id revs =
      All-map ShowsPath (opened_at id t with_paths) (asked_of t with_paths (Some revs)) (every (λ r. ShowsPath (opened_at id t with_paths r)) (opened-at-shows id) (asked_of t with_paths (Some revs)))

unknown-shows : (revs : List Rev) → ShowPaths (opened_unknown (Some revs))
unknown-shows revs = All-map ShowsPath Err revs (every (λ r. ShowsPath (Err r)) (λ r. tt) revs)

pub opened-shows : (d : Database) (id : Id) (revs : List Rev) → IsDatabase d → ShowPaths (opened d id (Some revs) with_paths)
opened-shows d id revs valid = at (get d.docs id) refl
  where
    at : (o : Option Record) → get d.docs id ≡ o
        → ShowPaths (unwrap_or (option_map (opened_in id with_paths (Some revs)) (option_map (λ r. r.tree) o)) (opened_unknown (Some revs)))
    at None is = unknown-shows revs
    at (Some r) is = opened-in-shows r.tree (valid.docs id r is).tree.forest id revs
