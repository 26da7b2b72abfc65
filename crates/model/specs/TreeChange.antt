-- What becomes of a document's revisions: grafts, stemming, stripping and cuts.
use Rattle.std.specs.Prelude.{◌≡◌, ◌↔◌, ℕ, ◌+◌, ◌<◌, Bool, true, false, not, ◌&&◌, ◌||◌, List, [], ◌∷◌, take, filter, Option, Some, None, is_some, option_and_then, unwrap_or, if◌then◌else◌}
use Rattle.std.specs.List.{list_any}
use Rattle.model.specs.Lists.{first_of, each_once}
use Rattle.model.specs.Map.{get, put, refine}
use Rattle.model.specs.Body.{Body}
use Rattle.model.specs.Revision.{Rev, same_rev}
use Rattle.model.specs.Tree.{Revision, Tree, Leaf, knows, parent_of, body_of, is_deleted, is_at, among, is_leaf, leaves, ancestor, path_of}

-- the revisions that pass, and the parents among them
unfoldable pub restrict : (Rev → Bool) → Tree → Tree
restrict keep t = refine (λ r v. if keep r then Some (record v { parent = option_and_then (λ p. if keep p then Some p else None) v.parent }) else None) t

-- the revisions fewer than `limit` steps above some leaf
-- CouchDB: PUT /{db}/_revs_limit
unfoldable pub stem : ℕ → Tree → Tree
stem limit t = restrict (λ r. list_any (λ l. among (take limit (path_of t l.rev)) r) (leaves t)) t

-- the bodies of the leaves alone
-- CouchDB: POST /{db}/_compact
unfoldable pub strip : Tree → Tree
strip t = refine (λ r v. Some (if is_leaf t r then v else record v { body = None })) t

-- ---- cuts

-- the revisions from which one of the leaves descends; nothing where there is no leaf
abbrev pub held_by : Tree → List Leaf → Option Tree
held_by t [] = None
held_by t (l ∷ ls) = Some (restrict (λ r. list_any (λ k. among (path_of t k.rev) r) (l ∷ ls)) t)

-- what is left where the named leaves go
-- CouchDB: POST /{db}/_purge
unfoldable pub cut : List Rev → Tree → Option Tree
cut named t = held_by t (filter (λ l. not (among named l.rev)) (leaves t))

-- the leaves that go, in the order named; a named revision that is no leaf is ignored
-- CouchDB: POST /{db}/_purge, "purged"
abbrev pub removed_leaves : List Rev → Tree → List Rev
removed_leaves named t = each_once same_rev (filter (is_leaf t) named)

-- ---- stems and cuts by parent steps

-- r is zero or more steps above some leaf that isn't named
pub record IsHeld (named : List Rev) (t : Tree) (r : Rev) : Type 0 where
  pub leaf : Rev
  pub at_leaf : is_leaf t leaf ≡ true
  pub stays : among named leaf ≡ false
  pub steps : ℕ
  pub leads : ancestor t steps (Some leaf) ≡ Some r

-- u has just the revisions of t for which `Keeps` holds, with what t has of them and the parents among them
pub record IsRestriction (Keeps : Rev → Type 0) (t u : Tree) : Type 0 where
  pub known : (r : Rev) → (knows u r ≡ true) ↔ Keeps r
  pub parents : (c p : Rev) → (parent_of u c ≡ Some p) ↔ ((parent_of t c ≡ Some p) × Keeps c × Keeps p)
  pub bodies : (r : Rev) → Keeps r → body_of u r ≡ body_of t r
  pub flags : (r : Rev) → Keeps r → is_deleted u r ≡ is_deleted t r

-- ---- grafts

-- newest first, each one generation older than the one before
-- CouchDB: GET /{db}/{docid}, "_revisions"
abbrev pub IsPath : List Rev → Type 0
IsPath [] = ⊥
IsPath (r ∷ []) = 0 < r.generation
IsPath (r ∷ next ∷ rest) = (r.generation ≡ next.generation + 1) × IsPath (next ∷ rest)

abbrev pub fits : Option Rev → Rev → Bool
fits None next = true
fits (Some p) next = same_rev p next

-- no member that has a next has a known parent other than the next
abbrev pub agrees : Tree → List Rev → Bool
agrees t [] = true
agrees t (r ∷ []) = true
agrees t (r ∷ next ∷ rest) = fits (parent_of t r) next && agrees t (next ∷ rest)

abbrev pub unseen : Revision
unseen = record { parent = None; deleted = false; body = None }

abbrev pub linked_to : List Rev → Revision → Revision
linked_to [] v = v
linked_to (next ∷ rest) v = record v { parent = Some next }

-- with the members of the path known, each next the parent of the one before
abbrev pub linked : List Rev → Tree → Tree
linked [] t = t
linked (r ∷ rest) t = put (linked rest t) r (linked_to rest (unwrap_or (get t r) unseen))

abbrev pub given : Body → Bool → Revision → Revision
given body deleted v = if is_some v.body then v else record v { body = Some body; deleted = deleted }

-- with a body and a flag for the newest, where it has no body
-- CouchDB: POST /{db}/_bulk_docs, "new_edits"
unfoldable pub grafted : List Rev → Body → Bool → Tree → Tree
grafted path body deleted t = refine (λ r v. Some (if is_at (first_of path) r then given body deleted v else v)) (linked path t)

-- nothing where a known parent contradicts the path
-- CouchDB: POST /{db}/_bulk_docs, "new_edits"
unfoldable pub graft : List Rev → Body → Bool → Tree → Option Tree
graft path body deleted t = if agrees t path then Some (grafted path body deleted t) else None

-- ---- a graft as a union of sets

-- c and p are neighbours on the path
abbrev pub is_pair : List Rev → Rev → Rev → Bool
is_pair [] c p = false
is_pair (r ∷ []) c p = false
is_pair (r ∷ next ∷ rest) c p = (same_rev r c && same_rev next p) || is_pair (next ∷ rest) c p

-- u has what t has, the path's members and its neighbour pairs, and nothing else; the newest has a body
pub record IsUnion (newest : Rev) (older : List Rev) (body : Body) (deleted : Bool) (t u : Tree) : Type 0 where
  pub known : (r : Rev) → knows u r ≡ (knows t r || among (newest ∷ older) r)
  pub parents : (c p : Rev) → is_at (parent_of u c) p ≡ (is_at (parent_of t c) p || is_pair (newest ∷ older) c p)
  pub others : (r : Rev) → same_rev newest r ≡ false → (body_of u r ≡ body_of t r) × (is_deleted u r ≡ is_deleted t r)
  pub had_body : (b : Body) → body_of t newest ≡ Some b → (body_of u newest ≡ Some b) × (is_deleted u newest ≡ is_deleted t newest)
  pub had_none : body_of t newest ≡ None → (body_of u newest ≡ Some body) × (is_deleted u newest ≡ deleted)

-- a member of the path has a known parent other than its next
pub record Contradicts (t : Tree) (path : List Rev) : Type 0 where
  pub child : Rev
  pub next : Rev
  pub parent : Rev
  pub pair : is_pair path child next ≡ true
  pub known : parent_of t child ≡ Some parent
  pub other : same_rev parent next ≡ false
