-- The revisions of a document: which are known, whose child each is, which are deleted, and the bodies that are kept.
use Rattle.std.specs.Prelude.{◌≡◌, ◌≢◌, ℕ, zero, suc, ◌+◌, ◌<◌, T, Bool, true, false, not, ◌&&◌, List, [], ◌∷◌, map, filter, Option, Some, None, is_some, option_map, option_and_then, unwrap_or, if◌then◌else◌, refl}
use Rattle.std.specs.List.{list_any}
use Rattle.std.specs.declared.cmp.Ordering.{Ordering}
use Rattle.std.specs.declared.cmp.Ordering.TheVariants.{Less}
use Rattle.std.specs.Ordering.{is_eq, bool_cmp, then_cmp, flip_args, on}
use Rattle.std.specs.Cmp.{IsTotalOrder, on_total, then_total, back_total, bool_cmp_total}
use Rattle.std.specs.Coded.{Coded, code_by, coded×, coded_bool, coded_option}
use Rattle.std.specs.FinMap.{IsAntisymmetric}
use Rattle.std.proofs.lemmas.Map.Lookups.{exact_pairs}
use Rattle.std.proofs.Common.{ap, sym, subst}
use Rattle.model.specs.Lists.{first_of}
use Rattle.model.specs.Map.{Order, Map, entries, get, from_list, coded_map}
use Rattle.model.specs.Body.{Body, IsBody, coded_body}
use Rattle.model.specs.Revision.{Rev, IsRev, rev_cmp, revs, same_rev, coded_rev, rev_total, rev_exact}

-- what a tree has of a revision
-- CouchDB: "Replication and conflict model", "Revision tree"
pub record Revision : Type 0 where
  pub parent : Option Rev
  pub deleted : Bool
  pub body : Option Body

abbrev pub coded_revision : Coded Revision
coded_revision = code_by (Option Rev × (Bool × Option Body)) (coded× (coded_option coded_rev) (coded× coded_bool (coded_option coded_body))) (λ v. (v.parent, (v.deleted, v.body))) (λ p. record { parent = p.0; deleted = p.1.0; body = p.1.1 }) (λ _. refl)

-- CouchDB: "Replication and conflict model", "Revision tree"
abbrev pub Tree : Type 0
Tree = Map revs Revision

abbrev pub coded_tree : Coded Tree
coded_tree = coded_map coded_rev coded_revision

abbrev pub knows : Tree → Rev → Bool
knows t r = is_some (get t r)

abbrev pub parent_of : Tree → Rev → Option Rev
parent_of t r = option_and_then (λ v. v.parent) (get t r)

abbrev pub body_of : Tree → Rev → Option Body
body_of t r = option_and_then (λ v. v.body) (get t r)

abbrev pub is_deleted : Tree → Rev → Bool
is_deleted t r = unwrap_or (option_map (λ v. v.deleted) (get t r)) false

abbrev pub is_at : Option Rev → Rev → Bool
is_at None r = false
is_at (Some p) r = same_rev p r

-- r is one of the revisions
abbrev pub among : List Rev → Rev → Bool
among rs r = list_any (same_rev r) rs

-- r is the parent of a known revision
unfoldable pub has_child : Tree → Rev → Bool
has_child t r = list_any (λ e. is_at e.1.parent r) (entries t)

-- CouchDB: "Replication and conflict model", "Revision tree"
abbrev pub is_leaf : Tree → Rev → Bool
is_leaf t r = knows t r && not (has_child t r)

-- ---- leaves in the winner's order: not deleted before deleted, then the greater revision first

pub record Leaf : Type 0 where
  pub deleted : Bool
  pub rev : Rev

-- a leaf of t, with its flag
pub record IsLeafOf (t : Tree) (l : Leaf) : Type 0 where
  pub leaf : is_leaf t l.rev ≡ true
  pub flag : is_deleted t l.rev ≡ l.deleted

-- CouchDB: "Replication and conflict model", "Working with conflicting documents"
abbrev pub leaf_cmp : Leaf → Leaf → Ordering
leaf_cmp = then_cmp (on (λ l. l.deleted) bool_cmp) (flip_args (on (λ l. l.rev) rev_cmp))

pub leaf_total : IsTotalOrder leaf_cmp
leaf_total = then_total (on_total (λ l. l.deleted) bool_cmp_total) (back_total (on_total (λ l. l.rev) rev_total))

bool_exact : IsAntisymmetric bool_cmp
bool_exact false false e = refl
bool_exact false true e = absurd (subst (λ o. T (is_eq o)) (sym e) tt)
bool_exact true false e = absurd (subst (λ o. T (is_eq o)) (sym e) tt)
bool_exact true true e = refl

pub leaf_exact : IsAntisymmetric leaf_cmp
leaf_exact a b e = ap (λ (p : Bool × Rev). record { deleted = p.0; rev = p.1 }) (exact_pairs bool_cmp (flip_args rev_cmp) bool_exact (λ r s e. sym (rev_exact s r e)) (a.deleted, a.rev) (b.deleted, b.rev) e)

abbrev pub ranks : Order
ranks = record { key = Leaf; cmp = leaf_cmp; total = leaf_total; exact = leaf_exact }

abbrev pub as_leaf : Rev × Revision → Leaf × Unit {0}
as_leaf e = (record { deleted = e.1.deleted; rev = e.0 }, tt)

-- the known revisions that are parent of none
-- CouchDB: "Replication and conflict model", "Revision tree"
unfoldable pub leaves : Tree → List Leaf
leaves t = map (λ e. e.0) (entries (from_list {O = ranks} (map as_leaf (filter (λ e. is_leaf t e.0) (entries t)))))

-- CouchDB: "Replication and conflict model", "Working with conflicting documents"
abbrev pub winner : Tree → Option Leaf
winner t = first_of (leaves t)

-- the greatest leaf, without a list: deleted only where each leaf is, and with no greater revision at a leaf of its flag
-- CouchDB: "Replication and conflict model", "Working with conflicting documents"
pub record IsGreatestLeaf (t : Tree) (w : Leaf) : Type 0 where
  pub leaf : IsLeafOf t w
  pub live_first : w.deleted ≡ true → (l : Leaf) → IsLeafOf t l → l.deleted ≡ true
  pub greatest : (l : Leaf) → IsLeafOf t l → l.deleted ≡ w.deleted → rev_cmp w.rev l.rev ≢ Less

abbrev pub revs_of : List Leaf → List Rev
revs_of = map (λ l. l.rev)

-- ---- the way from a revision to the oldest known above it

-- the revision n parent steps above
abbrev pub ancestor : Tree → ℕ → Option Rev → Option Rev
ancestor t zero o = o
ancestor t (suc n) o = ancestor t n (option_and_then (parent_of t) o)

-- r is fewer than `limit` steps above some leaf
-- CouchDB: PUT /{db}/_revs_limit
pub record IsNear (limit : ℕ) (t : Tree) (r : Rev) : Type 0 where
  pub leaf : Rev
  pub at_leaf : is_leaf t leaf ≡ true
  pub steps : ℕ
  pub few : steps < limit
  pub leads : ancestor t steps (Some leaf) ≡ Some r

-- at most n steps up
abbrev pub upward : Tree → ℕ → Option Rev → List Rev
upward t zero o = []
upward t (suc n) None = []
upward t (suc n) (Some r) = r ∷ upward t n (parent_of t r)

-- from a revision, if there is one, to the oldest known above it: a generation falls by one at each step
abbrev pub ancestors : Tree → Option Rev → List Rev
ancestors t None = []
ancestors t (Some r) = upward t r.generation (Some r)

-- the known path of r, newest first
-- CouchDB: GET /{db}/{docid}, "revs"
abbrev pub path_of : Tree → Rev → List Rev
path_of t r = if knows t r then ancestors t (Some r) else []

-- ---- trees that a document can have

-- each parent is known and one generation older, and each leaf has a body
-- CouchDB: "Replication and conflict model", "Revision tree"
pub record IsForest (t : Tree) : Type 0 where
  pub parents : (r p : Rev) → parent_of t r ≡ Some p → (knows t p ≡ true) × (r.generation ≡ p.generation + 1)
  pub generations : (r : Rev) → knows t r ≡ true → 0 < r.generation
  pub bodies : (r : Rev) → is_leaf t r ≡ true → is_some (body_of t r) ≡ true

-- and some revision is known
-- CouchDB: "Replication and conflict model", "Revision tree"
pub record IsTree (t : Tree) : Type 0 where
  pub forest : IsForest t
  pub some_known : (r : Rev) × (knows t r ≡ true)

-- its identities and bodies keep their ranges
pub record IsInRange (t : Tree) : Type 0 where
  pub known : (r : Rev) → knows t r ≡ true → IsRev r
  pub body : (r : Rev) (b : Body) → body_of t r ≡ Some b → IsBody b
