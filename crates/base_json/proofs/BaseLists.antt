-- What a base has, in lists.
use Rattle.std.proofs.Common.{◌≡◌, ℕ, ◌≤◌, List, [], ◌∷◌, Option, Some, None, All, refl, ap, ◌∙◌, arith, IfSome}
use Rattle.std.specs.Prelude.{Contains, is_some, option_and_then}
use Rattle.std.proofs.lemmas.List.Elements.{All-contains_itself, All-cons, All-head, All-nil, All-tail, All-weaker}
use Rattle.model.specs.Body.{IsBody}
use Rattle.model.specs.Command.{names, Id}
use Rattle.model.specs.Database.{Database, Record, IsLocal}
use Rattle.model.specs.History.{IsBase, largest_base}
use Rattle.model.specs.Map.{Order, Map, entries, get}
use Rattle.model.proofs.MapLaws.{Contains-entries}
use Rattle.model.specs.PurgeLog.{AreNumbered, IsPurgeInfo, PurgeInfo}
use Rattle.model.specs.Revision.{IsRev, revs}
use Rattle.model.specs.Tree.{Tree, IsTree, IsInRange}
use Rattle.base_json.specs.Base.{IsKnown, IsLogged, IsStored, kept_local_data, purge_info_data, record_data}
use Rattle.base_json.specs.Pieces.{IsPiece}
use Rattle.base_json.proofs.BaseInProfile.{AreListed, IsListed, piece_kept, piece_purge_info, piece_record}

pub all_at : {X : Type 0} (O : Order) (P : O.key × X → Type 0) (m : Map O X) → ((k : O.key) (x : X) → get m k ≡ Some x → P (k, x)) → All P (entries m)
all_at O P m each = All-weaker (Contains (entries m)) P (λ e c. each e.0 e.1 ((Contains-entries O m e.0 e.1).0 c)) (entries m) (All-contains_itself (entries m))

if_is : {X : Type 0} (o : Option X) (P : X → Type 0) → ((x : X) → o ≡ Some x → P x) → IfSome o P
if_is None P f = tt
if_is (Some x) P f = f x refl

-- ---- revisions

pub known_all : (t : Tree) → IsTree t → IsInRange t → All IsKnown (entries t)
known_all t tree range = all_at revs IsKnown t (λ r v at. record {
  rev = range.known r (ap is_some at);
  parent = if_is v.parent IsRev (λ p e. range.known p (tree.forest.parents r p (ap (option_and_then (λ w. w.parent)) at ∙ e)).0);
  body = if_is v.body IsBody (λ b e. range.body r b (ap (option_and_then (λ w. w.body)) at ∙ e));
})

-- ---- documents, local documents and purges

pub stored_all : (d : Database) → IsBase d → All IsStored (entries d.docs)
stored_all d h = all_at names IsStored d.docs (λ id r at.
    let low = (h.database.numbered.within id r at).1 in
    let high = h.updates in
    record { stored = h.database.docs id r at; seq = omega (arith, low, high) })

listed_one : (e : Id × Record) → IsStored e → IsListed e
listed_one e s =
    let low = s.seq in
    record { id = s.stored.identity; known = known_all e.1.tree s.stored.tree s.stored.in_range; seq = omega (arith, low) }

pub documents_pieces : (d : Database) → IsBase d → All (λ e. IsStored e × IsPiece (record_data e)) (entries d.docs)
documents_pieces d h = All-weaker IsStored (λ e. IsStored e × IsPiece (record_data e)) (λ e s. (s, piece_record e (listed_one e s))) (entries d.docs) (stored_all d h)

listed_all : (documents : List (Id × Record)) → All IsStored documents → All IsListed documents
listed_all documents h = All-weaker IsStored IsListed listed_one documents h

pub locals_all : (d : Database) → IsBase d → All (λ l. IsLocal l.0 l.1) (entries d.locals)
locals_all d h = all_at names (λ l. IsLocal l.0 l.1) d.locals h.database.locals

pub locals_pieces : (d : Database) → IsBase d → All (λ l. IsLocal l.0 l.1 × IsPiece (kept_local_data l)) (entries d.locals)
locals_pieces d h = All-weaker (λ l. IsLocal l.0 l.1) (λ l. IsLocal l.0 l.1 × IsPiece (kept_local_data l)) (λ l s. (s, piece_kept l s)) (entries d.locals) (locals_all d h)

logged_all : (n : ℕ) (infos : List PurgeInfo) → n ≤ largest_base → AreNumbered n infos → All IsPurgeInfo infos → All IsLogged infos
logged_all n [] le numbered h = All-nil IsLogged
logged_all n (p ∷ ps) le numbered h =
    let last = numbered.0 in
    All-cons IsLogged p ps (record { purge = All-head IsPurgeInfo p ps h; seq = omega (arith, last, le) })
    (logged_all n ps le numbered.2 (All-tail IsPurgeInfo p ps h))

pub purges_all : (d : Database) → IsBase d → All IsLogged d.purges.infos
purges_all d h = logged_all d.purges.purge_seq d.purges.infos h.purges h.database.log.numbered h.database.log.infos

pub purges_pieces : (d : Database) → IsBase d → All (λ p. IsLogged p × IsPiece (purge_info_data p)) d.purges.infos
purges_pieces d h = All-weaker IsLogged (λ p. IsLogged p × IsPiece (purge_info_data p)) (λ p s. (s, piece_purge_info p s)) d.purges.infos (purges_all d h)

pub listed_base : (d : Database) → IsBase d → AreListed d
listed_base d h =
    let limit = h.database.revs_limit.1 in
    let kept = h.database.log.limit.1 in
    let updates = h.updates in
    let purges = h.purges in record {
      docs = listed_all (entries d.docs) (stored_all d h);
      locals = locals_all d h;
      purges = purges_all d h;
      revs_limit = omega (arith, limit);
      purged_limit = omega (arith, kept);
      purge_seq = omega (arith, purges);
      update_seq = omega (arith, updates);
    }
