-- Members that were taken out of a line's objects.
use Rattle.std.proofs.Common.{◌≡◌, ◌↔◌, ℕ, Bool, List, [], ◌∷◌, Option, Some, None, IfSome, T, refl, sym, ap, ◌∙◌, subst}
use Rattle.std.specs.Prelude.{codes, IsSome}
use Rattle.std.specs.FinMap.Entries.{is_sorted}
use Rattle.serde_json.specs.Data.{Data, string, object, Members, no_members, member}
use Rattle.serde_json.specs.Find.{as_object, get_member}
use Rattle.json_profile.specs.Objects.{without}
use Rattle.model.specs.Body.{Body, IsBody}
use Rattle.model.specs.Command.{Id, IsId, names, Edit, IsEdit, Command, Edits, Merges, PutLocal, Purge, SetLimit, SetPurgedLimit, Compact, IsCommand}
use Rattle.model.specs.Map.{Map, entries, same_list}
use Rattle.model.specs.Revision.{Rev, IsRev}
use Rattle.document_json.specs.Written.{rev_data}
use Rattle.api_json.specs.NamedRevisions.{pairs_in}
use Rattle.api_json.specs.Objects.{Named, members_from}
use Rattle.history_json.specs.Commands.{body_first, command_data, counter_member, rev_member, write_members}

-- the members of an object
pub inside : (value : Data) (ms inner : Members) → Some ms ≡ as_object value → value ≡ object inner → ms ≡ inner
inside value ms inner h is = let found : Some ms ≡ Some inner = h ∙ ap as_object is in cc

pub once : {X : Type 0} (x y : X) → Some x ≡ Some y → x ≡ y
once x y is = cc

-- ---- an edit over a revision

pub edit_found : (ms left : Members) (named : Data) (it : Edit) (write : Id × Bool × Body) (found : Option Edit)
    → ms ≡ write_members it.id it.deleted it.body (rev_member it.named) → Some named ≡ get_member (codes "rev") ms → left ≡ without (codes "rev") ms → IsEdit it
    → ((id : Id) (deleted : Bool) (body more : Members) → IsId id → IsBody body → left ≡ write_members id deleted body more → Some write ≡ Some (id, deleted, body))
    → ((rev : Rev) → IsRev rev → named ≡ rev_data rev → found ≡ Some (record { id = write.0; named = Some rev; deleted = write.1; body = write.2 }))
    → found ≡ Some it
edit_found ms left named it write found stands taken rest is writes tells = at it.named refl
  where
    at : (over : Option Rev) → it.named ≡ over → found ≡ Some it
    at None p =
        let here : ms ≡ write_members it.id it.deleted it.body no_members = stands ∙ ap (λ n. write_members it.id it.deleted it.body (rev_member n)) p in
        let none : ◌≡◌ {A = Option Data} (Some named) None = taken ∙ ap (get_member (codes "rev")) here in
        absurd (cc)
    at (Some rev) p =
        let here : ms ≡ write_members it.id it.deleted it.body (rev_member (Some rev)) = stands ∙ ap (λ n. write_members it.id it.deleted it.body (rev_member n)) p in
        let over : named ≡ rev_data rev = once named (rev_data rev) (taken ∙ ap (get_member (codes "rev")) here) in
        let fits : IsRev rev = subst (λ n. IfSome n IsRev) p is.named in
        let wrote : write ≡ (it.id, it.deleted, it.body) = once write _ (writes it.id it.deleted it.body no_members is.id is.body (rest ∙ ap (without (codes "rev")) here)) in
        tells rev fits over ∙ ap (λ w. Some (record { id = w.0; named = Some rev; deleted = w.1; body = w.2 })) wrote
        ∙ ap (λ n. Some (record { id = it.id; named = n; deleted = it.deleted; body = it.body })) (sym p)

-- ---- documents

pub pairs_in-members_from : (members : List Named) → pairs_in (members_from members) ≡ members
pairs_in-members_from [] = refl
pairs_in-members_from (m ∷ members) = ap (λ ms. m ∷ ms) (pairs_in-members_from members)

pub if_some : {X : Type 0} (o : Option X) (P Q : X → Type 0) → ((x : X) → P x → Q x) → IfSome o P → IfSome o Q
if_some None P Q f h = tt
if_some (Some x) P Q f h = f x h

pub named_once : (o : Option (Map names (List Rev))) (documents : List (Id × List Rev)) (named : Map names (List Rev))
    → (IsSome o ↔ T (is_sorted names.cmp documents)) → IfSome o (λ n. entries n ≡ documents) → documents ≡ entries named → o ≡ Some named
named_once None documents named rising listed is = let some = rising.1 (subst (λ ds. T (is_sorted names.cmp ds)) (sym is) named.sorted) in absurd (none some)
  where
    none : IsSome {T = Map names (List Rev)} None → ⊥
    none h = cc
named_once (Some n) documents named rising listed is = ap Some (same_list n named (listed ∙ is))

-- ---- a write of a local document

module _ (ms left rest : Members) (id : Data) (found : Option Command) where
  abbrev Tells : Type 0
  Tells = (i : Id) (named : Option ℕ) (body : Option Body) → IsCommand (PutLocal i named body) → id ≡ string i → rest ≡ body_first body (counter_member named) → found ≡ Some (PutLocal i named body)

  local_at : (i : Id) (named : Option ℕ) (body : Option Body) → IsCommand (PutLocal i named body) → ms ≡ body_first body (member (codes "local") (string i) (counter_member named))
      → left ≡ without (codes "bulk") ms → Some id ≡ get_member (codes "local") left → rest ≡ without (codes "local") left → Tells → found ≡ Some (PutLocal i named body)
  local_at i None None is here first taken second tells =
      let there = first ∙ ap (without (codes "bulk")) here in
      tells i None None is (once id (string i) (taken ∙ ap (get_member (codes "local")) there)) (second ∙ ap (without (codes "local")) there)
  local_at i None (Some body) is here first taken second tells =
      let there = first ∙ ap (without (codes "bulk")) here in
      tells i None (Some body) is (once id (string i) (taken ∙ ap (get_member (codes "local")) there)) (second ∙ ap (without (codes "local")) there)
  local_at i (Some counter) None is here first taken second tells =
      let there = first ∙ ap (without (codes "bulk")) here in
      tells i (Some counter) None is (once id (string i) (taken ∙ ap (get_member (codes "local")) there)) (second ∙ ap (without (codes "local")) there)
  local_at i (Some counter) (Some body) is here first taken second tells =
      let there = first ∙ ap (without (codes "bulk")) here in
      tells i (Some counter) (Some body) is (once id (string i) (taken ∙ ap (get_member (codes "local")) there)) (second ∙ ap (without (codes "local")) there)

  other : (inner : Members) → ms ≡ inner → left ≡ without (codes "bulk") ms → Some id ≡ get_member (codes "local") left → get_member (codes "local") (without (codes "bulk") inner) ≡ None → ⊥
  other inner here first taken none = let some : ◌≡◌ {A = Option Data} (Some id) None = taken ∙ ap (get_member (codes "local")) (first ∙ ap (without (codes "bulk")) here) ∙ none in cc

  no_bulk : (inner : Members) (d : Data) → ms ≡ inner → ◌≡◌ {A = Option Data} None (get_member (codes "bulk") ms) → get_member (codes "bulk") inner ≡ Some d → ⊥
  no_bulk inner d here none some = let is : ◌≡◌ {A = Option Data} None (Some d) = none ∙ ap (get_member (codes "bulk")) here ∙ some in cc

  pub local_found : (value : Data) (c : Command) → Some ms ≡ as_object value → IsCommand c → value ≡ command_data c → ◌≡◌ {A = Option Data} None (get_member (codes "bulk") ms)
      → left ≡ without (codes "bulk") ms → Some id ≡ get_member (codes "local") left → rest ≡ without (codes "local") left → Tells → found ≡ Some c
  local_found value (Edits es) object_is is e none first taken second tells = absurd (no_bulk _ _ (inside value ms _ object_is e) none refl)
  local_found value (Merges ws) object_is is e none first taken second tells = absurd (no_bulk _ _ (inside value ms _ object_is e) none refl)
  local_found value (PutLocal i named body) object_is is e none first taken second tells = local_at i named body is (inside value ms _ object_is e) first taken second tells
  local_found value (Purge named) object_is is e none first taken second tells = absurd (other _ (inside value ms _ object_is e) first taken refl)
  local_found value (SetLimit limit) object_is is e none first taken second tells = absurd (other _ (inside value ms _ object_is e) first taken refl)
  local_found value (SetPurgedLimit limit) object_is is e none first taken second tells = absurd (other _ (inside value ms _ object_is e) first taken refl)
  local_found value Compact object_is is e none first taken second tells = absurd (other _ (inside value ms _ object_is e) first taken refl)
