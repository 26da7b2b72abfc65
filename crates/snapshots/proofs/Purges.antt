-- The purge of one document after another.
use Rattle.std.specs.Prelude.{◌≡◌, ◌≢◌, ◌+◌, ◌<◌, ℕ, List, [], ◌∷◌, ◌++◌, length, take, map, All, T, Some, refl}
use Rattle.std.specs.Ordering.{is_eq}
use Rattle.std.specs.declared.cmp.Ordering.TheVariants.{Less}
use Rattle.std.specs.Cmp.{tied_itself}
use Rattle.std.specs.FinMap.Entries.{is_sorted}
use Rattle.std.proofs.Common.{ap, sym, subst, ◌∙◌, arith, get_or}
use Rattle.std.proofs.lemmas.Bool.{true≢false}
use Rattle.std.proofs.lemmas.List.{get_or-take, get_or_default, take_more, length-take, map-append}
use Rattle.model.specs.Map.{Map, entries, refine_list, IsRising}
use Rattle.model.specs.Revision.{Rev}
use Rattle.model.specs.Command.{Id, names}
use Rattle.model.specs.Database.{Database, removed_of, after_purge, after_purges, purge_reply}
use Rattle.model.proofs.BulkLaws.{after_purges-append}
use Rattle.model.proofs.RisingLaws.{AllPairs-map}
use Rattle.model.proofs.PurgeLaws.{removed_before}

abbrev Named : Type 0
Named = Id × List Rev

-- the removed leaves of a document, as the database stood before
abbrev pub answered : Database → Named → Named
answered d e = (e.0, removed_of d e.0 e.1)

module _ (es : List Named) (rising : IsRising names (map (λ (e : Named). e.0) es)) (i : ℕ) (x : Named) (lt : i < length es) (is : x ≡ get_or es i x) where
  -- no document before has its id
  apart_front : All (λ e. x.0 ≢ e.0) (take i es)
  apart_front k d few same =
      let upto : k < i = omega (arith, few, length-take i es) in
      let rise : names.cmp (get_or es k d).0 (get_or es i d).0 ≡ Less = AllPairs-map (λ a b. names.cmp a b ≡ Less) (λ (e : Named). e.0) es rising k i d upto lt in
      let own : x ≡ get_or es i d = is ∙ get_or_default es i x d lt in
      let ids : (get_or es k d).0 ≡ (get_or es i d).0 = sym (ap (λ (e : Named). e.0) (get_or-take i es k d upto)) ∙ sym same ∙ ap (λ (e : Named). e.0) own in
      true≢false (sym (ap is_eq (tied_itself names.total (get_or es i d).0)) ∙ ap is_eq (subst (λ a. names.cmp a (get_or es i d).0 ≡ Less) ids rise))

  take-next : take (i + 1) es ≡ take i es ++ x ∷ []
  take-next = take_more es i x lt ∙ ap (λ (e : Named). take i es ++ e ∷ []) (sym is)

  pub removed-next : (d now : Database) → now ≡ after_purges d (take i es) → removed_of now x.0 x.1 ≡ removed_of d x.0 x.1
  removed-next d now so_far = ap (λ (e : Database). removed_of e x.0 x.1) so_far ∙ removed_before d (take i es) x.0 x.1 apart_front

  pub after_purges-next : (d now later : Database) → now ≡ after_purges d (take i es) → later ≡ after_purge now x → later ≡ after_purges d (take (i + 1) es)
  after_purges-next d now later so_far step =
      step ∙ ap (λ (e : Database). after_purge e x) so_far
      ∙ sym (after_purges-append d (take i es) (x ∷ []))
      ∙ ap (after_purges d) (sym take-next)

  pub answered-next : (d : Database) (rs : List Named) (r : Named) → rs ≡ map (answered d) (take i es) → r ≡ answered d x → rs ++ r ∷ [] ≡ map (answered d) (take (i + 1) es)
  answered-next d rs r so_far one =
      (λ j. so_far j ++ one j ∷ []) ∙ sym (map-append (answered d) (take i es) (x ∷ [])) ∙ ap (map (answered d)) (sym take-next)

pub answered-all : (d : Database) (es : List Named) → map (answered d) es ≡ refine_list names (λ id revs. Some (removed_of d id revs)) es
answered-all d [] = refl
answered-all d (e ∷ es) = ap (λ rs. answered d e ∷ rs) (answered-all d es)

pub answered-sorted : (d : Database) (m : Map names (List Rev)) (rs : List Named) → rs ≡ map (answered d) (entries m) → T (is_sorted names.cmp rs)
answered-sorted d m rs is = subst (λ es. T (is_sorted names.cmp es)) (sym (is ∙ answered-all d (entries m))) (purge_reply d m).sorted
