-- Local documents that are read from a list.
use Rattle.std.specs.Prelude.{◌≡◌, ◌↔◌, T, List, All, Contains, Option, Some, None}
use Rattle.std.specs.FinMap.Entries.{is_sorted}
use Rattle.std.proofs.Common.{ap, sym, subst, ◌∙◌}
use Rattle.std.proofs.lemmas.Option.{none-some, same_Some}
use Rattle.std.proofs.lemmas.List.Elements.{All-contains, All-contains_itself, All-weaker}
use Rattle.model.specs.Map.{Map, entries, same_list}
use Rattle.model.specs.Command.{Id, names}
use Rattle.model.specs.Local.{Local}
use Rattle.model.specs.Database.{IsLocal}
use Rattle.model.proofs.MapLaws.{Contains-entries}
use Rattle.local_docs.specs.Listed.{IsListOf}

module _ (es : List (Id × Local)) where
  pub rises : (m : Map names Local) → IsListOf es m → T (is_sorted names.cmp es)
  rises m h = subst (λ ds. T (is_sorted names.cmp ds)) h.entries m.sorted

  pub each_local : (m : Map names Local) → IsListOf es m → All (λ d. IsLocal d.0 d.1) es
  each_local m h = All-weaker (Contains es) (λ d. IsLocal d.0 d.1) (λ d c. h.each d.0 d.1 ((Contains-entries names m d.0 d.1).0 (subst (λ ds. Contains ds d) (sym h.entries) c))) es (All-contains_itself es)

  list_of : (m : Map names Local) → entries m ≡ es → All (λ d. IsLocal d.0 d.1) es → IsListOf es m
  list_of m is all = record {
    entries = is;
    each = λ id l at. All-contains (λ d. IsLocal d.0 d.1) es (id, l) all (subst (λ ds. Contains ds (id, l)) is ((Contains-entries names m id l).1 at));
  }

  -- it is of that map alone
  pub made_only : (made m : Map names Local) → entries made ≡ es → All (λ d. IsLocal d.0 d.1) es → (Some made ≡ Some m) ↔ IsListOf es m
  made_only made m is all = (
    λ e. subst (IsListOf es) (same_Some made m e) (list_of made is all),
    λ h. ap Some (same_list made m (is ∙ sym h.entries)),
  )

  pub refused : (m : Map names Local) → (IsListOf es m → ⊥) → ◌≡◌ {A = Option (Map names Local)} None (Some m) ↔ IsListOf es m
  refused m never = (λ e. absurd (none-some m e), λ h. absurd (never h))
