-- What is read of the version that a session sees.
use Rattle.std.proofs.Common.{◌≡◌, ℕ, zero, suc, List, Option, refl, ap, sym, subst, ◌∙◌, option_map}
use Rattle.std.specs.Prelude.{Result, IfOk}
use Rattle.std.proofs.lemmas.Result.{IfOk-weaker}
use Rattle.model.specs.Answers.{answer_to}
use Rattle.model.specs.Body.{Body}
use Rattle.model.specs.Changes.{changes_page, wanted_by}
use Rattle.model.specs.Command.{Id, names}
use Rattle.model.specs.Database.{Database}
use Rattle.model.specs.Documents.{differences, opened}
use Rattle.model.specs.History.{Chronicle, now}
use Rattle.model.specs.Map.{Map, get}
use Rattle.model.specs.Query.{Changed, Changes, ChangesPage, Difference, Differences, Document, FoundLocal, GetLocal, OpenRevs, Opened, Options, RevsDiff}
use Rattle.model.specs.Revision.{Rev}
use Rattle.model.specs.declared.style.Style.{Style}
use Rattle.changes_feed.specs.Shown.{local_shown}
use Rattle.session_api.specs.Known.{Known, entry_at, history_of}
use Rattle.snapshots.specs.Version.{entry_at as entry_of_version}

-- the entry at a place of a version is that of what was seen
pub same_entry : (k : Known) (seen : Chronicle) (place : ℕ) → seen ≡ history_of k → entry_of_version seen.entries place ≡ entry_at k place
same_entry k seen zero is = refl
same_entry k seen (suc n) is = ap (λ (h : Chronicle). entry_of_version h.entries (suc n)) is

-- what a version answers is what is answered over what was seen
pub over_seen : {A E : Type 0} (result : Result A E) (P : Database → A → Type 0) (seen told : Chronicle) → seen ≡ told → IfOk result (P (now seen)) → IfOk result (P (now told))
over_seen result P seen told is = subst (λ (h : Chronicle). IfOk result (P (now h))) is

-- each of the reads that take an answer apart
module _ (d : Database) where
  pub is_differences : (asked : Map names (List Rev)) (lacking : Map names Difference) → lacking ≡ differences d asked → Differences lacking ≡ answer_to d (RevsDiff asked)
  unfolding answer_to
  is_differences asked lacking is = ap Differences is

  pub is_opened : (id : Id) (asked : Option (List Rev)) (options : Options) (given : List (Result Document Rev)) → given ≡ opened d id asked options → Opened given ≡ answer_to d (OpenRevs id asked options)
  unfolding answer_to
  is_opened id asked options given is = ap Opened is

  pub is_local : (id : Id) (local : Option (ℕ × Body)) → local ≡ option_map local_shown (get d.locals id) → FoundLocal local ≡ answer_to d (GetLocal id)
  unfolding answer_to
  is_local id local is = ap FoundLocal is

-- a page of the changes of these documents
is_changes : (d : Database) (asked ids : Option (List Id)) → asked ≡ ids → (since : ℕ) (limit : Option ℕ) (style : Style) (page : ChangesPage)
    → page ≡ changes_page (wanted_by ids) d since limit style → Changed page ≡ answer_to d (Changes since limit style asked)
unfolding answer_to
is_changes d asked ids same since limit style page is = ap Changed (is ∙ ap (λ (listed : Option (List Id)). changes_page (wanted_by listed) d since limit style) (sym same))

pub page_over : {E : Type 0} (seen told : Chronicle) → seen ≡ told → (asked ids : Option (List Id)) → asked ≡ ids → (since : ℕ) (limit : Option ℕ) (style : Style) (result : Result ChangesPage E)
    → IfOk result (λ page. page ≡ changes_page (wanted_by ids) (now seen) since limit style) → IfOk result (λ page. Changed page ≡ answer_to (now told) (Changes since limit style asked))
page_over seen told is asked ids same since limit style result page =
    over_seen result (λ (d : Database) (given : ChangesPage). Changed given ≡ answer_to d (Changes since limit style asked)) seen told is
    (IfOk-weaker result _ _ (λ given given_is. is_changes (now seen) asked ids same since limit style given given_is) page)
