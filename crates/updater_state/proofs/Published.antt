-- What is published after a batch.
use Rattle.std.proofs.Common.{◌≡◌, ℕ, ◌+◌, ◌<◌, ◌≤◌, List, [], ◌∷◌, ◌++◌, length, drop, Option, refl, sym, ap, ◌∙◌, subst, arith, length-append}
use Rattle.std.proofs.lemmas.List.{drop_at}
use Rattle.std.specs.List.{All}
use Rattle.model.specs.Command.{Entry, Job}
use Rattle.model.specs.Database.{Database, act}
use Rattle.model.specs.History.{Chronicle, now, extended, batch_entries, Extends, Follows, extends}
use Rattle.version_log.specs.Histories.{newest, IsNewest}
use Rattle.version_log.proofs.Growing.{newest_after-append}
use Rattle.updater_state.specs.Outcomes.{Fate, all_stand}
use Rattle.updater_state.specs.Drafts.{Drafted, IsPublished, drafts_from, all_drafts_stand}
use Rattle.updater_state.specs.State.{entries_after}
use Rattle.updater_state.proofs.DraftLists.{all_published, all_drafts_stand-from}

-- the version of what was published last
abbrev pub chronicle_of : Option Database → List (List Entry) → Chronicle
chronicle_of base published = record { base = base; entries = newest published }

pub applied : (base : Option Database) (v latest : Chronicle) (current : List (List Entry)) (jobs : List Job) → v ≡ extended latest (batch_entries (now latest) jobs) → latest ≡ chronicle_of base current → v ≡ extended (chronicle_of base current) (entries_after base current jobs)
applied base v latest current jobs is at = is ∙ ap (λ (c : Chronicle). extended c (batch_entries (now c) jobs)) at

-- the latest version follows each that its history begins with
pub follows_latest : (base : Option Database) (latest earlier : Chronicle) (published : List (List Entry)) → latest ≡ chronicle_of base published → Extends (chronicle_of base published) earlier → Follows latest earlier
follows_latest base latest earlier published is h = subst (λ (c : Chronicle). Follows c earlier) (sym is) (extends (chronicle_of base published) earlier h)

pub length-entries : (d : Database) (jobs : List Job) → length (batch_entries d jobs) ≡ length jobs
length-entries d [] = refl
length-entries d (j ∷ js) = omega (arith, length-entries (act d j.seat j.command) js)

pub longer : (v : Chronicle) (current : List (List Entry)) (d : Database) (jobs : List Job) → v.entries ≡ newest current ++ batch_entries d jobs → 0 < length jobs → length (newest current) < length v.entries
longer v current d jobs is some = omega (arith, ap length is, length-append (newest current) (batch_entries d jobs), length-entries d jobs, some)

pub is_newest : (base : Option Database) (v : Chronicle) (before after : List (List Entry)) → v.base ≡ base → after ≡ before ++ v.entries ∷ [] → IsNewest base v after
is_newest base v before after same is = record { base = same; entries = sym (ap newest is ∙ newest_after-append [] before (v.entries ∷ [])) }

pub drafts_told : (found : List (List Entry)) (v : Chronicle) (place : ℕ) (h es : List Entry) (drafts : List Drafted) → drafts ≡ drafts_from v place (drop place v.entries) → v.entries ≡ h ++ es → place ≡ length h → (outcomes : List (Option Fate)) → all_drafts_stand found outcomes drafts ≡ all_stand found (length h) outcomes es
drafts_told found v place h es drafts are is at outcomes =
    ap (λ (ds : List Drafted). all_drafts_stand found outcomes ds) (are ∙ ap (λ (l : List Entry). drafts_from v place (drop place l)) is ∙ ap (λ (l : List Entry). drafts_from v place l) (drop_at h es place (sym at)))
    ∙ all_drafts_stand-from found outcomes v place es ∙ ap (λ n. all_stand found n outcomes es) at

pub drafts_published : (base : Option Database) (found : List (List Entry)) (v : Chronicle) (place : ℕ) (drafts : List Drafted) → drafts ≡ drafts_from v place (drop place v.entries) → IsNewest base v found → length found ≤ place + 1 → All (IsPublished base found) drafts
drafts_published base found v place drafts are is le = subst (All (IsPublished base found)) (sym are) (all_published base found v place (drop place v.entries) is le)

-- one publication more than there were, of which each added an entry
pub one_more : (found before : List (List Entry)) (h : List Entry) (place : ℕ) → found ≡ before ++ h ∷ [] → length before ≤ place → length found ≤ place + 1
one_more found before h place is le = omega (arith, ap length is, length-append before (h ∷ []), le)
