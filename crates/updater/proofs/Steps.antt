-- One job after another.
use Rattle.std.proofs.Common.{◌≡◌, ℕ, ◌+◌, ◌<◌, List, [], ◌∷◌, length, drop, get_or, sym, ap, ◌∙◌, subst, arith, append_assoc, length-append}
use Rattle.std.proofs.lemmas.List.{drop_more}
use Rattle.model.specs.Command.{Job}
use Rattle.model.specs.Database.{Database, act}
use Rattle.model.specs.History.{Chronicle, now, extended, entry_of, batch_entries}
use Rattle.model.proofs.HistoryLaws.{now-extended}
use Rattle.updater.specs.Batches.{MayFollow}

-- the jobs that are left may follow, and with their entries the history is whole
pub record Goes (whole next : Chronicle) (left : List Job) : Type 0 where
  pub may : MayFollow (now next) left
  pub rest : extended next (batch_entries (now next) left) ≡ whole

goes_on : (whole h : Chronicle) (j : Job) (left : List Job) → Goes whole h (j ∷ left) → Goes whole (extended h (entry_of (now h) j.seat j.command ∷ [])) left
goes_on whole h j left g =
    let e = entry_of (now h) j.seat j.command in
    let is = now-extended h (e ∷ []) in
    record {
      may = subst (λ (d : Database). MayFollow d left) (sym is) g.may.1;
      rest = ap (λ (d : Database). extended (extended h (e ∷ [])) (batch_entries d left)) is ∙ (λ i. record { base = h.base; entries = append_assoc h.entries (e ∷ []) (batch_entries (act (now h) j.seat j.command) left) i }) ∙ g.rest;
    }

pub goes_step : (whole next later : Chronicle) (jobs : List Job) (i n : ℕ) (j : Job) → Goes whole next (drop i jobs) × (length next.entries ≡ n + i) → i < length jobs → j ≡ get_or jobs i j → later ≡ extended next (entry_of (now next) j.seat j.command ∷ []) → Goes whole later (drop (i + 1) jobs) × (length later.entries ≡ n + (i + 1))
goes_step whole next later jobs i n j g lt is added =
    let split : drop i jobs ≡ j ∷ drop (i + 1) jobs = drop_more jobs i j lt ∙ ap (λ (k : Job). k ∷ drop (i + 1) jobs) (sym is) in (
      subst (λ (h : Chronicle). Goes whole h (drop (i + 1) jobs)) (sym added) (goes_on whole next j (drop (i + 1) jobs) (subst (Goes whole next) split g.0)),
      omega (arith, ap (λ (h : Chronicle). length h.entries) added, length-append next.entries (entry_of (now next) j.seat j.command ∷ []), g.1),
    )
