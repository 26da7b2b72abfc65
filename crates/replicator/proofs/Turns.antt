-- What a stage does.
use Rattle.std.proofs.Common.{◌≡◌, ℕ, List, refl, ap, sym, subst, ◌∙◌, Bool, true, inl, inr}
use Rattle.std.specs.Prelude.{Result, Ok, Err, Option, Some, None, if◌then◌else◌}
use Rattle.model.specs.Command.{Id, Merge}
use Rattle.model.specs.Revision.{Rev}
use Rattle.replicator.specs.declared.fault.PeerFault.{PeerFault}
use Rattle.replicator.specs.declared.fault.PeerFault.TheVariants as fault
use Rattle.replicator.specs.declared.job.Job.{Job}
use Rattle.replicator.specs.declared.progress.Progress.{Progress}
use Rattle.replicator.specs.Call.{Call, CountsFailed, OnlyReads, OpenRevs}
use Rattle.replicator.specs.Due.{AsksNext, Source, Target}
use Rattle.replicator.specs.Learned.{Learned, goes_on, with_opened}
use Rattle.replicator.specs.Readable.{is_readable_opened}
use Rattle.replicator.specs.Run.{Called, CountsEither, Exchange, Exchanges, IsStep, stage_after, told_of}
use Rattle.replicator.specs.Stage.{Known, Pass, Passing, Stage}

pub opened-called : {S : Type 0} (goes : S → Call → S → Type 0) (s s' : S) (job : Job) (pass pass' : Pass) (i : Id) (rs : List Rev) (opened : List (Result Merge Rev))
    → goes s (OpenRevs i rs (Ok opened)) s' → OnlyReads {A = List (Result Merge Rev)} (Ok opened) → AsksNext pass i rs → is_readable_opened i rs opened ≡ true → pass' ≡ with_opened pass i rs opened
    → Called goes s s' job (Passing pass) Source (goes_on (Passing pass'))
opened-called goes s s' job pass pass' i rs opened went reads asks readable is =
    inl (
      OpenRevs i rs (Ok opened),
      went,
      record {
        due = (refl, asks);
        refused = reads;
        told = inl (ap (λ (p : Pass). goes_on (Passing p)) is
            ∙ sym (ap (λ (b : Bool). if b then goes_on (Passing (with_opened pass i rs opened)) else Err fault.Unreadable) readable));
      },
    )

module _ {S T : Type 0} (source_goes : S → Call → S → Type 0) (target_goes : T → Call → T → Type 0) where
  -- a call of the source, while the target stays
  pub of-source : (job : Job) (stage stage' : Stage) (s s' : S) (t : T) (learned : Learned) → stage' ≡ stage → Called source_goes s s' job stage Source learned
      → (e : Option Exchange) × Exchanges source_goes target_goes job stage' s t s' t e learned
  of-source job stage stage' s s' t learned is called =
      subst (λ (st : Stage). (e : Option Exchange) × Exchanges source_goes target_goes job st s t s' t e learned) (sym is)
      (elim called [
        | inl a ↦ (Some (record { side = Source; call = a.0 }), ((a.1, refl), a.2))
        | inr b ↦ (None, (b.0, refl, b.1))
      ])

  -- a call of the target, while the source stays
  pub of-target : (job : Job) (stage stage' : Stage) (s : S) (t t' : T) (learned : Learned) → stage' ≡ stage → Called target_goes t t' job stage Target learned
      → (e : Option Exchange) × Exchanges source_goes target_goes job stage' s t s t' e learned
  of-target job stage stage' s t t' learned is called =
      subst (λ (st : Stage). (e : Option Exchange) × Exchanges source_goes target_goes job st s t s t' e learned) (sym is)
      (elim called [
        | inl a ↦ (Some (record { side = Target; call = a.0 }), ((a.1, refl), a.2))
        | inr b ↦ (None, (refl, b.0, b.1))
      ])

  -- what was learnt is a step
  pub stepped : (w w' : Known) (s s' : S) (t t' : T) (learned : Learned) (result : Result Progress PeerFault)
      → (e : Option Exchange) × Exchanges source_goes target_goes w.job w.stage s t s' t' e learned → result ≡ told_of learned → w' ≡ record w { stage = stage_after learned }
      → (e : Option Exchange) × IsStep source_goes target_goes (record { worker = w; source = s; target = t }) (record { exchange = e; result = result }) (record { worker = w'; source = s'; target = t' })
  stepped w w' s s' t t' learned result made told knows = (made.0, record { learned = learned; exchanges = made.1; told = told; knows = knows })

-- only the source can have failed
pub source-counts : {A : Type 0} (r : Result A PeerFault) (s s' t t' : ℕ) → CountsFailed s s' r → t' ≡ t → CountsEither r s t s' t'
source-counts (Ok x) s s' t t' counts stays = (counts, stays)
source-counts (Err fault.Failed) s s' t t' counts stays = inl (counts, stays)
source-counts (Err fault.Unreadable) s s' t t' counts stays = (counts, stays)
source-counts (Err fault.Memory) s s' t t' counts stays = (counts, stays)
source-counts (Err fault.Refused) s s' t t' counts stays = (counts, stays)

-- only the target can have failed
pub target-counts : {A : Type 0} (r : Result A PeerFault) (s s' t t' : ℕ) → CountsFailed t t' r → s' ≡ s → CountsEither r s t s' t'
target-counts (Ok x) s s' t t' counts stays = (stays, counts)
target-counts (Err fault.Failed) s s' t t' counts stays = inr (counts, stays)
target-counts (Err fault.Unreadable) s s' t t' counts stays = (stays, counts)
target-counts (Err fault.Memory) s s' t t' counts stays = (stays, counts)
target-counts (Err fault.Refused) s s' t t' counts stays = (stays, counts)
