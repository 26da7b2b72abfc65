-- The steps of a run so far, and its end.
use Rattle.std.proofs.Common.{◌≡◌, ℕ, ◌+◌, ◌<◌, List, [], ◌∷◌, ◌++◌, length, refl, ap, sym, subst, ◌∙◌, Option, None, Some, Ok, Err}
use Rattle.std.specs.Prelude.{All, Result}
use Rattle.std.specs.List.{FoldsTo}
use Rattle.std.proofs.lemmas.Fn.{FoldsTo-push}
use Rattle.std.proofs.lemmas.List.{append-nil, length_push}
use Rattle.std.proofs.lemmas.List.Elements.{All-nil, All-push}
use Rattle.std.proofs.lemmas.List.Sums.{fold_push}
use Rattle.replicator.specs.declared.fault.PeerFault.{PeerFault}
use Rattle.replicator.specs.declared.progress.Progress.{Progress}
use Rattle.replicator.specs.declared.progress.Progress.TheVariants as progress
use Rattle.replicator.specs.Call.{Call}
use Rattle.replicator.specs.Run.{CountsEither, Ends, Exchange, GoesOn, IsRun, IsStep, Party, Step, last_told}

-- n steps were made, after each of which the worker went on, and the last reported this
pub record IsGoing {S T : Type 0} (source_goes : S → Call → S → Type 0) (target_goes : T → Call → T → Type 0) (old now : Party S T) (n : ℕ) (told : Result Progress PeerFault) : Type 0 where
  pub steps : List Step
  pub folds : FoldsTo (IsStep source_goes target_goes) old steps now
  pub goes_on : All (λ step. GoesOn step.result) steps
  pub count : length steps ≡ n
  pub last : told ≡ last_told steps

-- the counts of failures stay at a step after which the worker goes on
pub counts-kept : (told : Result Progress PeerFault) (s t s' t' : ℕ) → GoesOn told → CountsEither told s t s' t' → (s' ≡ s) × (t' ≡ t)
counts-kept (Ok progress.Going) s t s' t' goes counts = counts
counts-kept (Ok (progress.Checkpoint last_seq)) s t s' t' goes counts = counts
counts-kept (Ok progress.Done) s t s' t' goes counts = absurd goes
counts-kept (Err f) s t s' t' goes counts = absurd goes

pub kept-counts : (told : Result Progress PeerFault) (s t s' t' : ℕ) → GoesOn told → s' ≡ s → t' ≡ t → CountsEither told s t s' t'
kept-counts (Ok progress.Going) s t s' t' goes source target = (source, target)
kept-counts (Ok (progress.Checkpoint last_seq)) s t s' t' goes source target = (source, target)
kept-counts (Ok progress.Done) s t s' t' goes source target = absurd goes
kept-counts (Err f) s t s' t' goes source target = absurd goes

pub counts-from : (told : Result Progress PeerFault) (s t now_s now_t s' t' : ℕ) → now_s ≡ s → now_t ≡ t → CountsEither told now_s now_t s' t' → CountsEither told s t s' t'
counts-from told s t now_s now_t s' t' source target counts =
    subst (λ (k : ℕ). CountsEither told k t s' t') source (subst (λ (k : ℕ). CountsEither told now_s k s' t') target counts)

module _ {S T : Type 0} (source_goes : S → Call → S → Type 0) (target_goes : T → Call → T → Type 0) where
  pub going-start : (old : Party S T) → IsGoing source_goes target_goes old old 0 (Ok progress.Going)
  going-start old = record { steps = []; folds = refl; goes_on = All-nil (λ (step : Step). GoesOn step.result); count = refl; last = refl }

  pub going-on : (old now next : Party S T) (n : ℕ) (before told : Result Progress PeerFault) → IsGoing source_goes target_goes old now n before
      → (e : Option Exchange) × IsStep source_goes target_goes now (record { exchange = e; result = told }) next → GoesOn told
      → IsGoing source_goes target_goes old next (n + 1) told
  going-on old now next n before told going made goes =
      let step : Step = record { exchange = made.0; result = told } in
      record {
        steps = going.steps ++ step ∷ [];
        folds = FoldsTo-push (IsStep source_goes target_goes) old going.steps now step next going.folds made.1;
        goes_on = All-push (λ (s : Step). GoesOn s.result) going.steps step going.goes_on goes;
        count = length_push going.steps step ∙ ap (λ (k : ℕ). k + 1) going.count;
        last = sym (fold_push (λ (_ : Result Progress PeerFault) (s : Step). s.result) (Ok progress.Going) going.steps step);
      }

  pub run-ended : (old now next : Party S T) (n most : ℕ) (before told : Result Progress PeerFault) → IsGoing source_goes target_goes old now n before
      → (e : Option Exchange) × IsStep source_goes target_goes now (record { exchange = e; result = told }) next → Ends told → n < most
      → IsRun source_goes target_goes old most told next
  run-ended old now next n most before told going made ends few =
      let step : Step = record { exchange = made.0; result = told } in
      record {
        steps = going.steps;
        last = Some step;
        folds = FoldsTo-push (IsStep source_goes target_goes) old going.steps now step next going.folds made.1;
        goes_on = going.goes_on;
        answer = (subst (λ (k : ℕ). k < most) (sym going.count) few, ends, refl);
      }

  pub run-whole : (old now : Party S T) (n most : ℕ) (told : Result Progress PeerFault) → IsGoing source_goes target_goes old now n told → n ≡ most
      → IsRun source_goes target_goes old most told now
  run-whole old now n most told going all = record {
    steps = going.steps;
    last = None;
    folds = subst (λ (steps : List Step). FoldsTo (IsStep source_goes target_goes) old steps now) (sym (append-nil going.steps)) going.folds;
    goes_on = going.goes_on;
    answer = (going.count ∙ all, going.last);
  }
