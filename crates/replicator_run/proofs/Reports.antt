-- The report of a run.
use Rattle.std.proofs.Common.{◌≡◌, ◌∙◌, ℕ, refl, sym, subst}
use Rattle.std.specs.Prelude.{Bool, List, Option, Result}
use Rattle.model.specs.Command.{Id}
use Rattle.replicator.specs.declared.fault.PeerFault.{PeerFault}
use Rattle.replicator.specs.declared.progress.Progress.{Progress}
use Rattle.replicator.specs.Call.{Call}
use Rattle.replicator.specs.Run.{IsRun}
use Rattle.replicator.specs.Stage.{Known}
use Rattle.replicator_run.specs.Counted.{Counted, Counts, uncounted}
use Rattle.replicator_run.specs.Report.{Replicates, RunsBetween, fresh, most_steps, report_of}
use Rattle.replicator_run.specs.Skipped.{GoesSkipping}
use Rattle.replicator_run.specs.declared.report.Report.{Report}

module _ {S T : Type 0} (skips : Bool) (source_goes : S → Call → S → Type 0) (target_goes : T → Call → T → Type 0) (source_failures : S → ℕ) (target_failures : T → ℕ) (id : Id) (ids : Option (List Id)) where
  abbrev pub IsRunOf : Known → Counted S → Counted T → Result Progress PeerFault → Known → Counted S → Counted T → Type 0
  IsRunOf worker source target ended worker' source' target' =
      IsRun (GoesSkipping (Counts source_goes) skips) (GoesSkipping (Counts target_goes) skips) (record { worker = worker; source = source; target = target }) most_steps ended
      (record { worker = worker'; source = source'; target = target' })

  -- the run begins with a fresh worker, and the report reports its end
  pub runs_between : (report : Report) (worker worker' : Known) (from from' : Counted S) (to to' : Counted T) (ended : Result Progress PeerFault)
      → worker ≡ fresh id ids → IsRunOf worker from to ended worker' from' to' → report ≡ report_of source_failures target_failures ended from' to'
      → RunsBetween skips source_goes target_goes source_failures target_failures id ids from to report
  runs_between report worker worker' from from' to to' ended is_fresh run reports =
      let made : RunsBetween skips source_goes target_goes source_failures target_failures id ids from to (report_of source_failures target_failures ended from' to') = record {
        worker = worker';
        source_after = from'.end;
        target_after = to'.end;
        run = subst (λ (w : Known). IsRunOf w from to ended worker' from' to') is_fresh run;
        source_failed = refl;
        target_failed = refl;
      } in
      subst (λ (r : Report). RunsBetween skips source_goes target_goes source_failures target_failures id ids from to r) (sym reports) made

  -- the same from ends that are these, and where the report is of what comes to the same
  pub runs_from : (report : Report) (worker worker' : Known) (from source from' last : Counted S) (to target to' last_to : Counted T) (ended : Result Progress PeerFault)
      → worker ≡ fresh id ids → from ≡ source → to ≡ target → last ≡ from' → last_to ≡ to' → IsRunOf worker from to ended worker' from' to'
      → report ≡ report_of source_failures target_failures ended last last_to
      → RunsBetween skips source_goes target_goes source_failures target_failures id ids source target report
  runs_from report worker worker' from source from' last to target to' last_to ended is_fresh is_source is_target is_last is_last_to run reports =
      let begun = subst (λ (s : Counted S). IsRunOf worker s to ended worker' from' to') is_source run in
      runs_between report worker worker' source from' target to' ended is_fresh
      (subst (λ (t : Counted T). IsRunOf worker source t ended worker' from' to') is_target begun)
      (reports ∙ (λ i. report_of source_failures target_failures ended (is_last i) (is_last_to i)))

  -- between ends that no document has passed
  pub replicates : (report : Report) (source : S) (target : T) (from : Counted S) (to : Counted T) → from ≡ uncounted source → to ≡ uncounted target
      → RunsBetween skips source_goes target_goes source_failures target_failures id ids from to report
      → Replicates skips source_goes target_goes source_failures target_failures id ids source target report
  replicates report source target from to is_from is_to runs =
      subst (λ (t : Counted T). RunsBetween skips source_goes target_goes source_failures target_failures id ids (uncounted source) t report) is_to
      (subst (λ (s : Counted S). RunsBetween skips source_goes target_goes source_failures target_failures id ids s to report) is_from runs)

  -- the same from ends that are these
  pub replicates_from : (report : Report) (source source' : S) (target target' : T) → source ≡ source' → target ≡ target'
      → Replicates skips source_goes target_goes source_failures target_failures id ids source target report
      → Replicates skips source_goes target_goes source_failures target_failures id ids source' target' report
  replicates_from report source source' target target' is_source is_target replicates =
      subst (λ (t : T). Replicates skips source_goes target_goes source_failures target_failures id ids source' t report) is_target
      (subst (λ (s : S). Replicates skips source_goes target_goes source_failures target_failures id ids s target report) is_source replicates)
