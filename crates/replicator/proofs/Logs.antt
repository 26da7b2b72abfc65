-- The log of the calls shows what a worker knows.
use Rattle.std.proofs.Common.{◌≡◌, ℕ, List, [], ◌∷◌, ◌++◌, refl, ap, sym, subst, ◌∙◌, Bool, true, false, inl, inr}
use Rattle.std.specs.Prelude.{Option, None, Some, option_to_list, Result, Ok, Err, if◌then◌else◌}
use Rattle.std.specs.List.{FoldsTo}
use Rattle.std.proofs.lemmas.List.{append_assoc, append-nil}
use Rattle.model.specs.Query.{ChangesPage, Row}
use Rattle.replicator.specs.declared.ends.Ends.{Ends}
use Rattle.replicator.specs.declared.fault.PeerFault.{PeerFault}
use Rattle.replicator.specs.declared.fault.PeerFault.TheVariants as fault
use Rattle.replicator.specs.declared.job.Job.{Job}
use Rattle.replicator.specs.declared.progress.Progress.{Progress}
use Rattle.replicator.specs.declared.progress.Progress.TheVariants as progress
use Rattle.replicator.specs.Call.{Call, Changes, Diff, OpenRevs, Bulk, LocalGet, LocalPut}
use Rattle.replicator.specs.Due.{IsDueAt, Side, Source}
use Rattle.replicator.specs.Learned.{Learned, ends_after, goes_on, learnt, learnt_of_page, with_mark, with_opened}
use Rattle.replicator.specs.Log.{called, log_of, IsStart, IsSound, EndsWithoutChanges}
use Rattle.replicator.specs.Readable.{is_readable_page, is_readable_difference, is_readable_opened}
use Rattle.replicator.specs.Run.{Exchange, Exchanges, IsStep, IsTurn, Party, Step, stage_after, told_of}
use Rattle.replicator.specs.Stage.{Stage, Unread, SourceRead, Ready, Paged, Passing, first_pass}
use Rattle.replicator.proofs.Told.{Tells, push-again, readable, after-page, paged, passing, opened, taken, after-mark, covered, sent}

-- the call is sound, and what is learnt from it is reported
abbrev Goes : Job → List Exchange → Side → Call → Learned → Type 0
Goes job log side call learned = IsSound job log side call × Tells job (stage_after learned) (log ++ called side call ∷ [])

-- ---- a call that is due

due-goes : (job : Job) (stage : Stage) (log : List Exchange) (side : Side) (call : Call) → Tells job stage log → IsDueAt job stage side call
    → Goes job log side call (learnt stage call)
due-goes job Unread log side (LocalGet read (Ok source)) tells due = (due.1, (log, λ i. log ++ called (due.0 i) (LocalGet (due.1 i) (Ok source)) ∷ []))
due-goes job Unread log side (LocalGet read (Err f)) tells due = (due.1, tt)
due-goes job Unread log side (Changes ids since limit answer) tells due = absurd due
due-goes job Unread log side (Diff asked answer) tells due = absurd due
due-goes job Unread log side (OpenRevs of revs answer) tells due = absurd due
due-goes job Unread log side (Bulk documents answer) tells due = absurd due
due-goes job Unread log side (LocalPut written named last_seq answer) tells due = absurd due
due-goes job (SourceRead source) log side (LocalGet read (Ok target)) tells due = (
  due.1,
  inl (record {
    before = tells.0;
    source = source;
    target = target;
    log_is = push-again log tells.0 (called Source (LocalGet job.id (Ok source))) (called side (LocalGet read (Ok target))) tells.1
        ∙ (λ i. tells.0 ++ called Source (LocalGet job.id (Ok source)) ∷ called (due.0 i) (LocalGet (due.1 i) (Ok target)) ∷ []);
    since_is = refl;
  }),
)
due-goes job (SourceRead source) log side (LocalGet read (Err f)) tells due = (due.1, tt)
due-goes job (SourceRead source) log side (Changes ids since limit answer) tells due = absurd due
due-goes job (SourceRead source) log side (Diff asked answer) tells due = absurd due
due-goes job (SourceRead source) log side (OpenRevs of revs answer) tells due = absurd due
due-goes job (SourceRead source) log side (Bulk documents answer) tells due = absurd due
due-goes job (SourceRead source) log side (LocalPut written named last_seq answer) tells due = absurd due
due-goes job (Ready ends) log side (Changes ids since limit (Ok page)) tells due = (
  (due.0, subst (IsStart job.id log) (sym due.2) tells, due.1, due.3),
  readable job (log ++ called side (Changes ids since limit (Ok page)) ∷ []) (learnt_of_page ends page) (is_readable_page ids since limit page)
      (λ is. after-page job (log ++ called side (Changes ids since limit (Ok page)) ∷ []) ends page page.rows (paged job log side ids since limit ends page tells due.0 due.1 due.2 due.3 is)),
)
due-goes job (Ready ends) log side (Changes ids since limit (Err f)) tells due = ((due.0, subst (IsStart job.id log) (sym due.2) tells, due.1, due.3), tt)
due-goes job (Ready ends) log side (LocalGet read answer) tells due = absurd due
due-goes job (Ready ends) log side (Diff asked answer) tells due = absurd due
due-goes job (Ready ends) log side (OpenRevs of revs answer) tells due = absurd due
due-goes job (Ready ends) log side (Bulk documents answer) tells due = absurd due
due-goes job (Ready ends) log side (LocalPut written named last_seq answer) tells due = absurd due
due-goes job (Paged ends page) log side (Diff asked (Ok differences)) tells due = (
  due.0,
  readable job (log ++ called side (Diff asked (Ok differences)) ∷ []) (goes_on (Passing (first_pass ends page differences))) (is_readable_difference asked differences)
      (λ is. passing job log side asked ends page differences tells due.0 due.1 is),
)
due-goes job (Paged ends page) log side (Diff asked (Err f)) tells due = (due.0, tt)
due-goes job (Paged ends page) log side (LocalGet read answer) tells due = absurd due
due-goes job (Paged ends page) log side (Changes ids since limit answer) tells due = absurd due
due-goes job (Paged ends page) log side (OpenRevs of revs answer) tells due = absurd due
due-goes job (Paged ends page) log side (Bulk documents answer) tells due = absurd due
due-goes job (Paged ends page) log side (LocalPut written named last_seq answer) tells due = absurd due
due-goes job (Passing p) log side (OpenRevs of revs (Ok told)) tells due = (
  due.0,
  readable job (log ++ called side (OpenRevs of revs (Ok told)) ∷ []) (goes_on (Passing (with_opened p of revs told))) (is_readable_opened of revs told)
      (λ is. opened job p log side of revs told tells due.1 is),
)
due-goes job (Passing p) log side (OpenRevs of revs (Err f)) tells due = (due.0, tt)
due-goes job (Passing p) log side (Bulk documents (Ok done)) tells due = ((due.0, sent job p log documents tells due.1), taken job p log side documents done tells)
due-goes job (Passing p) log side (Bulk documents (Err f)) tells due = ((due.0, sent job p log documents tells due.1), tt)
due-goes job (Passing p) log side (LocalPut written named last_seq (Ok counter)) tells due = (
  (due.0, covered job p log side named last_seq tells due.1),
  after-mark job p log side written named last_seq counter p.marked tells due.0 due.1.end due.1.mark,
)
due-goes job (Passing p) log side (LocalPut written named last_seq (Err f)) tells due = ((due.0, covered job p log side named last_seq tells due.1), tt)
due-goes job (Passing p) log side (LocalGet read answer) tells due = absurd due
due-goes job (Passing p) log side (Changes ids since limit answer) tells due = absurd due
due-goes job (Passing p) log side (Diff asked answer) tells due = absurd due

-- ---- the call that ends a replication

record Ended (job : Job) (log : List Exchange) (e : Exchange) : Type 0 where
  since : ℕ
  page : ChangesPage
  start : IsStart job.id log since
  none : page.rows ≡ []
  is : e ≡ called Source (Changes job.ids since job.batch (Ok page))

goes-on : (b : Bool) (stage : Stage) → told_of (if b then goes_on stage else Err fault.Unreadable) ≡ Ok progress.Done → ⊥
goes-on true stage told = absurd (cc)
goes-on false stage told = absurd (cc)

marks : (m : Bool) (stage next : Stage) (last_seq : ℕ) → told_of (if m then Ok (stage, progress.Checkpoint last_seq) else goes_on next) ≡ Ok progress.Done → ⊥
marks true stage next last_seq told = absurd (cc)
marks false stage next last_seq told = absurd (cc)

no-rows : (b : Bool) (ends : Ends) (page : ChangesPage) (rows : List Row)
    → told_of (if b then (elim rows [ [] ↦ Ok (Unread, progress.Done) | row ∷ more ↦ goes_on (Paged ends page) ]) else Err fault.Unreadable) ≡ Ok progress.Done → rows ≡ []
no-rows true ends page [] told = refl
no-rows true ends page (row ∷ more) told = absurd (cc)
no-rows false ends page rows told = absurd (cc)

due-ends : (job : Job) (stage : Stage) (log : List Exchange) (side : Side) (call : Call) → Tells job stage log → IsDueAt job stage side call
    → told_of (learnt stage call) ≡ Ok progress.Done → Ended job log (called side call)
due-ends job Unread log side (LocalGet read (Ok source)) tells due told = absurd (cc)
due-ends job Unread log side (LocalGet read (Err f)) tells due told = absurd (cc)
due-ends job Unread log side (Changes ids since limit answer) tells due told = absurd due
due-ends job Unread log side (Diff asked answer) tells due told = absurd due
due-ends job Unread log side (OpenRevs of revs answer) tells due told = absurd due
due-ends job Unread log side (Bulk documents answer) tells due told = absurd due
due-ends job Unread log side (LocalPut written named last_seq answer) tells due told = absurd due
due-ends job (SourceRead source) log side (LocalGet read (Ok target)) tells due told = absurd (cc)
due-ends job (SourceRead source) log side (LocalGet read (Err f)) tells due told = absurd (cc)
due-ends job (SourceRead source) log side (Changes ids since limit answer) tells due told = absurd due
due-ends job (SourceRead source) log side (Diff asked answer) tells due told = absurd due
due-ends job (SourceRead source) log side (OpenRevs of revs answer) tells due told = absurd due
due-ends job (SourceRead source) log side (Bulk documents answer) tells due told = absurd due
due-ends job (SourceRead source) log side (LocalPut written named last_seq answer) tells due told = absurd due
due-ends job (Ready ends) log side (Changes ids since limit (Ok page)) tells due told = record {
  since = ends.since;
  page = page;
  start = tells;
  none = no-rows (is_readable_page ids since limit page) ends page page.rows told;
  is = λ i. called (due.0 i) (Changes (due.1 i) (due.2 i) (due.3 i) (Ok page));
}
due-ends job (Ready ends) log side (Changes ids since limit (Err f)) tells due told = absurd (cc)
due-ends job (Ready ends) log side (LocalGet read answer) tells due told = absurd due
due-ends job (Ready ends) log side (Diff asked answer) tells due told = absurd due
due-ends job (Ready ends) log side (OpenRevs of revs answer) tells due told = absurd due
due-ends job (Ready ends) log side (Bulk documents answer) tells due told = absurd due
due-ends job (Ready ends) log side (LocalPut written named last_seq answer) tells due told = absurd due
due-ends job (Paged ends page) log side (Diff asked (Ok differences)) tells due told =
    absurd (goes-on (is_readable_difference asked differences) (Passing (first_pass ends page differences)) told)
due-ends job (Paged ends page) log side (Diff asked (Err f)) tells due told = absurd (cc)
due-ends job (Paged ends page) log side (LocalGet read answer) tells due told = absurd due
due-ends job (Paged ends page) log side (Changes ids since limit answer) tells due told = absurd due
due-ends job (Paged ends page) log side (OpenRevs of revs answer) tells due told = absurd due
due-ends job (Paged ends page) log side (Bulk documents answer) tells due told = absurd due
due-ends job (Paged ends page) log side (LocalPut written named last_seq answer) tells due told = absurd due
due-ends job (Passing p) log side (OpenRevs of revs (Ok opens)) tells due told =
    absurd (goes-on (is_readable_opened of revs opens) (Passing (with_opened p of revs opens)) told)
due-ends job (Passing p) log side (OpenRevs of revs (Err f)) tells due told = absurd (cc)
due-ends job (Passing p) log side (Bulk documents (Ok done)) tells due told = absurd (cc)
due-ends job (Passing p) log side (Bulk documents (Err f)) tells due told = absurd (cc)
due-ends job (Passing p) log side (LocalPut written named last_seq (Ok counter)) tells due told =
    absurd (marks p.marked (Ready (ends_after p.ends last_seq counter)) (Passing (with_mark p counter)) last_seq told)
due-ends job (Passing p) log side (LocalPut written named last_seq (Err f)) tells due told = absurd (cc)
due-ends job (Passing p) log side (LocalGet read answer) tells due told = absurd due
due-ends job (Passing p) log side (Changes ids since limit answer) tells due told = absurd due
due-ends job (Passing p) log side (Diff asked answer) tells due told = absurd due

-- ---- steps

memory-ends : told_of (Err fault.Memory) ≡ Ok progress.Done → ⊥
memory-ends told = absurd (cc)

turn-goes : (job : Job) (stage : Stage) (log : List Exchange) (e : Exchange) (learned : Learned) → Tells job stage log → IsTurn job stage e.side e.call learned
    → Tells job (stage_after learned) (log ++ e ∷ [])
turn-goes job stage log e learned tells turn =
    elim turn.told [
      | inl is ↦ subst (λ (l : Learned). Tells job (stage_after l) (log ++ e ∷ [])) (sym is) (due-goes job stage log e.side e.call tells turn.due).1
      | inr lacks ↦ subst (λ (l : Learned). Tells job (stage_after l) (log ++ e ∷ [])) (sym lacks.1) tt
    ]

turn-ends : (job : Job) (stage : Stage) (log : List Exchange) (e : Exchange) (learned : Learned) → Tells job stage log → IsTurn job stage e.side e.call learned
    → told_of learned ≡ Ok progress.Done → Ended job log e
turn-ends job stage log e learned tells turn told =
    elim turn.told [
      | inl is ↦ due-ends job stage log e.side e.call tells turn.due (subst (λ (l : Learned). told_of l ≡ Ok progress.Done) is told)
      | inr lacks ↦ absurd (memory-ends (subst (λ (l : Learned). told_of l ≡ Ok progress.Done) lacks.1 told))
    ]

some-same : {X : Type 0} {x y : X} → Some x ≡ Some y → x ≡ y
some-same {X} {x} {y} is = ap (λ (o : Option X). elim o [ Some z ↦ z | None ↦ x ]) is

module _ {S T : Type 0} (source_goes : S → Call → S → Type 0) (target_goes : T → Call → T → Type 0) where
  exchange-goes : (job : Job) (stage : Stage) (s s' : S) (t t' : T) (log : List Exchange) (e : Option Exchange) (learned : Learned) → Tells job stage log
      → Exchanges source_goes target_goes job stage s t s' t' e learned → Tells job (stage_after learned) (log ++ option_to_list e)
  exchange-goes job stage s s' t t' log None learned tells made = subst (λ (l : Learned). Tells job (stage_after l) (log ++ [])) (sym made.2.1) tt
  exchange-goes job stage s s' t t' log (Some e) learned tells made = turn-goes job stage log e learned tells made.1

  exchange-sound : (job : Job) (stage : Stage) (s s' : S) (t t' : T) (log : List Exchange) (o : Option Exchange) (learned : Learned) → Tells job stage log
      → Exchanges source_goes target_goes job stage s t s' t' o learned → (e : Exchange) → o ≡ Some e → IsSound job log e.side e.call
  exchange-sound job stage s s' t t' log None learned tells made e is = absurd (cc)
  exchange-sound job stage s s' t t' log (Some e) learned tells made x is =
      subst (λ (y : Exchange). IsSound job log y.side y.call) (some-same is) (due-goes job stage log e.side e.call tells made.1.due).0

  exchange-ends : (job : Job) (stage : Stage) (s s' : S) (t t' : T) (log : List Exchange) (o : Option Exchange) (learned : Learned) → Tells job stage log
      → Exchanges source_goes target_goes job stage s t s' t' o learned → (result : Result Progress PeerFault) → result ≡ told_of learned → result ≡ Ok progress.Done
      → EndsWithoutChanges job log (record { exchange = o; result = result })
  exchange-ends job stage s s' t t' log None learned tells made result told done = absurd (memory-ends (subst (λ (l : Learned). told_of l ≡ Ok progress.Done) made.2.1 (sym told ∙ done)))
  exchange-ends job stage s s' t t' log (Some e) learned tells made result told done =
      let ended = turn-ends job stage log e learned tells made.1 (sym told ∙ done) in
      record { since = ended.since; page = ended.page; start = ended.start; none = ended.none; asks = ap Some ended.is }

  -- a worker keeps its job
  record Goes_on (old now : Party S T) (log : List Exchange) : Type 0 where
    job : now.worker.job ≡ old.worker.job
    tells : Tells old.worker.job now.worker.stage log

  steps-tell : (old now : Party S T) (steps : List Step) (log : List Exchange) → Tells old.worker.job old.worker.stage log → FoldsTo (IsStep source_goes target_goes) old steps now
      → Goes_on old now (log ++ log_of steps)
  steps-tell old now [] log tells same = record {
    job = sym (ap (λ (p : Party S T). p.worker.job) same);
    tells = subst (λ (l : List Exchange). Tells old.worker.job now.worker.stage l) (sym (append-nil log))
        (subst (λ (p : Party S T). Tells old.worker.job p.worker.stage log) same tells);
  }
  steps-tell old now (step ∷ steps) log tells (next, made, folds) =
      let job : next.worker.job ≡ old.worker.job = ap (λ w. w.job) made.knows in
      let stage : next.worker.stage ≡ stage_after made.learned = ap (λ w. w.stage) made.knows in
      let after = exchange-goes old.worker.job old.worker.stage old.source next.source old.target next.target log step.exchange made.learned tells made.exchanges in
      let here : Tells old.worker.job next.worker.stage (log ++ option_to_list step.exchange) =
      subst (λ (s : Stage). Tells old.worker.job s (log ++ option_to_list step.exchange)) (sym stage) after in
      let own : Tells next.worker.job next.worker.stage (log ++ option_to_list step.exchange) =
      subst (λ (j : Job). Tells j next.worker.stage (log ++ option_to_list step.exchange)) (sym job) here in
      let rest = steps-tell next now steps (log ++ option_to_list step.exchange) own folds in
      record {
        job = rest.job ∙ job;
        tells = subst (λ (l : List Exchange). Tells old.worker.job now.worker.stage l) (append_assoc log (option_to_list step.exchange) (log_of steps))
            (subst (λ (j : Job). Tells j now.worker.stage ((log ++ option_to_list step.exchange) ++ log_of steps)) job rest.tells);
      }

  own-tells : (old now : Party S T) (log : List Exchange) → Goes_on old now log → Tells now.worker.job now.worker.stage log
  own-tells old now log told = subst (λ (j : Job). Tells j now.worker.stage log) (sym told.job) told.tells

  begins : (old now : Party S T) (steps : List Step) → old.worker.stage ≡ Unread → FoldsTo (IsStep source_goes target_goes) old steps now → Goes_on old now (log_of steps)
  begins old now steps unread folds = steps-tell old now steps [] (subst (λ (s : Stage). Tells old.worker.job s []) (sym unread) tt) folds

  pub sound-calls : (old now next : Party S T) (steps : List Step) (step : Step) → old.worker.stage ≡ Unread → FoldsTo (IsStep source_goes target_goes) old steps now
      → IsStep source_goes target_goes now step next → (e : Exchange) → step.exchange ≡ Some e → IsSound old.worker.job (log_of steps) e.side e.call
  sound-calls old now next steps step unread folds made e is =
      let told = begins old now steps unread folds in
      subst (λ (j : Job). IsSound j (log_of steps) e.side e.call) told.job
      (exchange-sound now.worker.job now.worker.stage now.source next.source now.target next.target (log_of steps) step.exchange made.learned (own-tells old now (log_of steps) told) made.exchanges e is)

  pub sound-end : (old now next : Party S T) (steps : List Step) (step : Step) → old.worker.stage ≡ Unread → FoldsTo (IsStep source_goes target_goes) old steps now
      → IsStep source_goes target_goes now step next → step.result ≡ Ok progress.Done → EndsWithoutChanges old.worker.job (log_of steps) step
  sound-end old now next steps step unread folds made done =
      let told = begins old now steps unread folds in
      subst (λ (j : Job). EndsWithoutChanges j (log_of steps) step) told.job
      (exchange-ends now.worker.job now.worker.stage now.source next.source now.target next.target (log_of steps) step.exchange made.learned (own-tells old now (log_of steps) told) made.exchanges step.result made.told done)
