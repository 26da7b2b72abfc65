-- What a log of calls says of each stage, and how it grows by a call.
use Rattle.std.proofs.Common.{◌≡◌, ℕ, List, [], ◌∷◌, ◌++◌, length, drop, refl, ap, sym, subst, ◌∙◌, Bool, true, false, inr}
use Rattle.std.specs.Prelude.{All, Contains, Option, Result, Ok, Err, ⊤, if◌then◌else◌}
use Rattle.std.specs.List.{flat_map}
use Rattle.std.proofs.lemmas.Grind.{flat_map-append}
use Rattle.std.proofs.lemmas.List.{append_assoc, append-nil}
use Rattle.std.proofs.lemmas.List.Elements.{All-append, All-contains_itself, All-drop, All-nil, All-take, Contains-append_left, Contains-push}
use Rattle.model.specs.Map.{Map, entries}
use Rattle.model.specs.Changes.{wanted_by}
use Rattle.model.specs.Command.{Id, Merge, names}
use Rattle.model.specs.Query.{ChangesPage, Difference, Row}
use Rattle.model.specs.Revision.{Rev}
use Rattle.replicator.specs.declared.ends.Ends.{Ends}
use Rattle.replicator.specs.declared.fault.PeerFault.TheVariants as fault
use Rattle.replicator.specs.declared.job.Job.{Job}
use Rattle.replicator.specs.declared.progress.Progress.TheVariants as progress
use Rattle.replicator.specs.Asked.{Asked, asked_in}
use Rattle.replicator.specs.Call.{Changes, Diff, OpenRevs, Bulk, LocalGet, LocalPut}
use Rattle.replicator.specs.Due.{AsksNext, IsMark, MarksNext, SendsNext, Side, Source, Target}
use Rattle.replicator.specs.Learned.{Learned, ends_after, goes_on, with_mark, with_opened, with_taken}
use Rattle.replicator.specs.Log.{called, given_by, absent_by, taken_by, given_in_log, absent_in_log, taken_in_log, IsStart, IsPass, IsMarkedAtTarget, IsMarkedBefore, MarksCovered, SendsGiven}
use Rattle.replicator.specs.Wanted.{absent_in, given_in, wanted_in}
use Rattle.replicator.specs.Readable.{are_wanted, is_readable_page, is_readable_difference, is_readable_opened}
use Rattle.replicator.specs.Run.{Exchange, stage_after}
use Rattle.replicator.specs.Stage.{Covers, Pass, Stage, Unread, SourceRead, Ready, Paged, Passing, first_pass}
use Rattle.replicator.proofs.OfWanted.{differences-wanted, next-wanted, opened-wanted, page-wanted}

-- ---- what a log says of a stage

pub record TellsPass (job : Job) (p : Pass) (log : List Exchange) : Type 0 where
  pub calls : List Exchange
  pub pass : IsPass job log p.ends.since p.page p.differences calls
  pub given : p.given ≡ given_in_log calls
  pub absent : p.absent ≡ absent_in_log calls
  pub taken : p.taken ≡ taken_in_log calls
  pub marked : p.marked ≡ true → IsMarkedAtTarget job.id calls p.page.last_seq
  pub lacking : All (λ lacked. wanted_by job.ids lacked.0 ≡ true) (wanted_in (entries p.differences))
  pub wanted : All (λ document. wanted_by job.ids document.id ≡ true) p.given

abbrev pub Tells : Job → Stage → List Exchange → Type 0
Tells job Unread log = ⊤
Tells job (SourceRead source) log = (before : List Exchange) × (log ≡ before ++ called Source (LocalGet job.id (Ok source)) ∷ [])
Tells job (Ready ends) log = IsStart job.id log ends.since
Tells job (Paged ends page) log =
    (before : List Exchange) × IsStart job.id before ends.since × (log ≡ before ++ called Source (Changes job.ids ends.since job.batch (Ok page)) ∷ []) × (are_wanted job.ids page.rows ≡ true)
Tells job (Passing p) log = TellsPass job p log

-- ---- lists

pub push-again : {X : Type 0} (log before : List X) (x y : X) → log ≡ before ++ x ∷ [] → log ++ y ∷ [] ≡ before ++ x ∷ y ∷ []
push-again {X = X} log before x y is = ap (λ (l : List X). l ++ y ∷ []) is ∙ append_assoc before (x ∷ []) (y ∷ [])

flat_push : {X A : Type 0} (f : X → List A) (xs : List X) (x : X) → flat_map f (xs ++ x ∷ []) ≡ flat_map f xs ++ f x
flat_push {A = A} f xs x = flat_map-append f xs (x ∷ []) ∙ ap (λ (l : List A). flat_map f xs ++ l) (append-nil (f x))

-- ---- a pass goes on

longer : (job : Job) (log : List Exchange) (since : ℕ) (page : ChangesPage) (differences : Map names Difference) (calls : List Exchange) (e : Exchange)
    → IsPass job log since page differences calls → IsPass job (log ++ e ∷ []) since page differences (calls ++ e ∷ [])
longer job log since page differences calls e pass = record {
  before = pass.before;
  start = pass.start;
  log_is = ap (λ (l : List Exchange). l ++ e ∷ []) pass.log_is
      ∙ append_assoc pass.before (called Source (Changes job.ids since job.batch (Ok page)) ∷ called Target (Diff (asked_in page.rows) (Ok differences)) ∷ calls) (e ∷ []);
}

marked-longer : (id : Id) (calls : List Exchange) (e : Exchange) (last_seq : ℕ) → IsMarkedAtTarget id calls last_seq → IsMarkedAtTarget id (calls ++ e ∷ []) last_seq
marked-longer id calls e last_seq (named, counter, there) =
    (named, counter, Contains-append_left calls (e ∷ []) (called Target (LocalPut id named last_seq (Ok counter))) there)

-- ---- what is learnt is reported

pub readable : (job : Job) (log : List Exchange) (learned : Learned) (b : Bool) → (b ≡ true → Tells job (stage_after learned) log)
    → Tells job (stage_after (if b then learned else Err fault.Unreadable)) log
readable job log learned true tells = tells refl
readable job log learned false tells = tt

pub after-page : (job : Job) (log : List Exchange) (ends : Ends) (page : ChangesPage) (rows : List Row) → Tells job (Paged ends page) log
    → Tells job (stage_after (elim rows [ [] ↦ Ok (Unread, progress.Done) | row ∷ more ↦ goes_on (Paged ends page) ])) log
after-page job log ends page [] tells = tt
after-page job log ends page (row ∷ more) tells = tells

pub paged : (job : Job) (log : List Exchange) (side : Side) (ids : Option (List Id)) (since limit : ℕ) (ends : Ends) (page : ChangesPage) → IsStart job.id log ends.since
    → side ≡ Source → ids ≡ job.ids → since ≡ ends.since → limit ≡ job.batch → is_readable_page ids since limit page ≡ true
    → Tells job (Paged ends page) (log ++ called side (Changes ids since limit (Ok page)) ∷ [])
paged job log side ids since limit ends page start of_source of from most readable = (
  log,
  start,
  λ i. log ++ called (of_source i) (Changes (of i) (from i) (most i) (Ok page)) ∷ [],
  subst (λ (o : Option (List Id)). are_wanted o page.rows ≡ true) of (page-wanted ids since limit page readable),
)

pub passing : (job : Job) (log : List Exchange) (side : Side) (asked : Asked) (ends : Ends) (page : ChangesPage) (differences : Map names Difference)
    → Tells job (Paged ends page) log → side ≡ Target → asked ≡ asked_in page.rows → is_readable_difference asked differences ≡ true
    → TellsPass job (first_pass ends page differences) (log ++ called side (Diff asked (Ok differences)) ∷ [])
passing job log side asked ends page differences (before, start, is, all) of_target asks readable = record {
  calls = [];
  pass = record {
    before = before;
    start = start;
    log_is = push-again log before (called Source (Changes job.ids ends.since job.batch (Ok page))) (called side (Diff asked (Ok differences))) is
        ∙ (λ i. before ++ called Source (Changes job.ids ends.since job.batch (Ok page)) ∷ called (of_target i) (Diff (asks i) (Ok differences)) ∷ []);
  };
  given = refl;
  absent = refl;
  taken = refl;
  marked = λ is_marked. absurd (cc);
  lacking = differences-wanted (wanted_by job.ids) page.rows differences all (subst (λ (a : Asked). is_readable_difference a differences ≡ true) asks readable);
  wanted = All-nil (λ (document : Merge). wanted_by job.ids document.id ≡ true);
}

pub opened : (job : Job) (p : Pass) (log : List Exchange) (side : Side) (of : Id) (revs : List Rev) (told : List (Result Merge Rev))
    → TellsPass job p log → AsksNext p of revs → is_readable_opened of revs told ≡ true → TellsPass job (with_opened p of revs told) (log ++ called side (OpenRevs of revs (Ok told)) ∷ [])
opened job p log side of revs told tells asks readable =
    let e : Exchange = called side (OpenRevs of revs (Ok told)) in
    record {
      calls = tells.calls ++ e ∷ [];
      pass = longer job log p.ends.since p.page p.differences tells.calls e tells.pass;
      given = ap (λ (l : List Merge). l ++ given_in told) tells.given ∙ sym (flat_push (λ (x : Exchange). given_by x.call) tells.calls e);
      absent = ap (λ (l : List (Id × Rev)). l ++ absent_in of told) tells.absent ∙ sym (flat_push (λ (x : Exchange). absent_by x.call) tells.calls e);
      taken = tells.taken ∙ sym (flat_push (λ (x : Exchange). taken_by x.call) tells.calls e ∙ append-nil (taken_in_log tells.calls));
      marked = λ is. marked-longer job.id tells.calls e p.page.last_seq (tells.marked is);
      lacking = tells.lacking;
      wanted = All-append (λ (document : Merge). wanted_by job.ids document.id ≡ true) p.given (given_in told) tells.wanted
          (opened-wanted (wanted_by job.ids) of revs told (next-wanted (wanted_by job.ids) p of revs asks tells.lacking) readable);
    }

pub taken : (job : Job) (p : Pass) (log : List Exchange) (side : Side) (documents : List Merge) (done : ⊤)
    → TellsPass job p log → TellsPass job (with_taken p documents) (log ++ called side (Bulk documents (Ok done)) ∷ [])
taken job p log side documents done tells =
    let e : Exchange = called side (Bulk documents (Ok done)) in
    record {
      calls = tells.calls ++ e ∷ [];
      pass = longer job log p.ends.since p.page p.differences tells.calls e tells.pass;
      given = tells.given ∙ sym (flat_push (λ (x : Exchange). given_by x.call) tells.calls e ∙ append-nil (given_in_log tells.calls));
      absent = tells.absent ∙ sym (flat_push (λ (x : Exchange). absent_by x.call) tells.calls e ∙ append-nil (absent_in_log tells.calls));
      taken = ap (λ (l : List Merge). l ++ documents) tells.taken ∙ sym (flat_push (λ (x : Exchange). taken_by x.call) tells.calls e);
      marked = λ is. marked-longer job.id tells.calls e p.page.last_seq (tells.marked is);
      lacking = tells.lacking;
      wanted = tells.wanted;
    }

-- ---- checkpoints

marked-before : (id : Id) (calls : List Exchange) (m : Bool) (ends : Ends) (side : Side) (named : Option ℕ) (last_seq page_end : ℕ) → IsMark m ends side named
    → last_seq ≡ page_end → (m ≡ true → IsMarkedAtTarget id calls page_end) → IsMarkedBefore side id calls last_seq
marked-before id calls false ends side named last_seq page_end mark end told = subst (λ (s : Side). IsMarkedBefore s id calls last_seq) (sym mark.0) tt
marked-before id calls true ends side named last_seq page_end mark end told =
    subst (λ (s : Side). IsMarkedBefore s id calls last_seq) (sym mark.0) (subst (IsMarkedAtTarget id calls) (sym end) (told refl))

pub after-mark : (job : Job) (p : Pass) (log : List Exchange) (side : Side) (written : Id) (named : Option ℕ) (last_seq counter : ℕ) (m : Bool) → TellsPass job p log
    → written ≡ job.id → last_seq ≡ p.page.last_seq → IsMark m p.ends side named
    → Tells job (stage_after (if m then Ok (Ready (ends_after p.ends last_seq counter), progress.Checkpoint last_seq) else goes_on (Passing (with_mark p counter))))
    (log ++ called side (LocalPut written named last_seq (Ok counter)) ∷ [])
after-mark job p log side written named last_seq counter true tells own end mark =
    inr (record { before = log; named = named; counter = counter; log_is = λ i. log ++ called (mark.0 i) (LocalPut (own i) named last_seq (Ok counter)) ∷ [] })
after-mark job p log side written named last_seq counter false tells own end mark =
    let e : Exchange = called side (LocalPut written named last_seq (Ok counter)) in
    let is : e ≡ called Target (LocalPut job.id named p.page.last_seq (Ok counter)) = λ i. called (mark.0 i) (LocalPut (own i) named (end i) (Ok counter)) in
    record {
      calls = tells.calls ++ e ∷ [];
      pass = longer job log p.ends.since p.page p.differences tells.calls e tells.pass;
      given = tells.given ∙ sym (flat_push (λ (x : Exchange). given_by x.call) tells.calls e ∙ append-nil (given_in_log tells.calls));
      absent = tells.absent ∙ sym (flat_push (λ (x : Exchange). absent_by x.call) tells.calls e ∙ append-nil (absent_in_log tells.calls));
      taken = tells.taken ∙ sym (flat_push (λ (x : Exchange). taken_by x.call) tells.calls e ∙ append-nil (taken_in_log tells.calls));
      marked = λ _. (named, counter, subst (Contains (tells.calls ++ e ∷ [])) is (Contains-push tells.calls e));
      lacking = tells.lacking;
      wanted = tells.wanted;
    }

pub covered : (job : Job) (p : Pass) (log : List Exchange) (side : Side) (named : Option ℕ) (last_seq : ℕ) → TellsPass job p log → MarksNext p side named last_seq
    → MarksCovered side job log last_seq
covered job p log side named last_seq tells marks = record {
  since = p.ends.since;
  page = p.page;
  differences = p.differences;
  calls = tells.calls;
  pass = tells.pass;
  covers = subst (λ (l : List (Id × Rev)). Covers p.ends.since p.page (entries p.differences) (taken_in_log tells.calls) l) tells.absent
      (subst (λ (l : List Merge). Covers p.ends.since p.page (entries p.differences) l p.absent) tells.taken marks.covered.rows);
  end = marks.end;
  marked = marked-before job.id tells.calls p.marked p.ends side named last_seq p.page.last_seq marks.mark marks.end tells.marked;
}

pub sent : (job : Job) (p : Pass) (log : List Exchange) (documents : List Merge) → TellsPass job p log → SendsNext p documents → SendsGiven job log documents
sent job p log documents tells sends = record {
  since = p.ends.since;
  page = p.page;
  differences = p.differences;
  calls = tells.calls;
  pass = tells.pass;
  given =
      let rest = drop (length p.taken) p.given in
      let stood = All-take (Contains (given_in_log tells.calls)) (length documents) rest
      (All-drop (Contains (given_in_log tells.calls)) (length p.taken) p.given
      (subst (λ (l : List Merge). All (Contains (given_in_log tells.calls)) l) (sym tells.given) (All-contains_itself (given_in_log tells.calls)))) in
      subst (λ (l : List Merge). All (Contains (given_in_log tells.calls)) l) (sym sends.next) stood;
  wanted =
      let IsWanted = λ (document : Merge). wanted_by job.ids document.id ≡ true in
      subst (All IsWanted) (sym sends.next) (All-take IsWanted (length documents) (drop (length p.taken) p.given) (All-drop IsWanted (length p.taken) p.given tells.wanted));
}
