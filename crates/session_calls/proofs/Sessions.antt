-- Calls of sessions on threads, as connections see them.
use Rattle.std.proofs.Common.{◌≡◌, ℕ, suc, ◌+◌, ◌-◌, ◌<◌, ◌≤◌, ◌^◌, ◌⊎◌, Bool, true, false, List, [], ◌∷◌, ◌++◌, length, filter, slice_get, Some, Ok, Err, inl, inr, refl, ap, sym, ◌∙◌, subst, arith}
use Rattle.std.specs.Prelude.{cond, Option, Result}
use Rattle.std.proofs.lemmas.List.{append-nil, append_cancel_left}
use Rattle.model.specs.Map.{same_key}
use Rattle.model.specs.Command.{Command, Entry, numbers}
use Rattle.model.specs.Database.{Database}
use Rattle.model.specs.History.{IsLegal, of_session, base_of}
use Rattle.model.specs.World.{Config, is_compact}
use Rattle.model.proofs.ListLaws.{by_cases}
use Rattle.model.proofs.CallLaws.{each_seat_once}
use Rattle.sessions.specs.Known.{Known as KnownOfThreads, SeesOwn, seen}
use Rattle.sessions.specs.Calls.{Looks as LooksOnThreads, Writes as WritesOnThreads, Told}
use Rattle.sessions.specs.Compactions.{Leaves, OnlyLooks}
use Rattle.updater_state.specs.Callers.{risen}
use Rattle.sessions.specs.Faults.{IsOfWrite, IsOfCompaction}
use Rattle.sessions.specs.declared.fault.Fault.{Fault}
use Rattle.sessions.specs.declared.fault.Fault.TheVariants as of_threads
use Rattle.session_api.specs.declared.fault.Unavailable.TheVariants as unavailable
use Rattle.session_api.specs.Known.{Known, with_calls}
use Rattle.session_api.specs.Learns.{Learns, LeavesNone, Looks, RefusesWrite, WritesCall, says_lost}
use Rattle.session_api.specs.SessionCall.{SessionCall, Refreshed, Wrote, Waited}
use Rattle.session_calls.specs.Sessions.{Goes, IsLostForEver, RefusesEdit, RefusesLook, RefusesWait, RefusesWrite as RefusesWriteOnThreads, call_fault, known_of}
use Rattle.session_api.specs.declared.fault.CallFault.{CallFault}
use Rattle.session_api.specs.declared.fault.CallFault.TheVariants as fault
use Rattle.session_api.proofs.Histories.{of_session-append, looks_itself, looks_only}

slice_get-behind : (xs ys : List Entry) (n : ℕ) → slice_get (xs ++ ys) (length xs + n) ≡ slice_get ys n
slice_get-behind [] ys n = let none : 0 + n ≡ n = omega arith in ap (slice_get ys) none
slice_get-behind (x ∷ xs) ys n = let one : length (x ∷ xs) + n ≡ suc (length xs + n) = omega arith in ap (slice_get (x ∷ xs ++ ys)) one ∙ slice_get-behind xs ys n

-- what is first among those that pass a test is somewhere
found : (test : Entry → Bool) (es : List Entry) (e : Entry) (rest : List Entry) → filter test es ≡ e ∷ rest → (n : ℕ) × (slice_get es n ≡ Some e)
found test [] e rest is = absurd (cc)
found test (f ∷ es) e rest is =
    by_cases (test f)
    (λ yes.
    let here : f ∷ filter test es ≡ e ∷ rest = ap (λ b. cond b (f ∷ filter test es) (filter test es)) (sym yes) ∙ is in
    (0, cc))
    (λ no.
    let later : filter test es ≡ e ∷ rest = ap (λ b. cond b (f ∷ filter test es) (filter test es)) (sym no) ∙ is in
    let there = found test es e rest later in (suc there.0, there.1))

is_not : (b : Bool) → (b ≡ true → ⊥) → b ≡ false
is_not true not = absurd (not refl)
is_not false not = refl

module _ (base : Option Database) (config : Config) (sessions queue : ℕ) (new : KnownOfThreads) where
  abbrev Seen : KnownOfThreads → Known
  Seen k = known_of base config sessions queue k

  abbrev after : Known
  after = Seen new

  -- ---- a look

  -- the session's entries in what it saw more
  own_more : (old : KnownOfThreads) (more own : List Entry) → seen old ++ more ≡ seen new → new.number ≡ old.number → SeesOwn old → SeesOwn new → new.receipts ≡ old.receipts ++ own → of_session old.number more ≡ own
  own_more old more own extends number owns_old owns_new receipts =
      let split : of_session old.number (seen old) ++ of_session old.number more ≡ of_session old.number (seen new) = sym (of_session-append old.number (seen old) more) ∙ ap (of_session old.number) extends in
      let all : of_session old.number (seen new) ≡ of_session old.number (seen old) ++ own = ap (λ (n : ℕ). of_session n (seen new)) (sym number) ∙ owns_new ∙ receipts ∙ ap (λ (es : List Entry). es ++ own) (sym owns_old) in
      append_cancel_left (of_session old.number (seen old)) (of_session old.number more) own (split ∙ all)

  looks_of : (old : KnownOfThreads) → SeesOwn old → LooksOnThreads base old new → Looks (Seen old) after
  looks_of old owns looks =
      let number : new.number ≡ old.number = ap (λ (k : KnownOfThreads). k.number) looks.same in
      let receipts : new.receipts ≡ old.receipts = ap (λ (k : KnownOfThreads). k.receipts) looks.same in
      let pushes : new.pushes ≡ old.pushes = ap (λ (k : KnownOfThreads). k.pushes) looks.same in
      let lost : new.lost ≡ old.lost = ap (λ (k : KnownOfThreads). k.lost) looks.same in
      record {
        legal = looks.legal;
        more = looks.extends.0;
        extends = (λ i. record (Seen old) { number = number i; seen = sym looks.extends.1 i; pushes = pushes i; lost = lost i });
        none = own_more old looks.extends.0 [] looks.extends.1 number owns looks.own (receipts ∙ sym (append-nil old.receipts));
      }

  -- nothing more was seen
  stays : (old : KnownOfThreads) → IsLegal (base_of base) (seen old) → new ≡ old → Looks (Seen old) after
  stays old legal same = subst (Looks (Seen old)) (ap Seen (sym same)) (looks_itself (Seen old) legal)

  module _ (old : KnownOfThreads) (legal : IsLegal (base_of base) (seen old)) (owns : SeesOwn old) where
    refuses_look : (why : Fault) → RefusesLook base config sessions queue old why new → Learns (Seen old) (Refreshed (Err (call_fault why))) after
    refuses_look of_threads.Lost (lost, same) = (stays old legal same, ap Seen same, lost)
    refuses_look of_threads.EntryRefused (not_lost, same) = (stays old legal same, ap Seen same, not_lost)
    refuses_look of_threads.Memory refused = absurd refused
    refuses_look of_threads.Busy refused = absurd refused
    refuses_look of_threads.Full refused = absurd refused
    refuses_look of_threads.Behind refused = absurd refused
    refuses_look of_threads.Overrun refused = absurd refused

    refuses_wait : (seq turns : ℕ) (why : Fault) → RefusesWait base config sessions queue old why new → Learns (Seen old) (Waited seq turns (Err (call_fault why))) after
    refuses_wait seq turns of_threads.Lost (lost, same) = (stays old legal same, (λ _. ap Seen same), lost)
    refuses_wait seq turns of_threads.EntryRefused (not_lost, looks) = (looks_of old owns looks, (λ (lost : old.lost ≡ true). absurd (cc)), not_lost)
    refuses_wait seq turns of_threads.Memory refused = absurd refused
    refuses_wait seq turns of_threads.Busy refused = absurd refused
    refuses_wait seq turns of_threads.Full refused = absurd refused
    refuses_wait seq turns of_threads.Behind refused = absurd refused
    refuses_wait seq turns of_threads.Overrun refused = absurd refused

    -- ---- a write

    module _ (command : Command) (receipt : Told) (writes : WritesOnThreads base old command receipt new) where
      abbrev entry : Entry
      entry = record { seat = receipt.seat; command = command; reply = receipt.reply }

      abbrev more : List Entry
      more = writes.extends.0

      number : new.number ≡ old.number
      number = ap (λ (k : KnownOfThreads). k.number) writes.same

      only : of_session old.number more ≡ entry ∷ []
      only = own_more old more (entry ∷ []) writes.extends.1 number owns writes.only writes.receipts

      -- no entry seen before has the call's seat
      above : length (seen old) < receipt.place
      above =
          let there = found (λ e. same_key numbers old.number e.seat.session) more entry [] only in
          let here = ap (λ (es : List Entry). slice_get es (length (seen old) + there.0)) (sym writes.extends.1) ∙ slice_get-behind (seen old) more there.0 ∙ there.1 in
          let place = each_seat_once (base_of base) (seen new) (receipt.place - 1) (length (seen old) + there.0) entry entry writes.legal writes.told.1 here refl in
          omega (arith, place, writes.told.0)

      writes_of : new.pushes ≤ old.pushes + 1 → WritesCall (Seen old) command receipt.place after
      writes_of pushes =
          let lost : new.lost ≡ old.lost = ap (λ (k : KnownOfThreads). k.lost) writes.same in
          record {
            legal = writes.legal;
            more = more;
            extends = (λ i. record (Seen old) { number = number i; seen = sym writes.extends.1 i; pushes = new.pushes; lost = lost i });
            entry = entry;
            asked = refl;
            own = ap (λ s. s.session) writes.seat;
            told = writes.told;
            above = above;
            only = only;
            pushes = pushes;
          }

    module _ (command : Command) where
      -- a session that is lost for ever is not lost where another reason is reported
      not_lost : (why : Fault) → IsLostForEver old why new → (why ≡ of_threads.Lost → ⊥) → old.lost ≡ false
      not_lost why forever other = is_not old.lost (λ lost. other (forever lost).0)

      leaves_none : (why : CallFault) (middle : KnownOfThreads) → Looks (Seen middle) after → with_calls (Seen middle) new.pushes new.lost ≡ with_calls (Seen old) new.pushes new.lost
          → new.pushes ≤ old.pushes + 1 → new.lost ≡ says_lost why → RefusesWrite (Seen old) command after why → LeavesNone (Seen old) command why after
      leaves_none why middle looks same pushes lost reason = record {
        looks = subst (λ (k : Known). Looks k after) same (looks_only (Seen middle) after looks);
        pushes = pushes;
        lost = lost;
        reason = reason;
      }

      refuses_edit : (why : Fault) → is_compact command ≡ false → RefusesEdit base config sessions queue old why new → new.pushes ≤ old.pushes + 1 → IsLostForEver old why new
          → LeavesNone (Seen old) command (call_fault why) after
      refuses_edit of_threads.Memory edit same pushes forever =
          let kept = not_lost of_threads.Memory forever (λ is. cc) in
          leaves_none fault.Memory (record old { pushes = new.pushes }) (stays (record old { pushes = new.pushes }) legal same) refl pushes (ap (λ (k : KnownOfThreads). k.lost) same ∙ kept) kept
      refuses_edit of_threads.Busy edit (same, busy) pushes forever =
          let kept = not_lost of_threads.Busy forever (λ is. cc) in
          leaves_none (fault.Unavailable unavailable.Busy) old (stays old legal same) refl pushes (ap (λ (k : KnownOfThreads). k.lost) same ∙ kept) (kept, edit, busy, ap Seen same)
      refuses_edit of_threads.Lost edit same pushes forever =
          leaves_none (fault.Unavailable unavailable.Lost) (record old { pushes = new.pushes; entered = new.entered; lost = true }) (stays (record old { pushes = new.pushes; entered = new.entered; lost = true }) legal same) refl pushes
          (ap (λ (k : KnownOfThreads). k.lost) same) (λ lost. ap Seen (forever lost).1)
      refuses_edit of_threads.Full edit (looks, full) pushes forever =
          let kept = not_lost of_threads.Full forever (λ is. cc) in
          leaves_none (fault.Unavailable unavailable.Full) (record old { pushes = new.pushes }) (looks_of (record old { pushes = new.pushes }) owns looks) refl pushes
          (ap (λ (k : KnownOfThreads). k.lost) looks.same ∙ kept) (kept, full)
      refuses_edit of_threads.EntryRefused edit refused pushes forever = absurd refused
      refuses_edit of_threads.Behind edit refused pushes forever = absurd refused
      refuses_edit of_threads.Overrun edit refused pushes forever = absurd refused

      refuses_compaction : (why : Fault) → is_compact command ≡ true → Leaves base config why old new → new.pushes ≡ old.pushes → IsLostForEver old why new → LeavesNone (Seen old) command (call_fault why) after
      refuses_compaction of_threads.Busy compacts refused pushes forever = absurd refused
      refuses_compaction of_threads.Lost compacts looks pushes forever =
          leaves_none (fault.Unavailable unavailable.Lost) (record old { tried = new.tried; entered = new.entered; lost = true }) (looks_of (record old { tried = new.tried; entered = new.entered; lost = true }) owns looks) refl (omega (arith, pushes))
          (ap (λ (k : KnownOfThreads). k.lost) looks.same) (λ lost. ap Seen (forever lost).1)
      refuses_compaction of_threads.Full compacts (looks, full) pushes forever =
          let kept = not_lost of_threads.Full forever (λ is. cc) in
          leaves_none (fault.Unavailable unavailable.Full) (record old { tried = new.tried }) (looks_of (record old { tried = new.tried }) owns looks) refl (omega (arith, pushes)) (ap (λ (k : KnownOfThreads). k.lost) looks.same ∙ kept) (kept, full)
      refuses_compaction of_threads.Memory compacts looks pushes forever =
          let kept = not_lost of_threads.Memory forever (λ is. cc) in
          leaves_none fault.Memory (record old { tried = new.tried }) (looks_of (record old { tried = new.tried }) owns looks) refl (omega (arith, pushes)) (ap (λ (k : KnownOfThreads). k.lost) looks.same ∙ kept) kept
      refuses_compaction of_threads.EntryRefused compacts looks pushes forever =
          let kept = not_lost of_threads.EntryRefused forever (λ is. cc) in
          leaves_none (fault.Unavailable unavailable.Entry) (record old { tried = new.tried }) (looks_of (record old { tried = new.tried }) owns looks) refl (omega (arith, pushes)) (ap (λ (k : KnownOfThreads). k.lost) looks.same ∙ kept) (kept, compacts)
      refuses_compaction of_threads.Behind compacts (looks, tried) pushes forever =
          let kept = not_lost of_threads.Behind forever (λ is. cc) in
          leaves_none (fault.Unavailable unavailable.Behind) (record old { tried = new.tried }) (looks_of (record old { tried = new.tried }) owns looks) refl (omega (arith, pushes)) (ap (λ (k : KnownOfThreads). k.lost) looks.same ∙ kept) (kept, compacts)
      refuses_compaction of_threads.Overrun compacts looks pushes forever =
          let kept = not_lost of_threads.Overrun forever (λ is. cc) in
          leaves_none (fault.Unavailable unavailable.Overrun) (record old { tried = new.tried }) (looks_of (record old { tried = new.tried }) owns looks) refl (omega (arith, pushes)) (ap (λ (k : KnownOfThreads). k.lost) looks.same ∙ kept) (kept, compacts)

      refuses_write : (compacts : Bool) → is_compact command ≡ compacts → (why : Fault) → RefusesWriteOnThreads base config sessions queue compacts old why new → IsLostForEver old why new
          → LeavesNone (Seen old) command (call_fault why) after
      refuses_write false is why refused forever = refuses_edit why is refused.0 refused.1 forever
      refuses_write true is why refused forever = refuses_compaction why is refused.0 refused.1 forever

    -- ---- each call

    pub learns_of : (call : SessionCall) → Goes base config sessions queue old call new → Learns (Seen old) call after
    learns_of (Refreshed (Ok done)) (looks, kept) = (looks_of old owns looks, kept)
    learns_of (Refreshed (Err why)) (told, is, refused) = subst (λ (w : CallFault). Learns (Seen old) (Refreshed (Err w)) after) (sym is) (refuses_look told refused)
    learns_of (Waited seq turns (Ok past)) (looks, kept, is, often) = (looks_of old owns looks, kept, is)
    learns_of (Waited seq turns (Err why)) (told, is, refused) = subst (λ (w : CallFault). Learns (Seen old) (Waited seq turns (Err w)) after) (sym is) (refuses_wait seq turns told refused)
    learns_of (Wrote command (Ok place)) (receipt, is, writes, kept, pushes) =
        subst (λ (p : ℕ). Learns (Seen old) (Wrote command (Ok p)) after) (sym is) (writes_of command receipt writes pushes, kept)
    learns_of (Wrote command (Err why)) (told, is, refused, forever) =
        subst (λ (w : CallFault). Learns (Seen old) (Wrote command (Err w)) after) (sym is) (inl (refuses_write command (is_compact command) refl told refused forever))

-- ---- what `sessions` proves of each call

no_answer : {A E : Type 0} {x : A} {e : E} → (let r : Result A E = Ok x in r ≡ Err e) → ⊥
no_answer same = cc

-- where a lost session answers only so, one that has an answer is not lost
pub kept_of : {A E : Type 0} {x : A} {e : E} (b : Bool) → (b ≡ true → (let r : Result A E = Ok x in r ≡ Err e)) → b ≡ false
kept_of b forever = is_not b (λ lost. no_answer (forever lost))

pub same_fault : {A : Type 0} {x y : Fault} → (let r : Result A Fault = Err x in r ≡ Err y) → x ≡ y
same_fault same = cc

module _ (base : Option Database) (config : Config) (sessions queue : ℕ) (old new : KnownOfThreads) where
  pub look_refused : (e : Fault) → (e ≡ of_threads.Lost) ⊎ (e ≡ of_threads.EntryRefused) → (old.lost ≡ true → e ≡ of_threads.Lost) → (e ≡ of_threads.Lost → old.lost ≡ true) → new ≡ old
      → RefusesLook base config sessions queue old e new
  look_refused e (inl is) forever lost same = subst (λ (f : Fault). RefusesLook base config sessions queue old f new) (sym is) (lost is, same)
  look_refused e (inr is) forever lost same =
      subst (λ (f : Fault). RefusesLook base config sessions queue old f new) (sym is) (is_not old.lost (λ true_so. let both : of_threads.EntryRefused ≡ of_threads.Lost = sym is ∙ forever true_so in cc), same)

  pub wait_refused : (e : Fault) → (e ≡ of_threads.Lost) ⊎ (e ≡ of_threads.EntryRefused) → (old.lost ≡ true → e ≡ of_threads.Lost) → (e ≡ of_threads.Lost → old.lost ≡ true)
      → (e ≡ of_threads.Lost → new ≡ old) → (e ≡ of_threads.EntryRefused → LooksOnThreads base old new) → RefusesWait base config sessions queue old e new
  wait_refused e (inl is) forever lost same looks = subst (λ (f : Fault). RefusesWait base config sessions queue old f new) (sym is) (lost is, same is)
  wait_refused e (inr is) forever lost same looks =
      subst (λ (f : Fault). RefusesWait base config sessions queue old f new) (sym is) (is_not old.lost (λ true_so. let both : of_threads.EntryRefused ≡ of_threads.Lost = sym is ∙ forever true_so in cc), looks is)

  pub edit_refused : (e : Fault)
      → (e ≡ of_threads.Memory → new ≡ record old { pushes = new.pushes })
      → (e ≡ of_threads.Busy → new ≡ old) → (e ≡ of_threads.Busy → (queue < sessions) ⊎ (2 ^ 62 ≤ old.pushes))
      → (e ≡ of_threads.Full → LooksOnThreads base (record old { pushes = new.pushes }) new) → (e ≡ of_threads.Full → length (seen new) ≡ config.max_places)
      → (e ≡ of_threads.Lost → new ≡ record old { pushes = new.pushes; entered = new.entered; lost = true })
      → IsOfWrite e
      → RefusesEdit base config sessions queue old e new
  edit_refused of_threads.Memory memory busy when_busy full when_full lost refused = memory refl
  edit_refused of_threads.Busy memory busy when_busy full when_full lost refused = (busy refl, when_busy refl)
  edit_refused of_threads.Full memory busy when_busy full when_full lost refused = (full refl, when_full refl)
  edit_refused of_threads.Lost memory busy when_busy full when_full lost refused = lost refl
  edit_refused of_threads.EntryRefused memory busy when_busy full when_full lost refused = absurd refused
  edit_refused of_threads.Behind memory busy when_busy full when_full lost refused = absurd refused
  edit_refused of_threads.Overrun memory busy when_busy full when_full lost refused = absurd refused

  pub compaction_refused : (e : Fault)
      → (e ≡ of_threads.Memory → OnlyLooks base old new) → (e ≡ of_threads.Behind → OnlyLooks base old new) → (e ≡ of_threads.Behind → new.tried ≡ risen old.tried config.tries)
      → (e ≡ of_threads.Overrun → OnlyLooks base old new) → (e ≡ of_threads.EntryRefused → OnlyLooks base old new)
      → (e ≡ of_threads.Full → OnlyLooks base old new) → (e ≡ of_threads.Full → length (seen new) ≡ config.max_places)
      → (e ≡ of_threads.Lost → LooksOnThreads base (record old { tried = new.tried; entered = new.entered; lost = true }) new) → IsOfCompaction e
      → Leaves base config e old new
  compaction_refused of_threads.Memory memory behind tried overrun entered full when_full lost refused = memory refl
  compaction_refused of_threads.Behind memory behind tried overrun entered full when_full lost refused = (behind refl, tried refl)
  compaction_refused of_threads.Overrun memory behind tried overrun entered full when_full lost refused = overrun refl
  compaction_refused of_threads.EntryRefused memory behind tried overrun entered full when_full lost refused = entered refl
  compaction_refused of_threads.Full memory behind tried overrun entered full when_full lost refused = (full refl, when_full refl)
  compaction_refused of_threads.Lost memory behind tried overrun entered full when_full lost refused = lost refl
  compaction_refused of_threads.Busy memory behind tried overrun entered full when_full lost refused = absurd refused
