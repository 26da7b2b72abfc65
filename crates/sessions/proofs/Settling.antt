-- A session that learned what became of its call, or how a try of its compaction ended.
use Rattle.std.proofs.Common.{◌≡◌, ◌+◌, ℕ, Bool, true, false, List, length, refl, ap, sym, ◌∙◌, subst}
use Rattle.std.specs.Prelude.{Result, Ok, Err, Option, Some, None, IfOk, IfErr, IfSome, IfNone}
use Rattle.model.specs.Command.{Command, Entry}
use Rattle.model.specs.Database.{Database}
use Rattle.model.specs.History.{Chronicle}
use Rattle.model.specs.World.{Config}
use Rattle.updater_state.specs.Callers.{CallerView, risen, after_trying}
use Rattle.updater_state.specs.Tries.{has_stood}
use Rattle.updater_state.specs.declared.trying.Swapped.{Swapped}
use Rattle.updater_state.specs.declared.trying.Swapped.TheVariants as swapped
use Rattle.sessions.specs.Known.{Known, Holds, settled}
use Rattle.sessions.specs.Calls.{Told, Writes}
use Rattle.sessions.specs.Compactions.{LeavesTry, after_try, entered_by}
use Rattle.sessions.specs.Answered.{AnswersTry}
use Rattle.sessions.specs.declared.fault.Fault.{Fault}
use Rattle.sessions.specs.declared.fault.Fault.TheVariants as fault

-- a session that has a receipt for each entry that it learned of, and is not lost
settled_as : (k : Known) → k.entered ≡ length k.receipts → k.lost ≡ false → k ≡ settled k
settled_as k entered lost = λ i. record k { entered = entered i; lost = lost i }

-- ---- a receipt, of a session that tried before

writes_tried : (base : Option Database) (old new : Known) (tried : ℕ) (command : Command) (receipt : Told) → Writes base (record old { tried = tried }) command receipt new → Writes base old command receipt new
writes_tried base old new tried command receipt w = record {
  legal = w.legal;
  extends = w.extends;
  seat = w.seat;
  told = w.told;
  receipts = w.receipts;
  only = w.only;
  first = w.first;
  bound = w.bound;
  counted = w.counted;
  same = w.same;
}

-- ---- after a try

-- what is known of a session, by what the updater knows it by
abbrev by_caller : Known → CallerView → Bool → Known
by_caller k caller lost = record k { pushes = caller.turn.pushed; tried = caller.behind; entered = caller.entered; lost = lost }

module _ {J : Type 0} where
  pub holds_after : (base : Option Database) (number calls : ℕ) (lost l : Bool) (latest receipted : List (List Entry)) (looked : Option Chronicle) (caller now : CallerView) (s : Swapped J)
      → Holds base number calls lost latest receipted looked caller → lost ≡ false → now ≡ after_trying caller s → l ≡ has_stood s → Holds base number calls l latest receipted looked now
  holds_after base number calls lost l latest receipted looked caller now s h known is stood =
      subst (λ (k : CallerView). Holds base number calls l latest receipted looked k) (sym is)
      (subst (λ (b : Bool). Holds base number calls b latest receipted looked (after_trying caller s)) (sym stood) (go s))
    where
      same : (b : Bool) → Holds base number calls b latest receipted looked caller
      same b = record {
        counted = h.counted;
        own = h.own;
        grows = h.grows;
        session = h.session;
        ticket_is = h.ticket_is;
        gone = λ _. h.gone known;
        heard = h.heard;
        entered = λ _. h.entered known;
        looked_is = h.looked_is;
      }

      go : (s : Swapped J) → Holds base number calls (has_stood s) latest receipted looked (after_trying caller s)
      go (swapped.Stood s) = record {
        counted = h.counted;
        own = h.own;
        grows = h.grows;
        session = h.session;
        ticket_is = h.ticket_is;
        gone = λ _. h.gone known;
        heard = λ _. h.gone known;
        entered = λ no. absurd (cc no);
        looked_is = h.looked_is;
      }
      go swapped.Behind = record {
        counted = h.counted;
        own = h.own;
        grows = h.grows;
        session = h.session;
        ticket_is = h.ticket_is;
        gone = λ _. h.gone known;
        heard = h.heard;
        entered = λ _. h.entered known;
        looked_is = h.looked_is;
      }
      go (swapped.Full found) = same false
      go swapped.Overrun = same false
      go swapped.Memory = same false
      go swapped.Lost = same false

  pub counted_after : (k : Known) (caller now : CallerView) (s : Swapped J) → by_caller k caller false ≡ k → now ≡ after_trying caller s → by_caller k now (has_stood s) ≡ after_try k s
  counted_after k caller now s view is = ap (λ (c : CallerView). by_caller k c (has_stood s)) is ∙ go s
    where
      go : (s : Swapped J) → by_caller k (after_trying caller s) (has_stood s) ≡ after_try k s
      go (swapped.Stood s) = λ i. record (view i) { entered = (view i).entered + 1; lost = true }
      go swapped.Behind = λ i. record (view i) { tried = risen (view i).tried 1 }
      go (swapped.Full found) = view
      go swapped.Overrun = view
      go swapped.Memory = view
      go swapped.Lost = view

  pub entered_after : (k w : Known) (s : Swapped J) → k.entered ≡ length k.receipts → w ≡ after_try k s → w.entered ≡ entered_by (length w.receipts) s
  entered_after k w s receipts is = subst (λ (v : Known). v.entered ≡ entered_by (length v.receipts) s) (sym is) (go s)
    where
      go : (s : Swapped J) → (after_try k s).entered ≡ entered_by (length (after_try k s).receipts) s
      go (swapped.Stood s) = ap (λ n. n + 1) receipts
      go swapped.Behind = receipts
      go (swapped.Full found) = receipts
      go swapped.Overrun = receipts
      go swapped.Memory = receipts
      go swapped.Lost = receipts

  pub lost_after : (k w : Known) (s : Swapped J) → k.lost ≡ false → w ≡ after_try k s → w.lost ≡ has_stood s
  lost_after k w s known is = ap (λ (v : Known). v.lost) is ∙ go s
    where
      go : (s : Swapped J) → (after_try k s).lost ≡ has_stood s
      go (swapped.Stood s) = refl
      go swapped.Behind = known
      go (swapped.Full found) = known
      go swapped.Overrun = known
      go swapped.Memory = known
      go swapped.Lost = known

  pub settled_tried : (k w : Known) (s : Swapped J) → k.lost ≡ false → k.entered ≡ length k.receipts → w ≡ after_try k s → settled w ≡ record k { tried = w.tried }
  settled_tried k w s known receipts is = subst (λ (v : Known). settled v ≡ record k { tried = v.tried }) (sym is) (go s)
    where
      here : settled k ≡ k
      here = sym (settled_as k receipts known)

      go : (s : Swapped J) → settled (after_try k s) ≡ record k { tried = (after_try k s).tried }
      go (swapped.Stood s) = here
      go swapped.Behind = λ i. record (here i) { tried = risen k.tried 1 }
      go (swapped.Full found) = here
      go swapped.Overrun = here
      go swapped.Memory = here
      go swapped.Lost = here

  -- no receipt comes only of a try that was behind
  pub behind_after : (k w new : Known) (s : Swapped J) (r : Result (Option Told) Fault) → AnswersTry s r → k.lost ≡ false → k.entered ≡ length k.receipts → w ≡ after_try k s → IfOk r (λ found. IfNone found (new ≡ settled w))
      → IfOk r (λ found. IfNone found (new ≡ record k { tried = risen k.tried 1 }))
  behind_after k w new s (Ok (Some t)) answers known receipts is same = tt
  behind_after k w new s (Err e) answers known receipts is same = tt
  behind_after k w new (swapped.Stood s) (Ok None) answers known receipts is same = absurd (cc answers)
  behind_after k w new swapped.Behind (Ok None) answers known receipts is same =
      same ∙ settled_tried k w swapped.Behind known receipts is ∙ (λ i. record k { tried = (is i).tried })
  behind_after k w new (swapped.Full found) (Ok None) answers known receipts is same = absurd answers
  behind_after k w new swapped.Overrun (Ok None) answers known receipts is same = absurd (cc answers)
  behind_after k w new swapped.Memory (Ok None) answers known receipts is same = absurd (cc answers)
  behind_after k w new swapped.Lost (Ok None) answers known receipts is same = absurd (cc answers)

-- a receipt, or a fault, of a session that tried before
pub receipt_tried : (base : Option Database) (k w new : Known) (tried : ℕ) (command : Command) (r : Result (Option Told) Fault) → settled w ≡ record k { tried = tried } → IfOk r (λ found. IfSome found (λ t. Writes base (settled w) command t new))
    → IfOk r (λ found. IfSome found (λ t. Writes base k command t new))
receipt_tried base k w new tried command (Ok (Some t)) is writes = writes_tried base k new tried command t (subst (λ (v : Known). Writes base v command t new) is writes)
receipt_tried base k w new tried command (Ok None) is writes = tt
receipt_tried base k w new tried command (Err e) is writes = tt

leaves_tried_before : (base : Option Database) (config : Config) (e : Fault) (k new : Known) (tried : ℕ) → LeavesTry base config e (record k { tried = tried }) new → LeavesTry base config e k new
leaves_tried_before base config fault.Busy k new tried q = q
leaves_tried_before base config fault.Behind k new tried q = q
leaves_tried_before base config fault.Lost k new tried q = q
leaves_tried_before base config fault.Full k new tried q = q
leaves_tried_before base config fault.Memory k new tried q = q
leaves_tried_before base config fault.EntryRefused k new tried q = q
leaves_tried_before base config fault.Overrun k new tried q = q

pub fault_tried : (base : Option Database) (config : Config) (k w new : Known) (tried : ℕ) (r : Result (Option Told) Fault) → settled w ≡ record k { tried = tried } → IfErr r (λ e. LeavesTry base config e (settled w) new) → IfErr r (λ e. LeavesTry base config e k new)
fault_tried base config k w new tried (Ok x) is leaves = tt
fault_tried base config k w new tried (Err e) is leaves = leaves_tried_before base config e k new tried (subst (λ (v : Known). LeavesTry base config e v new) is leaves)
