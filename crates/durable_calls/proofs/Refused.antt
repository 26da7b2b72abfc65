-- Writes that are refused since the journal failed before.
use Rattle.std.proofs.Common.{◌≡◌, ℕ, false, Ok, Err, inl, inr, refl, ap, ◌∙◌, arith}
use Rattle.std.specs.Prelude.{Result, ⊤}
use Rattle.model.specs.Command.{Command}
use Rattle.session_api.specs.declared.fault.Unavailable.TheVariants as unavailable
use Rattle.session_api.specs.Learns.{Learns, LeavesNone, Looks}
use Rattle.session_api.specs.SessionCall.{Refreshed, Wrote}
use Rattle.session_api.specs.Known.{Known}
use Rattle.session_api.specs.declared.fault.CallFault.{CallFault}
use Rattle.session_api.specs.declared.fault.CallFault.TheVariants as fault
use Rattle.session_api.proofs.Histories.{looks_only}
use Rattle.durable_calls.specs.Kept.{journal_fault, refused_by}

module _ (old new : Known) (command : Command) where
  -- a session that is not lost has only looked
  refused_kept : Looks old new → old.lost ≡ false → LeavesNone old command journal_fault new
  refused_kept looks kept =
      let pushes : new.pushes ≡ old.pushes = ap (λ (k : Known). k.pushes) looks.extends in
      let lost : new.lost ≡ old.lost = ap (λ (k : Known). k.lost) looks.extends in
      record { looks = looks_only old new looks; pushes = omega (arith, pushes); lost = lost ∙ kept; reason = kept }

  -- what is known of a write that is refused by a look
  pub refused_leaves : (looked : Result ⊤ CallFault) → Learns old (Refreshed looked) new → LeavesNone old command (refused_by looked) new
  refused_leaves (Ok done) (looks, kept) = refused_kept looks kept
  refused_leaves (Err fault.Memory) (looks, same, refused) = absurd refused
  refused_leaves (Err (fault.Unavailable unavailable.Busy)) (looks, same, refused) = absurd refused
  refused_leaves (Err (fault.Unavailable unavailable.Lost)) (looks, same, lost) =
      let pushes : new.pushes ≡ old.pushes = ap (λ (k : Known). k.pushes) same in
      record { looks = looks_only old new looks; pushes = omega (arith, pushes); lost = ap (λ (k : Known). k.lost) same ∙ lost; reason = λ _. same }
  refused_leaves (Err (fault.Unavailable unavailable.Full)) (looks, same, refused) = absurd refused
  refused_leaves (Err (fault.Unavailable unavailable.Behind)) (looks, same, refused) = absurd refused
  refused_leaves (Err (fault.Unavailable unavailable.Overrun)) (looks, same, refused) = absurd refused
  refused_leaves (Err (fault.Unavailable unavailable.Entry)) (looks, same, kept) = refused_kept looks kept
  refused_leaves (Err (fault.Unavailable unavailable.Journal)) (looks, same, refused) = absurd refused

  pub refused_learns : (looked : Result ⊤ CallFault) → Learns old (Refreshed looked) new → Learns old (Wrote command (Err (refused_by looked))) new
  refused_learns looked learns = inl (refused_leaves looked learns)

  -- an entry is there, and the journal failed before it was known to be kept
  pub unsynced_learns : (place : ℕ) → Learns old (Wrote command (Ok place)) new → Learns old (Wrote command (Err journal_fault)) new
  unsynced_learns place (writes, kept) = inr (record { why_is = refl; place = place; writes = writes; kept = kept })
