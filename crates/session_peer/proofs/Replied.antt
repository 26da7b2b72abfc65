-- Commands that were written, with what was replied.
use Rattle.std.proofs.Common.{◌≡◌, ℕ, Ok, sym, subst}
use Rattle.model.specs.Command.{Command, Entry, Reply}
use Rattle.session_api.specs.SessionCall.{SessionCall, Wrote}
use Rattle.session_api.specs.Learns.{Makes}
use Rattle.session_api.specs.Known.{Known, HasEntryAt}
use Rattle.session_peer.specs.Goes.{Writes}

module _ {S : Type 0} (goes : S → SessionCall → S → Type 0) (known : S → Known) where
  -- the session has the entry
  pub has_entry : (old new : S) (command : Command) (place : ℕ) → Makes goes known old (Wrote command (Ok place)) new
      → (entry : Entry) × HasEntryAt (known new) place entry
  has_entry old new command place made = (made.learns.0.entry, made.learns.0.told)

  pub writes : (old new : S) (asked command : Command) (place : ℕ) (reply : Reply) → asked ≡ command → Makes goes known old (Wrote asked (Ok place)) new
      → ((entry : Entry) → HasEntryAt (known new) place entry → reply ≡ entry.reply) → Writes goes known old command reply new
  writes old new asked command place reply is made told =
      subst (λ (c : Command). Writes goes known old c reply new) is
      (record { place = place; wrote = made; replied = sym (told made.learns.0.entry made.learns.0.told) })
