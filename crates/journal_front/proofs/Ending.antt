-- What the journal of an epoch has at its end.
use Rattle.std.proofs.Common.{ℕ, List, ◌++◌, length, Some, None, sym, refl, ◌∙◌, ap, subst, append_assoc}
use Rattle.std.specs.Prelude.{Option}
use mathlib.Core.List.{IsPrefix}
use Rattle.model.specs.Command.{Entry}
use Rattle.model.specs.Database.{Database}
use Rattle.model.specs.History.{Chronicle, Extends}
use Rattle.session_api.specs.Learns.{Looks}
use Rattle.session_api.specs.Known.{Known, history_of}
use Rattle.journal.specs.Appending.{lines_above}
use Rattle.journal.specs.Held.{BeginsDump}
use Rattle.journal.specs.Kept.{Kept}
use Rattle.journal.proofs.Grown.{dump-more}

-- a last history begins with one that was seen
module _ (base : Option Database) (here last : List Entry) (begins : IsPrefix here last) where
  goes_on : Extends (record { base = base; entries = last }) (record { base = base; entries = here })
  goes_on = record { base = refl; more = begins.0; entries = sym begins.1 }

  -- and so with what that begins with
  pub extends_last : (h : Chronicle) → Extends (record { base = base; entries = here }) h → Extends (record { base = base; entries = last }) h
  extends_last h on = record {
    base = on.base;
    more = on.more ++ begins.0;
    entries = sym begins.1 ∙ ap (λ (es : List Entry). es ++ begins.0) on.entries ∙ append_assoc h.entries on.more begins.0;
  }

  -- its dump begins with the dump of that one
  pub begins_last : (k : Kept) → BeginsDump k (record { base = base; entries = here }) → BeginsDump k (record { base = base; entries = last })
  begins_last k known = go k.taken known
    where
      lines : List ℕ
      lines = lines_above (length here) last

      go : (taken : Option (List ℕ)) → BeginsDump (record k { taken = taken }) (record { base = base; entries = here }) → BeginsDump (record k { taken = taken }) (record { base = base; entries = last })
      go None begun = tt
      go (Some text) (rest, is) =
          (rest ++ lines, sym (append_assoc text rest lines) ∙ ap (λ (t : List ℕ). t ++ lines) is ∙ dump-more (record { base = base; entries = here }) (record { base = base; entries = last }) goes_on)

-- what a file begins of a history that was seen, it begins of what was seen more
pub looks_begins : (k : Kept) (old new : Known) → BeginsDump k (history_of old) → Looks old new → BeginsDump k (history_of new)
looks_begins k old new begins looks =
    subst (λ (n : Known). BeginsDump k (history_of n)) (sym looks.extends) (begins_last old.base old.seen (old.seen ++ looks.more) (looks.more, refl) k begins)
