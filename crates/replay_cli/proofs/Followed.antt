-- What follows a text.
use Rattle.std.proofs.Common.{◌≡◌, Bool, true, false, List, ℕ, Some, inl, inr, length, refl, sym, ap, subst, ◌∙◌, arith}
use Rattle.model.specs.Database.{Database, IsDatabase}
use Rattle.model.specs.History.{Chronicle, IsBase, now}
use Rattle.model.proofs.BaseLaws.{IsBase-successor}
use Rattle.history_dump.specs.Dump.{first_line}
use Rattle.replay_cli.specs.Successors.{AreTooLarge, HasRoom, IsDumpOfLegal, IsLastEpoch, IsRefused, IsSuccessorLine, base_after}
use Rattle.replay_cli.specs.Verdicts.{IsDump, IsVerdict}
use Rattle.replay_cli.specs.declared.verdict.Verdict.{Verdict}
use Rattle.replay_cli.specs.declared.verdict.Verdict.TheVariants as verdict
use Rattle.replay_cli.proofs.Verdicts.{legal-only}

no_room : (d : Database) → HasRoom d → AreTooLarge d → ⊥
no_room d room large = let updates = room.updates in let purges = room.purges in elim large [ inl a ↦ omega (arith, a, updates) | inr b ↦ omega (arith, b, purges) ]

-- numbers with room are those of a base, raised or not
pub is_base_after : (is_raised : Bool) (d : Database) → IsDatabase d → HasRoom (base_after is_raised d) → IsBase (base_after is_raised d)
is_base_after false d valid room = IsBase-successor d valid room.updates room.purges
is_base_after true d valid room = record {
  database = record {
    docs = valid.docs;
    numbered = record {
      within = λ id r is. let was = valid.numbered.within id r is in (was.0, omega (arith, was.1));
      distinct = valid.numbered.distinct;
    };
    locals = valid.locals;
    log = valid.log;
    revs_limit = valid.revs_limit;
  };
  uncalled = refl;
  updates = room.updates;
  purges = room.purges;
}

-- a text with a refused verdict is no dump of a legal history
pub not_legal : (text : List ℕ) (found : Verdict) → IsRefused found → ((other : Verdict) → IsVerdict text other → other ≡ found) → (h : Chronicle) → IsDumpOfLegal text h → ⊥
not_legal text found refused only h b =
    let told : verdict.Legal (length h.entries) ≡ found = only (verdict.Legal (length h.entries)) (record { history = h; dump = b.dump; legal = b.legal; places_are = refl }) in
    subst IsRefused (sym told) refused

-- of a text that is the dump of this legal history and no other
module _ (text : List ℕ) (last : Chronicle) (before : IsDumpOfLegal text last) (only : (other : Chronicle) → IsDump text other → other ≡ last) where
  pub not_refused : (v : Verdict) → IsVerdict text v → IsRefused v → ⊥
  not_refused v is refused = subst IsRefused (legal-only text last before.dump only before.legal v is) refused

  module _ (is_raised : Bool) where
    pub not_last : HasRoom (base_after is_raised (now last)) → IsLastEpoch is_raised text → ⊥
    not_last room l = no_room (base_after is_raised (now last)) room (subst (λ (h : Chronicle). AreTooLarge (base_after is_raised (now h))) (only l.history l.before.dump) l.too_large)

    pub one_line : (line : List ℕ) → IsSuccessorLine is_raised text line → line ≡ first_line (Some (base_after is_raised (now last)))
    one_line line s = s.line_is ∙ ap (λ (h : Chronicle). first_line (Some (base_after is_raised (now h)))) (only s.history s.before.dump)
