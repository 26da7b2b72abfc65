-- A text has one verdict.
use Rattle.std.specs.Prelude.{Option}
use Rattle.std.proofs.Common.{◌≡◌, ◌↔◌, ℕ, suc, Ok, Err, Result, IfOk, List, [], ◌∷◌, ◌++◌, length, inl, inr, sym, ap, subst, ◌∙◌}
use Rattle.model.specs.Command.{Entry}
use Rattle.model.specs.Database.{Database}
use Rattle.std.proofs.lemmas.List.{append_assoc}
use Rattle.model.specs.History.{IsLegal, IsNext, replay, Chronicle, base_of, now, extended}
use Rattle.model.proofs.HistoryLaws.{IsLegal-append}
use Rattle.replay_cli.specs.Lines.{lines_or_one}
use Rattle.replay_cli.specs.Places.{IsFirstWrong}
use Rattle.replay_cli.specs.Verdicts.{IsDump, IsUnreadable, IsVerdict, begun_with}
use Rattle.replay_cli.specs.Successors.{IsDumpOfLegal}
use Rattle.replay_cli.specs.declared.verdict.Verdict.{Verdict}
use Rattle.replay_cli.specs.declared.verdict.Verdict.TheVariants as verdict
use Rattle.replay_cli.proofs.Forks.{GoesOn, forks}
use Rattle.replay_cli.proofs.Readable.{readable-dump, readable-none, unreadable-one}

-- ---- wrong entries

-- each entry of a legal history is the next one where it is
next-at : (base : Database) (before : List Entry) (entry : Entry) (after : List Entry) → IsLegal base (before ++ entry ∷ after) → IsNext (replay base before) entry
next-at base before entry after legal = ((IsLegal-append base before (entry ∷ after)).0 legal).1.0

pub wrong-none : (base : Database) (es : List Entry) (place : ℕ) → IsLegal base es → IsFirstWrong base es place → ⊥
wrong-none base es place legal first =
    first.wrong (next-at base first.before first.entry first.after (subst (IsLegal base) first.entries_are legal))

module _ (base : Database) (es : List Entry) where
  later-none : (a b : ℕ) (f : IsFirstWrong base es a) (g : IsFirstWrong base es b) → GoesOn g.before f.entry f.before → ⊥
  later-none a b f g (more, is) = f.wrong (next-at base f.before f.entry more (subst (IsLegal base) is g.legal))

  pub wrong-one : (a b : ℕ) → IsFirstWrong base es a → IsFirstWrong base es b → a ≡ b
  wrong-one a b f g =
      elim (forks f.before f.entry f.after g.before g.entry g.after (sym f.entries_are ∙ g.entries_are)) [
        | inl same ↦ f.place_is ∙ ap suc same ∙ sym g.place_is
        | inr apart ↦ elim apart [
          | inl on ↦ absurd (later-none a b f g on)
          | inr on ↦ absurd (later-none b a g f on)
        ]
      ]

-- ---- verdicts

no-dump : (text : List ℕ) (h : Chronicle) (number : ℕ) → IsDump text h → IsUnreadable text number → ⊥
no-dump text h number dump first = readable-none 1 (lines_or_one text) number (readable-dump text h dump) first

pub unreadable-only : (text : List ℕ) (number : ℕ) → IsUnreadable text number → (other : Verdict) → IsVerdict text other → other ≡ verdict.UnreadableLine number
unreadable-only text number first (verdict.Legal n) h = absurd (no-dump text h.history number h.dump first)
unreadable-only text number first (verdict.WrongAt n) h = absurd (no-dump text h.history number h.dump first)
unreadable-only text number first (verdict.UnreadableLine n) h = ap verdict.UnreadableLine (unreadable-one 1 (lines_or_one text) n number h first)

-- of a text that is the dump of this history and no other
module _ (text : List ℕ) (history : Chronicle) (dump : IsDump text history) (only : (other : Chronicle) → IsDump text other → other ≡ history) where
  abbrev base : Database
  base = base_of history.base

  abbrev LegalOf : Chronicle → Type 0
  LegalOf h = IsLegal (base_of h.base) h.entries

  abbrev WrongOf : ℕ → Chronicle → Type 0
  WrongOf n h = IsFirstWrong (base_of h.base) h.entries n

  pub legal-only : IsLegal base history.entries → (other : Verdict) → IsVerdict text other → other ≡ verdict.Legal (length history.entries)
  legal-only legal (verdict.Legal n) h = ap verdict.Legal (h.places_are ∙ ap (λ (c : Chronicle). length c.entries) (only h.history h.dump))
  legal-only legal (verdict.WrongAt n) h = absurd (wrong-none base history.entries n legal (subst (WrongOf n) (only h.history h.dump) h.wrong))
  legal-only legal (verdict.UnreadableLine n) h = absurd (no-dump text history n dump h)

  pub wrong-only : (place : ℕ) → IsFirstWrong base history.entries place → (other : Verdict) → IsVerdict text other → other ≡ verdict.WrongAt place
  wrong-only place first (verdict.Legal n) h = absurd (wrong-none base history.entries place (subst LegalOf (only h.history h.dump) h.legal) first)
  wrong-only place first (verdict.WrongAt n) h = ap verdict.WrongAt (wrong-one base history.entries n place (subst (WrongOf n) (only h.history h.dump) h.wrong) first)
  wrong-only place first (verdict.UnreadableLine n) h = absurd (no-dump text history n dump h)

-- a version of that history
pub of_legal : (text : List ℕ) (h last : Chronicle) → last ≡ h → IsDump text h → IsLegal (base_of h.base) h.entries → IsDumpOfLegal text last
of_legal text h last same dump legal = subst (IsDumpOfLegal text) (sym same) (record { dump = dump; legal = legal })

-- it is a verdict exactly where it is the one
pub exact : (text : List ℕ) (found : Verdict) → IsVerdict text found → ((other : Verdict) → IsVerdict text other → other ≡ found)
    → (other : Verdict) → (found ≡ other) ↔ IsVerdict text other
exact text found is only other = (λ same. subst (IsVerdict text) same is, λ h. sym (only other h))

-- ---- a list that grows

pub legal-more : (base : Database) (before : List Entry) (entry : Entry) → IsLegal base before → IsNext (replay base before) entry → IsLegal base (before ++ entry ∷ [])
legal-more base before entry legal next = (IsLegal-append base before (entry ∷ [])).1 (legal, (next, tt))

-- an entry that is the next one goes over to the version
pub goes_over : (base : Option Database) (all before : List Entry) (entry : Entry) (rest : List Entry) (old new : Chronicle) → all ≡ before ++ entry ∷ rest
    → old ≡ begun_with base before → IsLegal (base_of base) before
    → IsNext (now old) entry × (new ≡ extended old (entry ∷ []))
    → (x : List Entry) × (all ≡ x ++ rest) × (new ≡ begun_with base x) × IsLegal (base_of base) x
goes_over base all before entry rest old new is stands legal (next, told) = (
  before ++ entry ∷ [],
  is ∙ sym (append_assoc before (entry ∷ []) rest),
  told ∙ ap (λ (h : Chronicle). extended h (entry ∷ [])) stands,
  legal-more (base_of base) before entry legal (subst (λ (h : Chronicle). IsNext (now h) entry) stands next),
)

-- the same of each verdict of a kind
pub exact_each : {F X : Type 0} (text : List ℕ) (r : Result Verdict F) (of : X → Verdict) → IfOk r (IsVerdict text)
    → IfOk r (λ found. (other : Verdict) → IsVerdict text other → other ≡ found)
    → IfOk r (λ found. (x : X) → (found ≡ of x) ↔ IsVerdict text (of x))
exact_each text (Err fault) of is only = tt
exact_each text (Ok found) of is only = λ x. exact text found is only (of x)
