-- What a history records: a longer one records it too, and commands are at places from 1 to its length.
use Rattle.std.specs.Prelude.{◌≡◌, ℕ, zero, suc, ◌+◌, ◌-◌, ◌<◌, ◌≤◌, List, [], ◌∷◌, ◌++◌, length, slice_get, Some, refl}
use Rattle.std.proofs.Common.{sym, ap, subst, ◌∙◌, arith, length-append}
use Rattle.std.proofs.lemmas.Option.{none-some, slice_get_within}
use Rattle.std.proofs.lemmas.List.{take-append-le}
use Rattle.model.specs.Command.{Command, Reply, Seat, Entry}
use Rattle.model.specs.Database.{Database}
use Rattle.model.specs.History.{replay, Chronicle, base_of, Extends}
use Rattle.model.specs.Answers.{answer_to}
use Rattle.model.specs.World.{Completed, WroteAt, Asked}
use Rattle.model.specs.Told.{Tells, AllTold}

slice_get-append : (h more : List Entry) (n : ℕ) (e : Entry) → slice_get h n ≡ Some e → slice_get (h ++ more) n ≡ Some e
slice_get-append [] more n e is = absurd (none-some e is)
slice_get-append (x ∷ h) more zero e is = is
slice_get-append (x ∷ h) more (suc n) e is = slice_get-append h more n e is

pub slice_get-push : (h : List Entry) (e : Entry) → slice_get (h ++ e ∷ []) (length h) ≡ Some e
slice_get-push [] e = refl
slice_get-push (x ∷ h) e = slice_get-push h e

module _ (base : Database) where
  pub Tells-append : (h more : List Entry) (c : Completed) → Tells base h c → Tells base (h ++ more) c
  Tells-append h more (WroteAt seat command place reply) t = (t.0, slice_get-append h more (place - 1) _ t.1)
  Tells-append h more (Asked session query place answer) t = (omega (arith, length-append h more, t.0), t.1 ∙ ap (λ es. answer_to (replay base es) query) (sym (take-append-le place h more t.0)))

  pub AllTold-append : (h more : List Entry) (cs : List Completed) → AllTold base h cs → AllTold base (h ++ more) cs
  AllTold-append h more [] t = tt
  AllTold-append h more (c ∷ cs) t = (Tells-append h more c t.0, AllTold-append h more cs t.1)

  -- one more call is recorded
  pub AllTold-push : (h : List Entry) (cs : List Completed) (c : Completed) → AllTold base h cs → Tells base h c → AllTold base h (cs ++ c ∷ [])
  AllTold-push h [] c t one = (one, tt)
  AllTold-push h (d ∷ cs) c t one = (t.0, AllTold-push h cs c t.1 one)

  -- the last entry is at the last place
  pub Tells-last : (h : List Entry) (e : Entry) → Tells base (h ++ e ∷ []) (WroteAt e.seat e.command (length h + 1) e.reply)
  Tells-last h e = (omega arith, ap (slice_get (h ++ e ∷ [])) (one_less (length h)) ∙ slice_get-push h e)
    where
      one_less : (n : ℕ) → n + 1 - 1 ≡ n
      one_less n = omega arith

  pub Tells-within : (h : List Entry) (seat : Seat) (command : Command) (place : ℕ) (reply : Reply) → Tells base h (WroteAt seat command place reply) → (0 < place) × (place ≤ length h)
  Tells-within h seat command place reply t = (t.0, omega (arith, t.0, slice_get_within h (place - 1) _ t.1))

module _ (later earlier : Chronicle) (x : Extends later earlier) where
  pub Tells-extended : (c : Completed) → Tells (base_of earlier.base) earlier.entries c → Tells (base_of later.base) later.entries c
  Tells-extended c t = subst (λ b. Tells (base_of b) later.entries c) (sym x.base) (subst (λ es. Tells (base_of earlier.base) es c) (sym x.entries) (Tells-append (base_of earlier.base) earlier.entries x.more c t))

  pub AllTold-extended : (cs : List Completed) → AllTold (base_of earlier.base) earlier.entries cs → AllTold (base_of later.base) later.entries cs
  AllTold-extended [] t = tt
  AllTold-extended (c ∷ cs) t = (Tells-extended c t.0, AllTold-extended cs t.1)
