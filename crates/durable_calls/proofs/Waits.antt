-- A wait, turn by turn.
use Rattle.std.proofs.Common.{◌≡◌, ℕ, zero, suc, ◌+◌, ◌<◌, List, [], ◌∷◌, ◌++◌, length, Bool, true, false, Ok, Err, max, inl, inr, refl, ap, sym, ◌∙◌, arith, length-append}
use Rattle.std.specs.Prelude.{Result, nat_lt}
use Rattle.std.specs.List.{FoldsTo}
use Rattle.std.proofs.lemmas.Fn.{FoldsTo-push}
use Rattle.model.specs.History.{IsLegal, base_of}
use Rattle.session_api.specs.declared.fault.Unavailable.TheVariants as unavailable
use Rattle.session_api.specs.Learns.{Learns, Looks, RefusesWait}
use Rattle.session_api.specs.SessionCall.{SessionCall, Waited}
use Rattle.session_api.specs.Known.{Known, update_seq_of}
use Rattle.session_api.specs.declared.fault.CallFault.{CallFault}
use Rattle.session_api.specs.declared.fault.CallFault.TheVariants as fault
use Rattle.session_api.proofs.Histories.{looks_itself, looks_then}
use Rattle.durable_calls.specs.Kept.{WaitsInVain, WaitsKept}

-- a look stays lost, or not
same_lost : (old new : Known) → Looks old new → new.lost ≡ old.lost
same_lost old new looks = ap (λ (k : Known). k.lost) looks.extends

-- why a wait is refused is told by whether the session is lost
refused_before : (old here : Known) → here.lost ≡ old.lost → (why : CallFault) → RefusesWait here why → RefusesWait old why
refused_before old here same fault.Memory refused = refused
refused_before old here same (fault.Unavailable unavailable.Busy) refused = refused
refused_before old here same (fault.Unavailable unavailable.Lost) lost = sym same ∙ lost
refused_before old here same (fault.Unavailable unavailable.Full) kept = sym same ∙ kept
refused_before old here same (fault.Unavailable unavailable.Behind) refused = refused
refused_before old here same (fault.Unavailable unavailable.Overrun) refused = refused
refused_before old here same (fault.Unavailable unavailable.Entry) kept = sym same ∙ kept
refused_before old here same (fault.Unavailable unavailable.Journal) refused = refused

module _ {S : Type 0} (goes : S → SessionCall → S → Type 0) (known : S → Known) (seq : ℕ) where
  -- so many turns in which nothing came, and what is known then
  pub record Passed (n : ℕ) (old here : S) : Type 0 where
    pub passed : List SessionCall
    pub runs : FoldsTo (WaitsInVain goes seq) old passed here
    pub count : length passed ≡ n
    pub looks : Looks (known old) (known here)
    pub kept : 0 < n → (known old).lost ≡ false
    pub none : 0 < n → false ≡ nat_lt seq (update_seq_of (known here))

  pub no_turn : (old : S) → IsLegal (base_of (known old).base) (known old).seen → Passed 0 old old
  no_turn old legal = record {
    passed = [];
    runs = refl;
    count = refl;
    looks = looks_itself (known old) legal;
    kept = λ none. absurd (omega (arith, none));
    none = λ none. absurd (omega (arith, none));
  }

  pub one_more : (n : ℕ) (old here new : S) → Passed n old here → goes here (Waited seq 1 (Ok false)) new → Learns (known here) (Waited seq 1 (Ok false)) (known new) → Passed (n + 1) old new
  one_more n old here new p made learns = record {
    passed = p.passed ++ Waited seq 1 (Ok false) ∷ [];
    runs = FoldsTo-push (WaitsInVain goes seq) old p.passed here (Waited seq 1 (Ok false)) new p.runs (refl, made);
    count = omega (arith, p.count, length-append p.passed (Waited seq 1 (Ok false) ∷ []));
    looks = looks_then (known old) (known here) (known new) p.looks learns.0;
    kept = λ _. sym (same_lost (known old) (known here) p.looks) ∙ learns.1;
    none = λ _. learns.2;
  }

  -- where a session is lost no turn passed
  lost_stays : (n : ℕ) (old here new : S) → Passed n old here → (known old).lost ≡ true → ((known here).lost ≡ true → known new ≡ known here) → known new ≡ known old
  lost_stays zero old here new p lost stays = by_none p.passed p.runs p.count
    where
      by_none : (passed : List SessionCall) → FoldsTo (WaitsInVain goes seq) old passed here → length passed ≡ 0 → known new ≡ known old
      by_none [] runs none = stays (same_lost (known old) (known here) p.looks ∙ lost) ∙ ap known (sym runs)
      by_none (d ∷ ds) runs some = absurd (omega (arith, some))
  lost_stays (suc n) old here new p lost stays = let not : (known old).lost ≡ false = p.kept (omega arith) in absurd (cc (lost, not))

  -- what is known after the last turn
  pub last_learns : (n turns : ℕ) (old here new : S) (answer : Result Bool CallFault) → Passed n old here → Learns (known here) (Waited seq 1 answer) (known new)
      → Learns (known old) (Waited seq turns answer) (known new)
  last_learns n turns old here new (Ok past) p learns =
      (looks_then (known old) (known here) (known new) p.looks learns.0, sym (same_lost (known old) (known here) p.looks) ∙ learns.1, learns.2)
  last_learns n turns old here new (Err why) p learns = (
    looks_then (known old) (known here) (known new) p.looks learns.0,
    (λ lost. lost_stays n old here new p lost learns.1),
    refused_before (known old) (known here) (same_lost (known old) (known here) p.looks) why learns.2,
  )

  -- the last turn has another answer
  pub last_turn : (n turns : ℕ) (old here new : S) (answer : Result Bool CallFault) → n < max turns 1 → Passed n old here → goes here (Waited seq 1 answer) new → (answer ≡ Ok false → ⊥)
      → WaitsKept goes seq turns old answer new
  last_turn n turns old here new answer less p made other =
      record { passed = p.passed; here = here; runs = p.runs; ends = inr (inr (omega (arith, less, p.count), made, other)) }

  -- there were enough turns
  pub in_vain : (turns : ℕ) (old here : S) → Passed (max turns 1) old here → WaitsKept goes seq turns old (Ok false) here × Learns (known old) (Waited seq turns (Ok false)) (known here)
  in_vain turns old here p =
      let some : 0 < max turns 1 = omega arith in (
        record { passed = p.passed; here = here; runs = p.runs; ends = inl (p.count, refl, refl) },
        (p.looks, p.kept some, p.none some),
      )

  -- the epoch ends
  pub at_end : (n turns : ℕ) (old here : S) → 0 < n → Passed n old here
      → WaitsKept goes seq turns old (Err (fault.Unavailable unavailable.Full)) here × Learns (known old) (Waited seq turns (Err (fault.Unavailable unavailable.Full))) (known here)
  at_end n turns old here some p =
      let kept = p.kept some in (
        record { passed = p.passed; here = here; runs = p.runs; ends = inr (inl (omega (arith, some, p.count), refl, refl)) },
        (p.looks, (λ lost. absurd (cc (lost, kept))), kept),
      )
