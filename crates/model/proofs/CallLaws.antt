-- Calls: an entry adds one of its session and no other, so a legal history numbers each session's calls one by one.
use Rattle.std.specs.Prelude.{◌≡◌, ℕ, zero, suc, ◌+◌, ◌<◌, ◌≤◌, true, false, List, [], ◌∷◌, length, slice_get, Some, refl}
use Rattle.std.specs.List.{range_with_len}
use Rattle.std.proofs.Common.{◌⊎◌, inl, inr, sym, ap, subst, ◌∙◌, arith}
use Rattle.std.proofs.lemmas.Option.{none-some, same_Some}
use Rattle.std.proofs.lemmas.Bool.{cond-true, cond-false, cases_order}
use Rattle.model.specs.Map.{same_key, same_key_itself, same_key-equal}
use Rattle.model.specs.Command.{numbers, Command, Seat, Entry}
use Rattle.model.specs.Database.{Database, act, calls_of}
use Rattle.model.specs.History.{replay, IsLegal, of_session, calls_in}
use Rattle.model.proofs.ListLaws.{by_cases}
use Rattle.model.proofs.RestLaws.{calls_of-act}

-- ---- an entry of the session, and one of another

pub calls-own : (d : Database) (seat : Seat) (c : Command) (s : ℕ) → same_key numbers s seat.session ≡ true → calls_of (act d seat c) s ≡ calls_of d s + 1
calls-own d seat c s t = calls_of-act d seat c s ∙ cond-true _ _ _ t

pub calls-other : (d : Database) (seat : Seat) (c : Command) (s : ℕ) → same_key numbers s seat.session ≡ false → calls_of (act d seat c) s ≡ calls_of d s
calls-other d seat c s f = calls_of-act d seat c s ∙ cond-false _ _ _ f

of_session-own : (e : Entry) (es : List Entry) (s : ℕ) → same_key numbers s e.seat.session ≡ true → of_session s (e ∷ es) ≡ e ∷ of_session s es
of_session-own e es s t = cond-true _ _ _ t

of_session-other : (e : Entry) (es : List Entry) (s : ℕ) → same_key numbers s e.seat.session ≡ false → of_session s (e ∷ es) ≡ of_session s es
of_session-other e es s f = cond-false _ _ _ f

-- ---- many entries

pub calls-replay : (base : Database) (es : List Entry) (s : ℕ) → calls_of (replay base es) s ≡ calls_of base s + length (of_session s es)
calls-replay base [] s = omega arith
calls-replay base (e ∷ es) s =
    let rest = calls-replay (act base e.seat e.command) es s in
    by_cases (same_key numbers s e.seat.session)
    (λ t. omega (arith, rest, calls-own base e.seat e.command s t, ap length (of_session-own e es s t)))
    (λ f. omega (arith, rest, calls-other base e.seat e.command s f, ap length (of_session-other e es s f)))

abbrev AreNumberedFrom : ℕ → List Entry → Type 0
AreNumberedFrom n es = calls_in es ≡ range_with_len n (length es)

pub calls-numbered : (base : Database) (es : List Entry) (s : ℕ) → IsLegal base es → AreNumberedFrom (calls_of base s + 1) (of_session s es)
calls-numbered base [] s h = refl
calls-numbered base (e ∷ es) s h =
    let n = calls_of base s + 1 in
    let rest = calls-numbered (act base e.seat e.command) es s h.1 in
    by_cases (same_key numbers s e.seat.session)
    (λ t.
    let first : e.seat.call ≡ n = h.0.seat ∙ ap (λ q. calls_of base q + 1) (sym (same_key-equal numbers s e.seat.session t)) in
    let others = subst (λ k. AreNumberedFrom (k + 1) (of_session s es)) (calls-own base e.seat e.command s t) rest in
    subst (AreNumberedFrom n) (sym (of_session-own e es s t)) (λ i. first i ∷ others i))
    (λ f. subst (AreNumberedFrom n) (sym (of_session-other e es s f)) (subst (λ k. AreNumberedFrom (k + 1) (of_session s es)) (calls-other base e.seat e.command s f) rest))

-- ---- no call twice

-- a count never falls
counted_before : (base : Database) (e : Entry) (s : ℕ) → calls_of base s ≤ calls_of (act base e.seat e.command) s
counted_before base e s = by_cases (same_key numbers s e.seat.session) (λ t. omega (arith, calls-own base e.seat e.command s t)) (λ f. omega (arith, calls-other base e.seat e.command s f))

later_call : (base : Database) (es : List Entry) (n : ℕ) (e : Entry) → IsLegal base es → slice_get es n ≡ Some e → calls_of base e.seat.session < e.seat.call
later_call base [] n e h is = absurd (none-some e is)
later_call base (f ∷ es) zero e h is = subst (λ x. calls_of base x.seat.session < x.seat.call) (same_Some f e is) (omega (arith, h.0.seat))
later_call base (f ∷ es) (suc n) e h is = omega (arith, later_call (act base f.seat f.command) es n e h.1 is, counted_before base f e.seat.session)

-- a later entry has another seat
later_seat : (base : Database) (es : List Entry) (m n : ℕ) (e f : Entry) → IsLegal base es → m < n → slice_get es m ≡ Some e → slice_get es n ≡ Some f → e.seat ≡ f.seat → ⊥
later_seat base [] m n e f h less at_m at_n same = none-some e at_m
later_seat base (g ∷ es) m zero e f h less at_m at_n same = absurd (omega arith)
later_seat base (g ∷ es) (suc m) (suc n) e f h less at_m at_n same = later_seat (act base g.seat g.command) es m n e f h.1 (omega arith) at_m at_n same
later_seat base (g ∷ es) zero (suc n) e f h less at_m at_n same =
    let seat : f.seat ≡ g.seat = sym (ap (λ x. x.seat) (same_Some g e at_m) ∙ same) in
    let own : same_key numbers f.seat.session g.seat.session ≡ true = ap (λ x. same_key numbers f.seat.session x.session) (sym seat) ∙ same_key_itself numbers f.seat.session in
    let later = later_call (act base g.seat g.command) es n f h.1 at_n in
    omega (arith, calls-own base g.seat g.command f.seat.session own, h.0.seat, ap (λ x. x.call) seat, ap (λ x. calls_of base x.session) seat)

pub each_seat_once : (base : Database) (es : List Entry) (m n : ℕ) (e f : Entry) → IsLegal base es → slice_get es m ≡ Some e → slice_get es n ≡ Some f → e.seat ≡ f.seat → m ≡ n
each_seat_once base es m n e f h at_m at_n same = from (cases_order m n)
  where
    from : (m ≡ n) ⊎ ((m < n) ⊎ (n < m)) → m ≡ n
    from (inl is) = is
    from (inr (inl less)) = absurd (later_seat base es m n e f h less at_m at_n same)
    from (inr (inr less)) = absurd (later_seat base es n m f e h less at_n at_m (sym same))
