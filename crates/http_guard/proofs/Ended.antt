-- What a sink has taken of a response with lines when the response has ended, or was cut.
use Rattle.std.proofs.Common.{◌≡◌, ◌∙◌, ℕ, ◌+◌, ◌<◌, true, List, [], ◌++◌, length, take, drop, Option, Some, None, Result, Ok, Err, refl, ap, sym, subst, arith, length-append, length-drop, append-nil, append_assoc, take-append-drop, nat_le}
use Rattle.std.specs.Io.KnownBytes.{Appends}
use Rattle.std.proofs.lemmas.List.{append_cancel_left, take-append-le}
use Rattle.std.proofs.Math.Seq.{take-append-add, take-append_seam}
use Rattle.streams.specs.Writes.{Writes}
use Rattle.http_guard.specs.Extended.{extended}
use Rattle.http_guard.specs.Weaving.{is_in, is_line, lines_left, unwoven, woven}
use Rattle.http_guard.specs.declared.extended.Phase.{Phase}
use Rattle.http_guard.specs.declared.extended.Phase.TheVariants as phase
use Rattle.http_guard.proofs.FirstLines.{extended-after, extended-append, extended-length, extended-line, line-has}
use Rattle.http_guard.proofs.Woven.{Written, both, ended, is_known, known, left-within, not_true, within_of}

module _ (lines : List ℕ) where
  -- what a response took that began here is written, with as much of the lines as the phase says
  begun : (p : Phase) (start : List ℕ) (now : Option (List ℕ)) (text : List ℕ) → Appends (unwoven lines phase.InLine (Some start) (Some start)) (unwoven lines p (Some start) now) text
      → Written lines p start now text
  unfolding is_in woven
  begun p start now text appends =
      let first : unwoven lines phase.InLine (Some start) (Some start) ≡ Some (start ++ []) = is_known lines phase.InLine start (Some start) [] (refl, sym (append-nil start)) in
      elim (unwoven lines p (Some start) now)
      as (λ (o : Option (List ℕ)). unwoven lines p (Some start) now ≡ o → Appends (Some (start ++ [])) o text → Written lines p start now text) [
        | None ↦ λ is lacks. absurd lacks
        | Some all ↦ λ is grows.
            let found = known lines p start now all is in
            let same : start ++ found.0 ≡ start ++ text = sym found.2 ∙ grows ∙ ap (λ (xs : List ℕ). xs ++ text) (append-nil start) in
            subst (Written lines p start now) (append_cancel_left start found.0 text same) found.1
      ] refl (subst (λ (o : Option (List ℕ)). Appends o (unwoven lines p (Some start) now) text) first appends)

  -- ---- it has ended

  ended-known : {A E : Type 0} (p : Phase) (start now : List ℕ) (after : Option (List ℕ)) (r : Result A E) (text : List ℕ) → Written lines p start (Some now) text
      → Writes (Some now) after r (lines_left lines p) → Writes (Some start) after r (extended lines text)
  ended-known p start now None (Ok x) text written writes = absurd writes.0
  ended-known p start now None (Err e) text written writes = absurd writes.1.2
  ended-known p start now (Some later) (Ok x) text written writes = (
    writes.0 ∙ ap (λ (xs : List ℕ). xs ++ lines_left lines p) written.1 ∙ append_assoc start (woven lines p text) (lines_left lines p)
        ∙ ap (λ (xs : List ℕ). start ++ xs) (ended lines p text written.0),
    tt,
  )
  ended-known p start now (Some later) (Err e) text written writes =
      let n = writes.1.0 in
      let left = lines_left lines p in
      let all = ended lines p text written.0 in
      let front : take (length (woven lines p text) + n) (extended lines text) ≡ woven lines p text ++ take n left =
      ap (take (length (woven lines p text) + n)) (sym all) ∙ take-append-add (woven lines p text) left n in (
        tt,
        (
          length (woven lines p text) + n,
          omega (arith, writes.1.1, length-append (woven lines p text) left, ap length all),
          writes.1.2 ∙ ap (λ (xs : List ℕ). xs ++ take n left) written.1 ∙ append_assoc start (woven lines p text) (take n left) ∙ ap (λ (xs : List ℕ). start ++ xs) (sym front),
        ),
      )

  ended-unknown : {A E : Type 0} (p : Phase) (now after : Option (List ℕ)) (r : Result A E) (text : List ℕ) → Writes now after r (lines_left lines p) → Writes None after r (extended lines text)
  ended-unknown p now after (Ok x) text writes = (tt, tt)
  ended-unknown p now after (Err e) text writes = (tt, (writes.1.0, omega (arith, writes.1.1, left-within lines p, extended-length lines text), tt))

  ended-from : {A E : Type 0} (p : Phase) (start now after : Option (List ℕ)) (r : Result A E) (text : List ℕ) → Appends (unwoven lines phase.InLine start start) (unwoven lines p start now) text
      → Writes now after r (lines_left lines p) → Writes start after r (extended lines text)
  ended-from p None now after r text appends writes = ended-unknown p now after r text writes
  ended-from p (Some start) None after r text appends writes = absurd (begun p start None text appends)
  ended-from p (Some start) (Some now) after r text appends writes = ended-known p start now after r text (begun p start (Some now) text appends) writes

  -- the response was written whole, and then what lacked of the lines, or a beginning of that
  pub extended-ended : {A E : Type 0} (p : Phase) (start before now after : Option (List ℕ)) (r : Result A E) (text : List ℕ) → start ≡ before
      → Appends (unwoven lines phase.InLine start before) (unwoven lines p start now) text → Writes now after r (lines_left lines p) → Writes before after r (extended lines text)
  extended-ended p start before now after r text is appends writes =
      subst (λ (b : Option (List ℕ)). Writes b after r (extended lines text)) is
      (ended-from p start now after r text (subst (λ (b : Option (List ℕ)). Appends (unwoven lines phase.InLine start b) (unwoven lines p start now) text) (sym is) appends) writes)

  -- ---- it was cut

  part-of : (p : Phase) (front rest : List ℕ) → 0 < length rest → is_in lines p front ≡ true
      → (m : ℕ) × (m < length (extended lines (front ++ rest))) × (woven lines p front ≡ take m (extended lines (front ++ rest)))
  unfolding is_in woven
  part-of phase.InLine front rest some is =
      let all = extended-after lines front rest (not_true _ is) in (
        length front,
        omega (arith, some, extended-length lines (front ++ rest), length-append front rest),
        sym (ap (take (length front)) all ∙ take-append_seam front (extended lines rest)),
      )
  part-of (phase.Lines at) front rest some is =
      let line = (both (is_line front) (nat_le at (length lines)) is).0 in
      let within = within_of at (length lines) (both (is_line front) (nat_le at (length lines)) is).1 in
      let all : extended lines (front ++ rest) ≡ front ++ (lines ++ rest) =
      extended-append lines front rest (line-has front line) ∙ ap (λ (xs : List ℕ). xs ++ rest) (extended-line lines front line) ∙ append_assoc front lines rest in (
        length front + at,
        omega (arith, some, within, extended-length lines (front ++ rest), length-append front rest),
        sym (ap (take (length front + at)) all ∙ take-append-add front (lines ++ rest) at ∙ ap (λ (xs : List ℕ). front ++ xs) (take-append-le at lines rest within)),
      )
  part-of phase.Behind front rest some is =
      let all = extended-append lines front rest is in (
        length (extended lines front),
        omega (arith, some, length-append (extended lines front) rest, ap length all),
        sym (ap (take (length (extended lines front))) all ∙ take-append_seam (extended lines front) rest),
      )

  cut-known : (p : Phase) (start : List ℕ) (now : Option (List ℕ)) (text : List ℕ) (n : ℕ) → n < length text → Written lines p start now (take n text)
      → (m : ℕ) × (m < length (extended lines text)) × Appends (Some start) now (take m (extended lines text))
  cut-known p start None text n less written = absurd written
  cut-known p start (Some now) text n less written =
      let whole : take n text ++ drop n text ≡ text = take-append-drop n text in
      let part = part-of p (take n text) (drop n text) (omega (arith, less, length-drop n text)) written.0 in (
        part.0,
        subst (λ (xs : List ℕ). part.0 < length (extended lines xs)) whole part.1,
        written.1 ∙ ap (λ (xs : List ℕ). start ++ xs) (part.2 ∙ ap (λ (xs : List ℕ). take part.0 (extended lines xs)) whole),
      )

  cut-from : (p : Phase) (start now : Option (List ℕ)) (text : List ℕ) (n : ℕ) → n < length text → Appends (unwoven lines phase.InLine start start) (unwoven lines p start now) (take n text)
      → (m : ℕ) × (m < length (extended lines text)) × Appends start now (take m (extended lines text))
  cut-from p None now text n less appends = (n, omega (arith, less, extended-length lines text), tt)
  cut-from p (Some start) now text n less appends = cut-known p start now text n less (begun p start now (take n text) appends)

  -- a beginning of the response was written
  pub extended-cut : (p : Phase) (start before now : Option (List ℕ)) (text : List ℕ) → start ≡ before
      → ((n : ℕ) × (n < length text) × Appends (unwoven lines phase.InLine start before) (unwoven lines p start now) (take n text))
      → (m : ℕ) × (m < length (extended lines text)) × Appends before now (take m (extended lines text))
  extended-cut p start before now text is (n, less, appends) =
      subst (λ (b : Option (List ℕ)). (m : ℕ) × (m < length (extended lines text)) × Appends b now (take m (extended lines text))) is
      (cut-from p start now text n less (subst (λ (b : Option (List ℕ)). Appends (unwoven lines phase.InLine start b) (unwoven lines p start now) (take n text)) (sym is) appends))
