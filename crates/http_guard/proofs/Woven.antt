-- What a sink has taken of a response with lines, as more of it is written.
use Rattle.std.proofs.Common.{◌≡◌, ◌∙◌, ℕ, ◌+◌, ◌-◌, ◌<◌, ◌≤◌, Bool, true, false, cond, not, ◌&&◌, List, [], ◌++◌, length, take, drop, Option, Some, None, Result, Ok, Err, suc, get_or, slice_index, ◌≢◌, eq-eqb, ne_eqb, subst₂, refl, ap, sym, subst, arith, length-append, length-take-le, length-drop, take-add, append-nil, append_assoc, take-append-drop, nat_le, OnOk, OnErr}
use Rattle.std.specs.Str.{bytes_eq}
use Rattle.std.specs.Io.KnownBytes.{Appends, Keeps, WriteAppends}
use Rattle.std.proofs.KnownBytes.{Appends-trans, Keeps-trans}
use Rattle.std.proofs.lemmas.Bool.Decides.{nat_tests}
use Rattle.std.proofs.lemmas.Slice.Eq.{bytes_eq-Decides}
use Rattle.std.proofs.Math.Seq.{drop-append_seam, take-append_seam}
use Rattle.streams.specs.Writes.{Writes}
use Rattle.http_guard.specs.Extended.{extended, is_line_feed}
use Rattle.http_guard.specs.Weaving.{first_line, has_line, is_in, is_line, known_text, lines_left, unwoven, without, woven}
use Rattle.http_guard.specs.declared.extended.Phase.{Phase}
use Rattle.http_guard.specs.declared.extended.Phase.TheVariants as phase
use Rattle.http_guard.proofs.FirstLines.{extended-append, extended-line, extended-none, first_line-front, has_line-append, is_line-append, line-has, no_line-append, part-ends, part-goes_on, shortened-extended}

some_is : {A : Type 0} (x y : A) → Some x ≡ Some y → x ≡ y
some_is x y same = cc

none_is : {A : Type 0} (x : A) → None ≡ Some x → ⊥
none_is x same = cc

pub not_true : (b : Bool) → not b ≡ true → b ≡ false
not_true true is = absurd (cc)
not_true false is = refl

pub both : (a b : Bool) → (a && b) ≡ true → (a ≡ true) × (b ≡ true)
both true b is = (refl, is)
both false b is = absurd (cc)

of_both : (a b : Bool) → a ≡ true → b ≡ true → (a && b) ≡ true
of_both a b is also = rw is also

same_bytes : (xs ys : List ℕ) → bytes_eq xs ys ≡ true → xs ≡ ys
same_bytes xs ys is = (bytes_eq-Decides xs ys).0 is

pub within_of : (n m : ℕ) → nat_le n m ≡ true → n ≤ m
within_of n m is = grind (arith, nat_tests)

is_within : (n m : ℕ) → n ≤ m → nat_le n m ≡ true
is_within n m le = grind (arith, nat_tests)

are_same : (xs : List ℕ) → bytes_eq xs xs ≡ true
are_same xs = (bytes_eq-Decides xs xs).1 refl

nothing-more : (a b : Option (List ℕ)) → Appends a b [] → Keeps a b
nothing-more None b same = tt
nothing-more (Some xs) None same = absurd same
nothing-more (Some xs) (Some ys) same = same ∙ append-nil xs

writes-then : {E : Type 0} (a b c : Option (List ℕ)) (r : Result ℕ E) (buf : List ℕ) → Appends a b [] → WriteAppends b c r buf → WriteAppends a c r buf
writes-then a b c (Ok n) buf same grows = Appends-trans a b c [] (take n buf) same grows
writes-then a b c (Err e) buf same kept = Keeps-trans a b c (nothing-more a b same) kept

module _ (lines : List ℕ) where
  -- what is written of a text gives the text
  without-woven : (p : Phase) (text : List ℕ) → is_in lines p text ≡ true → without lines p (woven lines p text) ≡ text
  unfolding without woven is_in
  without-woven phase.InLine text is = refl
  without-woven (phase.Lines at) text is =
      let within = within_of at (length lines) (both (is_line text) (nat_le at (length lines)) is).1 in
      let size : length (text ++ take at lines) - at ≡ length text = omega (arith, length-append text (take at lines), length-take-le at lines within) in
      ap (λ (n : ℕ). take n (text ++ take at lines)) size ∙ take-append_seam text (take at lines)
  without-woven phase.Behind text is = shortened-extended lines text is

  -- what is known is a text that is written
  abbrev pub Written : Phase → List ℕ → Option (List ℕ) → List ℕ → Type 0
  Written p start None text = ⊥
  Written p start (Some now) text = (is_in lines p text ≡ true) × (now ≡ start ++ woven lines p text)

  pub is_known : (p : Phase) (start : List ℕ) (taken : Option (List ℕ)) (text : List ℕ) → Written p start taken text → unwoven lines p (Some start) taken ≡ Some (start ++ text)
  unfolding unwoven
  is_known p start None text is = absurd is
  is_known p start (Some now) text is =
      let rest : drop (length start) now ≡ woven lines p text = ap (drop (length start)) is.1 ∙ drop-append_seam start (woven lines p text) in
      let same : without lines p (drop (length start) now) ≡ text = ap (without lines p) rest ∙ without-woven p text is.0 in
      let test : (is_in lines p text && bytes_eq now (start ++ woven lines p text)) ≡ true =
      of_both _ _ is.0 (subst (λ (xs : List ℕ). bytes_eq now xs ≡ true) is.1 (are_same now)) in
      ap (known_text lines p start now) same ∙ ap (λ (b : Bool). cond b (Some (start ++ text)) None) test

  pub known : (p : Phase) (start : List ℕ) (taken : Option (List ℕ)) (all : List ℕ) → unwoven lines p (Some start) taken ≡ Some all
      → (text : List ℕ) × Written p start taken text × (all ≡ start ++ text)
  unfolding unwoven
  known p start None all is = absurd (none_is all is)
  known p start (Some now) all is =
      let text = without lines p (drop (length start) now) in
      let test = is_in lines p text && bytes_eq now (start ++ woven lines p text) in
      elim test
      as (λ (b : Bool). test ≡ b → cond b (Some (start ++ text)) None ≡ Some all → (text : List ℕ) × Written p start (Some now) text × (all ≡ start ++ text)) [
        | true ↦ λ yes given. let parts = both _ _ yes in (text, (parts.0, same_bytes _ _ parts.1), sym (some_is _ _ given))
        | false ↦ λ lacks given. absurd (none_is all given)
      ] refl is

  -- ---- a step

  -- where each text goes on by these bytes as what is written of it does by those
  abbrev pub Steps : Phase → Phase → List ℕ → List ℕ → Type 0
  Steps p q more chunk = (text : List ℕ) → is_in lines p text ≡ true → (is_in lines q (text ++ more) ≡ true) × (woven lines q (text ++ more) ≡ woven lines p text ++ chunk)

  goes : (p q : Phase) (start now later all more chunk : List ℕ) → Steps p q more chunk → later ≡ now ++ chunk → unwoven lines p (Some start) (Some now) ≡ Some all
      → unwoven lines q (Some start) (Some later) ≡ Some (all ++ more)
  goes p q start now later all more chunk steps grows is =
      let (text, written, all_is) = known p start (Some now) all is in
      let step = steps text written.0 in
      let later_is : later ≡ start ++ woven lines q (text ++ more) =
      grows ∙ ap (λ (xs : List ℕ). xs ++ chunk) written.1 ∙ append_assoc start (woven lines p text) chunk ∙ ap (λ (xs : List ℕ). start ++ xs) (sym step.1) in
      is_known q start (Some later) (text ++ more) (step.0, later_is) ∙ ap Some (sym (append_assoc start text more) ∙ ap (λ (xs : List ℕ). xs ++ more) (sym all_is))

  pub known-appends : (p q : Phase) (start taken after : Option (List ℕ)) (more chunk : List ℕ) → Steps p q more chunk → Appends taken after chunk
      → Appends (unwoven lines p start taken) (unwoven lines q start after) more
  unfolding unwoven
  known-appends p q None taken after more chunk steps grows = tt
  known-appends p q (Some start) None after more chunk steps grows = tt
  known-appends p q (Some start) (Some now) None more chunk steps grows = absurd grows
  known-appends p q (Some start) (Some now) (Some later) more chunk steps grows =
      elim (unwoven lines p (Some start) (Some now))
      as (λ (o : Option (List ℕ)). unwoven lines p (Some start) (Some now) ≡ o → Appends o (unwoven lines q (Some start) (Some later)) more) [
        | None ↦ λ is. tt
        | Some all ↦ λ is. subst (λ (o : Option (List ℕ)). Appends (Some all) o more) (sym (goes p q start now later all more chunk steps grows is)) refl
      ] refl

  pub known-keeps : (p : Phase) (start taken after : Option (List ℕ)) → Keeps taken after → Keeps (unwoven lines p start taken) (unwoven lines p start after)
  unfolding unwoven
  known-keeps p None taken after kept = tt
  known-keeps p (Some start) None after kept = tt
  known-keeps p (Some start) (Some now) None kept = absurd kept
  known-keeps p (Some start) (Some now) (Some later) kept =
      subst (λ (xs : List ℕ). Keeps (unwoven lines p (Some start) (Some now)) (unwoven lines p (Some start) (Some xs))) (sym kept) (keeps-same (unwoven lines p (Some start) (Some now)))
    where
      keeps-same : (o : Option (List ℕ)) → Keeps o o
      keeps-same None = tt
      keeps-same (Some xs) = refl

  -- ---- each step

  pub step-in_line : (more : List ℕ) → has_line more ≡ false → Steps phase.InLine phase.InLine more more
  unfolding is_in woven
  step-in_line more lacks text is = (ap not (no_line-append text more (not_true _ is) lacks), refl)

  pub step-line : (more : List ℕ) → is_line more ≡ true → Steps phase.InLine (phase.Lines 0) more more
  unfolding is_in woven
  step-line more line text is = (of_both _ _ (is_line-append text more (not_true _ is) line) (is_within 0 (length lines) (omega arith)), append-nil (text ++ more))

  pub step-behind : (more : List ℕ) → Steps phase.Behind phase.Behind more more
  unfolding is_in woven
  step-behind more text is = (has_line-append text more is, extended-append lines text more is)

  -- the lines are there
  pub step-lines : (at : ℕ) → Steps (phase.Lines at) phase.Behind [] (drop at lines)
  unfolding is_in woven
  step-lines at text is =
      let line = (both (is_line text) (nat_le at (length lines)) is).0 in (
        subst (λ (xs : List ℕ). has_line xs ≡ true) (sym (append-nil text)) (line-has text line),
        ap (extended lines) (append-nil text) ∙ extended-line lines text line ∙ ap (λ (xs : List ℕ). text ++ xs) (sym (take-append-drop at lines)) ∙ sym (append_assoc text (take at lines) (drop at lines)),
      )

  -- so many more bytes of them are
  pub step-part : (at n : ℕ) → n < length (drop at lines) → Steps (phase.Lines at) (phase.Lines (at + n)) [] (take n (drop at lines))
  unfolding is_in woven
  step-part at n less text is =
      let line = (both (is_line text) (nat_le at (length lines)) is).0 in
      let within : at + n ≤ length lines = omega (arith, less, length-drop at lines) in (
        of_both _ _ (subst (λ (xs : List ℕ). is_line xs ≡ true) (sym (append-nil text)) line) (is_within (at + n) (length lines) within),
        ap (λ (xs : List ℕ). xs ++ take (at + n) lines) (append-nil text) ∙ ap (λ (xs : List ℕ). text ++ xs) (take-add at n lines) ∙ sym (append_assoc text (take at lines) (take n (drop at lines))),
      )

  -- ---- writes

  -- a write behind the lines
  pub writes-behind : {E : Type 0} (p : Phase) (start taken after : Option (List ℕ)) (r : Result ℕ E) (buf : List ℕ) → p ≡ phase.Behind → WriteAppends taken after r buf
      → WriteAppends (unwoven lines p start taken) (unwoven lines p start after) r buf
  writes-behind p start taken after (Ok n) buf is grows =
      known-appends p p start taken after (take n buf) (take n buf) (subst (λ (q : Phase). Steps q q (take n buf) (take n buf)) (sym is) (step-behind (take n buf))) grows
  writes-behind p start taken after (Err e) buf is kept = known-keeps p start taken after kept

  -- a write of a first line, of which the end was taken
  pub writes-line : (p : Phase) (start taken after : Option (List ℕ)) (buf line : List ℕ) (n : ℕ) → p ≡ phase.InLine → line ≡ first_line buf → 0 < n → n ≤ length line
      → slice_index line (n - 1) ≡ 10 → Appends taken after (take n line) → Appends (unwoven lines p start taken) (unwoven lines (phase.Lines 0) start after) (take n buf)
  writes-line p start taken after buf line n is line_is some within ends grows =
      let one : suc (n - 1) ≡ n = omega (arith, some) in
      let inside : n ≤ length (first_line buf) = subst (λ (xs : List ℕ). n ≤ length xs) line_is within in
      let front : take n line ≡ take n buf = ap (take n) line_is ∙ first_line-front buf n inside in
      let feed : is_line_feed (get_or (first_line buf) (n - 1) 0) ≡ true =
      subst (λ (xs : List ℕ). is_line_feed (get_or xs (n - 1) 0) ≡ true) line_is (eq-eqb _ _ ends) in
      let ended : is_line (take n buf) ≡ true =
      subst (λ (xs : List ℕ). is_line xs ≡ true) (ap (λ (k : ℕ). take k (first_line buf)) one ∙ first_line-front buf n inside) (part-ends buf (n - 1) 0 (omega (arith, inside, some)) feed) in
      known-appends p (phase.Lines 0) start taken after (take n buf) (take n buf) (subst (λ (q : Phase). Steps q (phase.Lines 0) (take n buf) (take n buf)) (sym is) (step-line (take n buf) ended))
      (subst (Appends taken after) front grows)

  -- or not
  pub writes-in_line : (p : Phase) (start taken after : Option (List ℕ)) (buf line : List ℕ) (n : ℕ) → p ≡ phase.InLine → line ≡ first_line buf → 0 < n → n ≤ length line
      → slice_index line (n - 1) ≢ 10 → Appends taken after (take n line) → Appends (unwoven lines p start taken) (unwoven lines p start after) (take n buf)
  writes-in_line p start taken after buf line n is line_is some within goes_on grows =
      let one : suc (n - 1) ≡ n = omega (arith, some) in
      let inside : n ≤ length (first_line buf) = subst (λ (xs : List ℕ). n ≤ length xs) line_is within in
      let front : take n line ≡ take n buf = ap (take n) line_is ∙ first_line-front buf n inside in
      let other : is_line_feed (get_or (first_line buf) (n - 1) 0) ≡ false =
      subst (λ (xs : List ℕ). is_line_feed (get_or xs (n - 1) 0) ≡ false) line_is (ne_eqb _ _ goes_on) in
      let goes : has_line (take n buf) ≡ false =
      subst (λ (xs : List ℕ). has_line xs ≡ false) (ap (λ (k : ℕ). take k (first_line buf)) one ∙ first_line-front buf n inside) (part-goes_on buf (n - 1) 0 (omega (arith, inside, some)) other) in
      known-appends p p start taken after (take n buf) (take n buf) (subst (λ (q : Phase). Steps q q (take n buf) (take n buf)) (sym is) (step-in_line (take n buf) goes))
      (subst (Appends taken after) front grows)

  -- the lines were written first
  pub writes-after : {E : Type 0} (at : ℕ) (p q : Phase) (start taken mid final : Option (List ℕ)) (r : Result ℕ E) (buf : List ℕ) → p ≡ phase.Lines at → q ≡ phase.Behind
      → Appends taken mid (drop at lines) → WriteAppends (unwoven lines q start mid) final r buf → WriteAppends (unwoven lines p start taken) final r buf
  writes-after at p q start taken mid final r buf is behind grows writes =
      let same = known-appends p q start taken mid [] (drop at lines) (subst₂ (λ (x y : Phase). Steps x y [] (drop at lines)) (sym is) (sym behind) (step-lines at)) grows in
      writes-then _ _ _ r buf same writes

  -- or a part of them, and then a write failed
  pub keeps-after : (at n : ℕ) (p q : Phase) (start taken after : Option (List ℕ)) → p ≡ phase.Lines at → q ≡ phase.Lines (at + n) → n < length (drop at lines)
      → Appends taken after (take n (drop at lines)) → Keeps (unwoven lines p start taken) (unwoven lines q start after)
  keeps-after at n p q start taken after is part less grows =
      nothing-more _ _
      (known-appends p q start taken after [] (take n (drop at lines)) (subst₂ (λ (x y : Phase). Steps x y [] (take n (drop at lines))) (sym is) (sym part) (step-part at n less)) grows)

  -- ---- the end of a response

  -- what is written when it has ended is the text with the lines
  pub ended : (p : Phase) (text : List ℕ) → is_in lines p text ≡ true → woven lines p text ++ lines_left lines p ≡ extended lines text
  unfolding is_in woven
  ended phase.InLine text is = sym (extended-none lines text (not_true _ is))
  ended (phase.Lines at) text is =
      let line = (both (is_line text) (nat_le at (length lines)) is).0 in
      append_assoc text (take at lines) (drop at lines) ∙ ap (λ (xs : List ℕ). text ++ xs) (take-append-drop at lines) ∙ sym (extended-line lines text line)
  ended phase.Behind text is = append-nil (extended lines text)

  pub left-within : (p : Phase) → length (lines_left lines p) ≤ length lines
  left-within phase.InLine = omega arith
  left-within (phase.Lines at) = omega (arith, length-drop at lines)
  left-within phase.Behind = omega arith

  -- what lacked of the lines was written, or a beginning of that
  pub writes-rest : {A E : Type 0} (p old new : Phase) (at : ℕ) (before after : Option (List ℕ)) (r : Result A E) → lines_left lines p ≡ drop at lines
      → OnOk r (Appends before after (drop at lines) × (new ≡ phase.Behind))
      → OnErr r ((n : ℕ) × (n < length (drop at lines)) × Appends before after (take n (drop at lines)) × (old ≡ phase.Lines at → new ≡ phase.Lines (at + n)))
      → Writes before after r (lines_left lines p)
  writes-rest p old new at before after (Ok x) left written cut = (subst (Appends before after) (sym left) written.0, tt)
  writes-rest p old new at before after (Err e) left written cut =
      (tt, (cut.0, subst (λ (xs : List ℕ). cut.0 < length xs) (sym left) cut.1, subst (λ (xs : List ℕ). Appends before after (take cut.0 xs)) (sym left) cut.2))
