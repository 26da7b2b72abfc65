-- What a text of a mark is made of.
use Rattle.std.proofs.Common.{◌≡◌, ℕ, zero, suc, List, [], ◌∷◌, ◌++◌, length, take, drop, true, false, Bool, refl, sym, ap, subst, ◌∙◌, arith, rules, length-append, inl, inr, codes, Some, None}
use Rattle.std.specs.Prelude.{IsUtf8, IsAscii, nat_le, nat_lt, Result, Ok, Err, IfOk}
use Rattle.std.specs.Char.{is_ascii_digit}
use Rattle.std.specs.List.{IsSplitAt, list_all}
use Rattle.std.specs.Str.Parse.{digits_value}
use Rattle.std.proofs.lemmas.Bool.{and_parts, cases_Bool, cond-false}
use Rattle.std.proofs.lemmas.Str.{IsUtf8-from_ascii}
use Rattle.std.proofs.lemmas.List.{take-append-drop}
use Rattle.std.proofs.Math.Seq.{drop-append_seam, take-append_seam}
use Rattle.decimals.specs.Number.{is_digits, is_number, number}
use Rattle.journal.specs.Marks.{AreNumbers, IsFront, IsMark, seal_of, word_of}
use Rattle.journal.specs.declared.mark.Mark.{Mark}

-- digits are text
digits_ascii : (ds : List ℕ) → list_all is_ascii_digit ds ≡ true → IsAscii ds
digits_ascii [] all i = omega arith
digits_ascii (x ∷ xs) all zero = search (rules, and_parts (is_ascii_digit x) (list_all is_ascii_digit xs) all)
digits_ascii (x ∷ xs) all (suc i) = digits_ascii xs (and_parts (is_ascii_digit x) (list_all is_ascii_digit xs) all).1 i

-- what is no text is no number
pub no_number : (ds : List ℕ) → (IsUtf8 ds → ⊥) → None ≡ number ds
no_number ds none = elim (cases_Bool (is_number ds)) [
  | inl is ↦
      let digits = (and_parts (nat_le (length ds) 18) (is_digits ds) is).1 in
      absurd (none (IsUtf8-from_ascii ds (digits_ascii ds (and_parts (nat_lt 0 (length ds)) (list_all is_ascii_digit ds) digits).1)))
  | inr not ↦ sym (cond-false (is_number ds) (Some (digits_value 10 ds)) None not)
]

-- a front of a known length is split from what follows
pub front_of : (n : ℕ) (xs front back : List ℕ) → length front ≡ n → xs ≡ front ++ back → take n xs ≡ front
front_of n xs front back len is = ap (take n) is ∙ ap (λ k. take k (front ++ back)) (sym len) ∙ take-append_seam front back

pub back_of : (n : ℕ) (xs front back : List ℕ) → length front ≡ n → xs ≡ front ++ back → drop n xs ≡ back
back_of n xs front back len is = ap (drop n) is ∙ ap (λ k. drop k (front ++ back)) (sym len) ∙ drop-append_seam front back

-- what was split is joined again
pub joined : (n : ℕ) (xs front back : List ℕ) → front ≡ take n xs → back ≡ drop n xs → xs ≡ front ++ back
joined n xs front back is_front is_back = sym (take-append-drop n xs) ∙ ap (λ (t : List ℕ). t ++ drop n xs) (sym is_front) ∙ ap (λ (t : List ℕ). front ++ t) (sym is_back)

pub word_len : (kept : Bool) → length (word_of kept) ≡ 6
word_len true = refl
word_len false = refl

-- the numbers, the word and the id, one behind another
pub front_by : {V E : Type 0} (items : V → List ℕ) (result : Result V E) (mark : Mark) (numbers word boot : List ℕ)
    → IfOk result (λ text. items text ≡ numbers ++ (word ++ boot)) → AreNumbers numbers mark.epoch mark.synced → word ≡ word_of mark.shows_kept → boot ≡ mark.boot.text
    → length mark.boot.text ≡ 36 → IfOk result (λ text. IsFront (items text) mark)
front_by items (Err refused) mark numbers word boot is are is_word is_boot len = tt
front_by items (Ok text) mark numbers word boot is are is_word is_boot len = record {
  digits = numbers;
  numbers = are;
  boot_len = len;
  text_is = is ∙ ap (λ (w : List ℕ). numbers ++ (w ++ boot)) is_word ∙ ap (λ (b : List ℕ). numbers ++ (word_of mark.shows_kept ++ b)) is_boot;
}

-- ---- the two numbers

pub numbers_len : (text : List ℕ) (epoch synced : ℕ) → AreNumbers text epoch synced → length text ≡ 29
numbers_len text epoch synced is =
    omega (arith, ap length is.text_is, length-append is.epoch_digits (codes " " ++ is.synced_digits), is.ten, is.eighteen)

module _ (text front rest space synced : List ℕ) (one : IsSplitAt text 10 front rest) (two : IsSplitAt rest 1 space synced) where
  pub record Parts (e s : ℕ) : Type 0 where
    pub epoch_is : number front ≡ Some e
    pub synced_is : number synced ≡ Some s
    pub space_is : space ≡ codes " "
    pub synced_len : length synced ≡ 18

  pub parts_of : (e s : ℕ) → AreNumbers text e s → Parts e s
  parts_of e s is =
      let f : front ≡ is.epoch_digits = one.1 ∙ front_of 10 text is.epoch_digits (codes " " ++ is.synced_digits) is.ten is.text_is in
      let r : rest ≡ codes " " ++ is.synced_digits = one.2 ∙ back_of 10 text is.epoch_digits (codes " " ++ is.synced_digits) is.ten is.text_is in
      let sp : space ≡ codes " " = two.1 ∙ ap (take 1) r in
      let sy : synced ≡ is.synced_digits = two.2 ∙ ap (drop 1) r in
      record { epoch_is = ap number f ∙ is.epoch_is; synced_is = ap number sy ∙ is.synced_is; space_is = sp; synced_len = ap length sy ∙ is.eighteen }

  pub numbers_from : (e s : ℕ) → Parts e s → AreNumbers text e s
  numbers_from e s parts = record {
    epoch_digits = front;
    synced_digits = synced;
    ten = one.3;
    eighteen = parts.synced_len;
    epoch_is = parts.epoch_is;
    synced_is = parts.synced_is;
    text_is = joined 10 text front rest one.1 one.2
        ∙ ap (λ (t : List ℕ). front ++ t) (joined 1 rest space synced two.1 two.2 ∙ ap (λ (t : List ℕ). t ++ synced) parts.space_is);
  }

-- ---- what is in front of the digest

pub front_len : (text : List ℕ) (mark : Mark) → IsFront text mark → length text ≡ 71
front_len text mark is =
    omega (
      arith,
      ap length is.text_is,
      length-append is.digits (word_of mark.shows_kept ++ mark.boot.text),
      length-append (word_of mark.shows_kept) mark.boot.text,
      numbers_len is.digits mark.epoch mark.synced is.numbers,
      word_len mark.shows_kept,
      is.boot_len,
    )

module _ (text numbers rest word boot : List ℕ) (one : IsSplitAt text 29 numbers rest) (two : IsSplitAt rest 6 word boot) where
  pub record Front (mark : Mark) : Type 0 where
    pub numbers_are : AreNumbers numbers mark.epoch mark.synced
    pub word_is : word ≡ word_of mark.shows_kept
    pub boot_is : boot ≡ mark.boot.text
    pub boot_long : length boot ≡ 36

  pub front_parts : (mark : Mark) → IsFront text mark → Front mark
  front_parts mark is =
      let tail = word_of mark.shows_kept ++ mark.boot.text in
      let len = numbers_len is.digits mark.epoch mark.synced is.numbers in
      let n : numbers ≡ is.digits = one.1 ∙ front_of 29 text is.digits tail len is.text_is in
      let r : rest ≡ tail = one.2 ∙ back_of 29 text is.digits tail len is.text_is in
      let b : boot ≡ mark.boot.text = two.2 ∙ back_of 6 rest (word_of mark.shows_kept) mark.boot.text (word_len mark.shows_kept) r in
      record {
        numbers_are = subst (λ (t : List ℕ). AreNumbers t mark.epoch mark.synced) (sym n) is.numbers;
        word_is = two.1 ∙ front_of 6 rest (word_of mark.shows_kept) mark.boot.text (word_len mark.shows_kept) r;
        boot_is = b;
        boot_long = ap length b ∙ is.boot_len;
      }

  pub front_from : (mark : Mark) → Front mark → IsFront text mark
  front_from mark parts = record {
    digits = numbers;
    numbers = parts.numbers_are;
    boot_len = ap length (sym parts.boot_is) ∙ parts.boot_long;
    text_is = joined 29 text numbers rest one.1 one.2
        ∙ ap (λ (t : List ℕ). numbers ++ t) (joined 6 rest word boot two.1 two.2 ∙ ap (λ (t : List ℕ). t ++ boot) parts.word_is ∙ ap (λ (t : List ℕ). word_of mark.shows_kept ++ t) parts.boot_is);
  }

-- ---- the whole

module _ (text front seal : List ℕ) (split : IsSplitAt text 71 front seal) (mark : Mark) where
  pub record Sealed : Type 0 where
    pub front_is : IsFront front mark
    pub seal_is : seal ≡ seal_of front

  pub sealed_of : IsMark text mark → Sealed
  sealed_of is =
      let len = front_len is.front mark is.front_is in
      let f : front ≡ is.front = split.1 ∙ front_of 71 text is.front (seal_of is.front) len is.text_is in
      record {
        front_is = subst (λ (t : List ℕ). IsFront t mark) (sym f) is.front_is;
        seal_is = split.2 ∙ back_of 71 text is.front (seal_of is.front) len is.text_is ∙ ap seal_of (sym f);
      }

  pub mark_from : Sealed → IsMark text mark
  mark_from parts = record {
    front = front;
    front_is = parts.front_is;
    text_is = joined 71 text front seal split.1 split.2 ∙ ap (λ (t : List ℕ). front ++ t) parts.seal_is;
  }
