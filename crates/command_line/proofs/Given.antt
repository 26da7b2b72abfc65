-- Numbers in the arguments of `couchd serve`.
use Rattle.std.proofs.Common.{◌≡◌, refl, ℕ, ◌<◌, ◌^◌, Option, Some, None, sym, ◌∙◌, ap, subst, option_map}
use Rattle.std.specs.Prelude.{IsErrAnd, Result, Ok, Err}
use Rattle.std.specs.Str.Parse.{ParsesUnsigned}
use Rattle.clap.specs.Words.{Text, first_of, first_value, rows_of}
use Rattle.clap.specs.declared.parser.matches.Found.{Found}
use Rattle.clap.proofs.WalkLemmas.{first_value-rows}
use Rattle.command_line.specs.Numbers.{IsNumber}

module _ {A : Type 0} (f : A → Text) (found : Found) (id : Text) (o : Option A) (is : option_map f o ≡ first_value found id) where
  -- nothing was given
  pub not_given : o ≡ None → first_of id (rows_of found) ≡ None
  not_given none = sym (first_value-rows found id) ∙ sym is ∙ ap (option_map f) none

  -- this text was given
  pub was_given : (x : A) → o ≡ Some x → first_of id (rows_of found) ≡ Some (f x)
  was_given x some = sym (first_value-rows found id) ∙ sym is ∙ ap (option_map f) some

-- a text that was read is its number
pub read_number : {E : Type 0} (text : Text) (number : ℕ) (r : Result ℕ E) → ParsesUnsigned 64 10 text r → r ≡ Ok number → IsNumber text number
read_number text number (Ok n) parses ok =
    let same : n ≡ number = cc in
    (parses.0.0, sym same ∙ parses.1)
read_number text number (Err e) parses ok = cc

-- a text that was not read is no number of 64 bits
pub no_number : {E : Type 0} (text : Text) (number : ℕ) (r : Result ℕ E) → ParsesUnsigned 64 10 text r → (e : E) → r ≡ Err e → IsNumber text number → number < 2 ^ 64 → ⊥
no_number text number (Ok n) parses e err of less = cc
no_number text number (Err e') parses e err of less = parses (of.0, subst (λ (n : ℕ). n < 2 ^ 64) of.1 less)

-- two numbers of one text are one
pub one_number : (text : Text) (a b : ℕ) → IsNumber text a → IsNumber text b → a ≡ b
one_number text a b is is_too = is.1 ∙ sym is_too.1

-- two texts that were given under one name are one
pub one_text : (given : Option Text) (a b : Text) → given ≡ Some a → given ≡ Some b → a ≡ b
one_text given a b is is_too = cc

same_fault : {A E : Type 0} (r : Result A E) (x y : E) → r ≡ Err x → r ≡ Err y → x ≡ y
same_fault r x y is also = cc

-- what a call refused is what its caller refuses
pub refused_too : {A B E : Type 0} (a : Result A E) (b : Result B E) (f g : E) → a ≡ Err f → IsErrAnd b (λ h. h ≡ f) → b ≡ Err g → a ≡ Err g
refused_too a (Ok x) f g is_f passed is_g = absurd passed
refused_too a (Err h) f g is_f passed is_g = is_f ∙ ap (λ e. Err e) (sym passed ∙ same_fault (Err h) h g refl is_g)
