-- Lists, read part by part.
use Rattle.std.proofs.Common.{◌≡◌, ◌∙◌, ℕ, ◌+◌, ◌<◌, suc, arith, refl, sym, ap, Bool, true, false, cond, not, List, [], ◌∷◌, ◌++◌, length, take, drop, map, append_assoc, length-drop, IsUtf8, Option, Some, None, option_map, option_and_then}
use Rattle.std.specs.List.{after_first, before_first, onto_first, position_or_len, slice_split}
use Rattle.std.specs.Str.{is_utf8}
use Rattle.std.proofs.lemmas.Str.{is_utf8-from_IsUtf8, IsUtf8-from_is_utf8}
use Rattle.percent_encoding.specs.Percent.{percent_decode}
use Rattle.clap.specs.Words.{Text}
use Rattle.command_line.specs.DocIds.{id_in, id_of, text_of}
use Rattle.command_line.specs.Listed.{each_item, is_comma, items_listed, IsSplit}

-- ---- the parts of a list

-- where a byte passes, what comes before the first of them is the first part
split-some : (p : ℕ → Bool) (xs : List ℕ) → position_or_len p xs < length xs → slice_split p xs ≡ before_first p xs ∷ slice_split p (after_first p xs)
split-some p [] h = absurd (omega arith)
split-some p (x ∷ xs) h = at (split-some p xs) (p x) h
  where
    k : ℕ
    k = position_or_len p xs

    at : (k < length xs → slice_split p xs ≡ before_first p xs ∷ slice_split p (after_first p xs)) → (b : Bool) → cond (not b) (1 + k) 0 < suc (length xs)
        → cond b ([] ∷ slice_split p xs) (onto_first x (slice_split p xs)) ≡ take (cond (not b) (1 + k) 0) (x ∷ xs) ∷ slice_split p (drop (cond (not b) (1 + k) 0 + 1) (x ∷ xs))
    at later true less = refl
    at later false less =
        let one : suc k ≡ 1 + k = omega arith in
        let two : suc (k + 1) ≡ 1 + k + 1 = omega arith in
        ap (onto_first x) (later (omega arith)) ∙ (λ i. take (one i) (x ∷ xs) ∷ slice_split p (drop (two i) (x ∷ xs)))

-- where none does, there is one part
split-none : (p : ℕ → Bool) (xs : List ℕ) → position_or_len p xs ≡ length xs → slice_split p xs ≡ xs ∷ []
split-none p [] h = refl
split-none p (x ∷ xs) h = at (split-none p xs) (p x) h
  where
    k : ℕ
    k = position_or_len p xs

    at : (k ≡ length xs → slice_split p xs ≡ xs ∷ []) → (b : Bool) → cond (not b) (1 + k) 0 ≡ suc (length xs) → cond b ([] ∷ slice_split p xs) (onto_first x (slice_split p xs)) ≡ (x ∷ xs) ∷ []
    at later true whole = absurd (omega (arith, whole))
    at later false whole = ap (onto_first x) (later (omega (arith, whole)))

-- what is left is shorter
pub split-shorter : (rest part after : Text) → IsSplit rest part after → length after < length rest
split-shorter rest part after split =
    let less = split.there in
    let size = ap length split.rest_is in
    let dropped = length-drop (position_or_len is_comma rest + 1) rest in
    omega (arith, less, size, dropped)

-- ---- what the parts stand for

module _ (item : Text → Option Text) where
  -- so far these texts were listed, and the rest is left
  abbrev pub IsListedTo : Text → List Text → Text → Type 0
  IsListedTo list ids rest = items_listed item list ≡ option_map (λ more. ids ++ more) (items_listed item rest)

  pub listed-start : (list : Text) → IsListedTo list [] list
  listed-start list = at (items_listed item list)
    where
      at : (o : Option (List Text)) → o ≡ option_map (λ more. [] ++ more) o
      at None = refl
      at (Some more) = refl

  -- with what one part stands for, where those behind it stand for these
  abbrev with_first : Option (List Text) → Option Text → Option (List Text)
  with_first behind first = option_and_then (λ id. option_map (λ ids. id ∷ ids) behind) first

  first-part : (rest : Text) → position_or_len is_comma rest < length rest → items_listed item rest ≡ with_first (items_listed item (after_first is_comma rest)) (item (before_first is_comma rest))
  first-part rest less = ap (each_item item) (split-some is_comma rest less)

  last-part : (rest : Text) → position_or_len is_comma rest ≡ length rest → items_listed item rest ≡ with_first (Some []) (item rest)
  last-part rest whole = ap (each_item item) (split-none is_comma rest whole)

  first-is : (rest part after : Text) (o : Option Text) → IsSplit rest part after → item part ≡ o → items_listed item rest ≡ with_first (items_listed item after) o
  first-is rest part after o split is = first-part rest split.there ∙ (λ i. with_first (items_listed item (sym split.rest_is i)) (item (sym split.first_is i))) ∙ ap (with_first (items_listed item after)) is

  pub listed-more : (list rest part after : Text) (ids : List Text) (id : Text) → IsListedTo list ids rest → IsSplit rest part after → item part ≡ Some id
      → IsListedTo list (ids ++ id ∷ []) after
  listed-more list rest part after ids id so_far split is =
      so_far ∙ ap (option_map (λ more. ids ++ more)) (first-is rest part after (Some id) split is) ∙ at (items_listed item after)
    where
      at : (o : Option (List Text)) → option_map (λ more. ids ++ more) (option_map (λ more. id ∷ more) o) ≡ option_map (λ more. (ids ++ id ∷ []) ++ more) o
      at None = refl
      at (Some more) = ap Some (sym (append_assoc ids (id ∷ []) more))

  pub listed-stopped : (list rest part after : Text) (ids : List Text) → IsListedTo list ids rest → IsSplit rest part after → item part ≡ None → items_listed item list ≡ None
  listed-stopped list rest part after ids so_far split is = so_far ∙ ap (option_map (λ more. ids ++ more)) (first-is rest part after None split is)

  pub listed-last : (list rest : Text) (ids : List Text) (id : Text) → IsListedTo list ids rest → position_or_len is_comma rest ≡ length rest
      → item rest ≡ Some id → items_listed item list ≡ Some (ids ++ id ∷ [])
  listed-last list rest ids id so_far whole is = so_far ∙ ap (option_map (λ more. ids ++ more)) (last-part rest whole ∙ ap (with_first (Some [])) is)

  pub listed-ended : (list rest : Text) (ids : List Text) → IsListedTo list ids rest → position_or_len is_comma rest ≡ length rest
      → item rest ≡ None → items_listed item list ≡ None
  listed-ended list rest ids so_far whole is = so_far ∙ ap (option_map (λ more. ids ++ more)) (last-part rest whole ∙ ap (with_first (Some [])) is)

-- ---- the text of a part

pub text_of-utf8 : (part : Text) → IsUtf8 (percent_decode part) → text_of part ≡ Some (percent_decode part)
text_of-utf8 part text = rw (is_utf8-from_IsUtf8 _ text) refl

pub text_of-other : (part : Text) → (IsUtf8 (percent_decode part) → ⊥) → text_of part ≡ None
text_of-other part other =
    elim (is_utf8 (percent_decode part)) as (λ b. is_utf8 (percent_decode part) ≡ b → cond b (Some (percent_decode part)) None ≡ None) [
      | true ↦ λ text. absurd (other (IsUtf8-from_is_utf8 _ text))
      | false ↦ λ _. refl
    ] refl

-- the id that a part stands for, by its text
pub id-of-text : (part text : Text) (o : Option Text) → IsUtf8 (percent_decode part) → text ≡ percent_decode part → id_in text ≡ o → id_of part ≡ o
id-of-text part text o utf8 same is = ap (option_and_then id_in) (text_of-utf8 part utf8) ∙ ap id_in (sym same) ∙ is

pub no-id : (part : Text) → (IsUtf8 (percent_decode part) → ⊥) → id_of part ≡ None
no-id part other = ap (option_and_then id_in) (text_of-other part other)

-- ---- texts

pub map-push : {A : Type 0} (f : A → Text) (xs : List A) (x : A) → map f (xs ++ x ∷ []) ≡ map f xs ++ f x ∷ []
map-push f [] x = refl
map-push f (y ∷ ys) x = λ i. f y ∷ map-push f ys x i
