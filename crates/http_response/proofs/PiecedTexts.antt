-- A text that is written in pieces.
use Rattle.std.proofs.Common.{◌≡◌, ℕ, ◌+◌, ◌<◌, Bool, true, false, true≢false, List, [], ◌∷◌, ◌++◌, length, map, take, drop, Option, Result, Ok, Err, append_assoc, length-append, refl, sym, ap, subst, ◌∙◌, arith}
use Rattle.std.specs.Io.KnownBytes.{Appends}
use Rattle.std.specs.Prelude.{OnOk}
use Rattle.std.specs.Result.{IsErr}
use Rattle.std.proofs.KnownBytes.{Appends-trans}
use Rattle.std.proofs.lemmas.List.{map-append, take-append-drop}
use Rattle.std.proofs.Math.Seq.{take-append-add, take-append_seam}
use Rattle.serde_json.specs.Data.{Data, array}
use Rattle.serde_json.specs.View.{items_of}
use Rattle.serde_json.specs.Written.{comma_if, compact_text}
use Rattle.streams.specs.Writes.{Writes}
use Rattle.api_json.specs.List.{items_so_far, stands_after}
use Rattle.api_json.proofs.ListTexts.{items_so_far-closed, items_so_far-push, stands_after-true}
use Rattle.http_response.specs.Pieces.{Keeps}

-- ---- what is kept

pub keeps_rest : (a b : Option (List ℕ)) (text : List ℕ) (n : ℕ) → Appends a b (take n text) → Keeps a b (drop n text) text
keeps_rest a b text n takes = record { sent = take n text; takes = takes; is = take-append-drop n text }

-- more of what is kept is taken
pub keeps_less : (a b c : Option (List ℕ)) (kept rest text : List ℕ) → Keeps a b kept text → Keeps b c rest kept → Keeps a c rest text
keeps_less a b c kept rest text first second = record {
  sent = first.sent ++ second.sent;
  takes = Appends-trans a b c first.sent second.sent first.takes second.takes;
  is = append_assoc first.sent second.sent rest ∙ ap (λ t. first.sent ++ t) second.is ∙ first.is;
}

-- more is put behind what is kept
keeps_more : (a b : Option (List ℕ)) (kept more text : List ℕ) → Keeps a b kept text → Keeps a b (kept ++ more) (text ++ more)
keeps_more a b kept more text keeps = record {
  sent = keeps.sent;
  takes = keeps.takes;
  is = sym (append_assoc keeps.sent kept more) ∙ ap (λ t. t ++ more) keeps.is;
}

-- some of the text is still to come, so what was taken is not all of it
keeps_part : (a b : Option (List ℕ)) (kept text behind whole : List ℕ) → Keeps a b kept text → text ++ behind ≡ whole → 0 < length behind
    → (n : ℕ) × (n < length whole) × Appends a b (take n whole)
keeps_part a b kept text behind whole keeps is some =
    let same : keeps.sent ++ (kept ++ behind) ≡ whole = sym (append_assoc keeps.sent kept behind) ∙ ap (λ t. t ++ behind) keeps.is ∙ is in
    let size = ap length same in
    let all = length-append keeps.sent (kept ++ behind) in
    let last = length-append kept behind in (
      length keeps.sent,
      omega (arith, size, all, last, some),
      subst (Appends a b) (sym (ap (take (length keeps.sent)) (sym same) ∙ take-append_seam keeps.sent (kept ++ behind))) keeps.takes,
    )

-- ---- lists

items_so_far-append : (later : Bool) (before after : List Data) → items_so_far later (before ++ after) ≡ items_so_far later before ++ items_so_far (stands_after later before) after
items_so_far-append later [] after = refl
items_so_far-append later (d ∷ before) after =
    ap (λ t. comma_if later ++ (compact_text d ++ t)) (items_so_far-append true before after ∙ ap (λ l. items_so_far true before ++ items_so_far l after) (stands_after-true before))
    ∙ regroup (comma_if later) (compact_text d) (items_so_far true before) (items_so_far true after)
  where
    regroup : (a b c d : List ℕ) → a ++ (b ++ (c ++ d)) ≡ (a ++ (b ++ c)) ++ d
    regroup a b c d = simp append_assoc refl

-- the head, the bracket and the items so far
abbrev pub list_so_far : List ℕ → List Data → List ℕ
list_so_far head items = head ++ (91 ∷ items_so_far false items)

-- the head, the list and what comes after it
abbrev pub whole_list : List ℕ → List ℕ → List Data → List ℕ
whole_list head after items = head ++ (compact_text (array (items_of items)) ++ after)

-- the other items and the closing bracket
abbrev others : List Data → List Data → List ℕ
others before more = items_so_far (stands_after false before) more ++ 93 ∷ []

list-parts : (head : List ℕ) (before more : List Data) → list_so_far head before ++ others before more ≡ head ++ compact_text (array (items_of (before ++ more)))
list-parts head before more =
    append_assoc head (91 ∷ items_so_far false before) (others before more)
    ∙ ap (λ t. head ++ (91 ∷ t)) (
    sym (append_assoc (items_so_far false before) (items_so_far (stands_after false before) more) (93 ∷ []))
    ∙ ap (λ t. t ++ 93 ∷ []) (sym (items_so_far-append false before more))
    ∙ items_so_far-closed false (before ++ more)
    )

whole-parts : (head after : List ℕ) (before more : List Data) → list_so_far head before ++ (others before more ++ after) ≡ whole_list head after (before ++ more)
whole-parts head after before more =
    sym (append_assoc (list_so_far head before) (others before more) after)
    ∙ ap (λ t. t ++ after) (list-parts head before more)
    ∙ append_assoc head (compact_text (array (items_of (before ++ more)))) after

some_others : (after : List ℕ) (before more : List Data) → 0 < length (others before more ++ after)
some_others after before more =
    let whole = length-append (others before more) after in
    let size = length-append (items_so_far (stands_after false before) more) (93 ∷ []) in
    omega (arith, whole, size)

pub map-parts : {X : Type 0} (of : X → Data) (n : ℕ) (xs : List X) → map of (take n xs) ++ map of (drop n xs) ≡ map of xs
map-parts of n xs = sym (map-append of (take n xs) (drop n xs)) ∙ ap (map of) (take-append-drop n xs)

-- nothing is said of a success where there is none
pub none_on_err : (P : Type 0) {A E : Type 0} (r : Result A E) → IsErr r → OnOk r P
none_on_err P (Ok x) is = absurd (true≢false (sym is))
none_on_err P (Err e) is = tt

-- a list of which some items were put is cut
pub cut_list : {A E : Type 0} (a b : Option (List ℕ)) (head after kept : List ℕ) (before more all : List Data) (r : Result A E) → IsErr r → before ++ more ≡ all
    → Keeps a b kept (list_so_far head before) → Writes a b r (whole_list head after all)
cut_list a b head after kept before more all (Ok x) failed is keeps = absurd (true≢false (sym failed))
cut_list a b head after kept before more all (Err e) failed is keeps = (
  tt,
  keeps_part a b kept (list_so_far head before) (others before more ++ after) (whole_list head after all) keeps
      (whole-parts head after before more ∙ ap (whole_list head after) is) (some_others after before more),
)

-- one more item was put
pub put_one : (a b c : Option (List ℕ)) (kept rest kept' head item : List ℕ) (before more : List Data) (d : Data) (later : Bool)
    → Keeps a b kept (list_so_far head before) → later ≡ stands_after false before → Keeps b c rest kept → kept' ≡ (rest ++ comma_if later) ++ item
    → item ≡ compact_text d → more ≡ before ++ d ∷ [] → Keeps a c kept' (list_so_far head more)
put_one a b c kept rest kept' head item before more d later first later_is second put item_is more_is =
    let so_far = list_so_far head before in
    let less : Keeps a c rest so_far = keeps_less a b c kept rest so_far first second in
    let grown : Keeps a c (rest ++ (comma_if later ++ item)) (so_far ++ (comma_if later ++ item)) = keeps_more a c rest (comma_if later ++ item) so_far less in
    let text : so_far ++ (comma_if later ++ item) ≡ list_so_far head more =
    append_assoc head (91 ∷ items_so_far false before) (comma_if later ++ item)
    ∙ ap (λ t. head ++ (91 ∷ (items_so_far false before ++ (comma_if later ++ t)))) item_is
    ∙ ap (λ l. head ++ (91 ∷ (items_so_far false before ++ (comma_if l ++ compact_text d)))) later_is
    ∙ ap (λ t. head ++ (91 ∷ t)) (sym (items_so_far-push false before d))
    ∙ ap (list_so_far head) (sym more_is) in
    subst (λ k. Keeps a c k (list_so_far head more)) (sym (put ∙ append_assoc rest (comma_if later) item))
    (subst (Keeps a c (rest ++ (comma_if later ++ item))) text grown)

closed-is : (head kept sent : List ℕ) (all : List Data) → sent ++ kept ≡ list_so_far head all → sent ++ (kept ++ 93 ∷ []) ≡ head ++ compact_text (array (items_of all))
closed-is head kept sent all keeps =
    sym (append_assoc sent kept (93 ∷ [])) ∙ ap (λ t. t ++ 93 ∷ []) keeps
    ∙ append_assoc head (91 ∷ items_so_far false all) (93 ∷ []) ∙ ap (λ t. head ++ (91 ∷ t)) (items_so_far-closed false all)

last-is : (head after kept sent piece : List ℕ) (all : List Data) → sent ++ kept ≡ list_so_far head all → piece ≡ (kept ++ 93 ∷ []) ++ after
    → sent ++ piece ≡ whole_list head after all
last-is head after kept sent piece all keeps is =
    ap (λ t. sent ++ t) is ∙ sym (append_assoc sent (kept ++ 93 ∷ []) after) ∙ ap (λ t. t ++ after) (closed-is head kept sent all keeps)
    ∙ append_assoc head (compact_text (array (items_of all))) after

-- the last piece of a list is written
pub last_taken : (a b c : Option (List ℕ)) (head after kept piece : List ℕ) (all : List Data) → Keeps a b kept (list_so_far head all) → piece ≡ (kept ++ 93 ∷ []) ++ after
    → Appends b c piece → Appends a c (whole_list head after all)
last_taken a b c head after kept piece all keeps is taken =
    subst (Appends a c) (last-is head after kept keeps.sent piece all keeps.is is) (Appends-trans a b c keeps.sent piece keeps.takes taken)

-- a part of the last piece of a list is written
pub last_cut : {A E : Type 0} (a b c : Option (List ℕ)) (head after kept piece : List ℕ) (all : List Data) (r : Result A E) → IsErr r → Keeps a b kept (list_so_far head all)
    → piece ≡ (kept ++ 93 ∷ []) ++ after → (n : ℕ) → n < length piece → Appends b c (take n piece) → Writes a c r (whole_list head after all)
last_cut a b c head after kept piece all (Ok x) failed keeps is n short part = absurd (true≢false (sym failed))
last_cut a b c head after kept piece all (Err e) failed keeps is n short part =
    let same = last-is head after kept keeps.sent piece all keeps.is is in
    let size = ap length same in
    let all_len = length-append keeps.sent piece in (
      tt,
      (
        length keeps.sent + n,
        omega (arith, size, all_len, short),
        subst (Appends a c) (sym (take-append-add keeps.sent piece n) ∙ ap (take (length keeps.sent + n)) same) (Appends-trans a b c keeps.sent (take n piece) keeps.takes part),
      ),
    )

-- ---- what comes before and after a list

pub framed : (head before list after whole : List ℕ) → (before ++ list) ++ after ≡ whole → (head ++ before) ++ (list ++ after) ≡ head ++ whole
framed head before list after whole is =
    append_assoc head before (list ++ after) ∙ ap (λ t. head ++ t) (sym (append_assoc before list after) ∙ is)
