-- Which lines are readable.
use Rattle.std.proofs.Common.{◌≡◌, ℕ, suc, ◌+◌, ◌<◌, ◌≤◌, List, [], ◌∷◌, ◌++◌, length, All, inl, inr, map, refl, sym, ap, subst, ◌∙◌, arith}
use Rattle.std.specs.Prelude.{Option}
use Rattle.std.specs.List.{AllZip}
use Rattle.std.proofs.lemmas.List.{length-map}
use Rattle.std.proofs.lemmas.List.Elements.{All-head, All-tail, All-cons, All-nil}
use Rattle.model.specs.Command.{Entry}
use Rattle.model.specs.Database.{Database}
use Rattle.model.specs.History.{Chronicle}
use Rattle.history_json.specs.Line.{IsLine}
use Rattle.history_dump.specs.Dump.{first_line, entry_line, IsFirst}
use Rattle.replay_cli.specs.Lines.{lines, lines_or_one}
use Rattle.replay_cli.specs.Places.{last_place}
use Rattle.replay_cli.specs.Readable.{IsReadable, AreReadable, IsFirstUnreadable}
use Rattle.replay_cli.specs.Verdicts.{IsDump, begun_with}
use Rattle.replay_cli.specs.Reading.{IsRead}
use Rattle.replay_cli.proofs.Forks.{GoesOn, forks}
use Rattle.replay_cli.proofs.Texts.{lines-dump, dump-lines}

-- ---- lines that were read

pub within-read : (ls : List (List ℕ)) (es : List Entry) → AllZip IsRead ls es → All IsLine es
within-read [] [] read = All-nil IsLine
within-read [] (e ∷ es) read = absurd read
within-read (l ∷ ls) [] read = absurd read
within-read (l ∷ ls) (e ∷ es) read = All-cons IsLine e es read.0.within (within-read ls es read.1)

pub lines-read : (ls : List (List ℕ)) (es : List Entry) → AllZip IsRead ls es → ls ≡ map entry_line es
lines-read [] [] read = refl
lines-read [] (e ∷ es) read = absurd read
lines-read (l ∷ ls) [] read = absurd read
lines-read (l ∷ ls) (e ∷ es) read =
    let head = read.0.line_is in
    let tails = lines-read ls es read.1 in
    cc

pub only-read : (ls : List (List ℕ)) (es others : List Entry) → AllZip IsRead ls es → All IsLine others → ls ≡ map entry_line others → others ≡ es
only-read [] [] [] read within is = refl
only-read [] [] (o ∷ others) read within is = cc
only-read [] (e ∷ es) others read within is = absurd read
only-read (l ∷ ls) [] others read within is = absurd read
only-read (l ∷ ls) (e ∷ es) [] read within is = cc
only-read (l ∷ ls) (e ∷ es) (o ∷ others) read within is =
    let line : l ≡ entry_line o = cc in
    let more : ls ≡ map entry_line others = cc in
    let head = read.0.only o (All-head IsLine o others within) line in
    let tails = only-read ls es others read.1 (All-tail IsLine o others within) more in
    cc

-- ---- their numbers

-- the lines of entries are readable where the last has a place
pub readable-entries : (n : ℕ) (es : List Entry) → All IsLine es → n + length es ≤ last_place → AreReadable (suc (suc n)) (map entry_line es)
readable-entries n [] within few = tt
readable-entries n (e ∷ es) within few =
    ((omega arith, e, All-head IsLine e es within, refl), readable-entries (suc n) es (All-tail IsLine e es within) (omega arith))

pub readable-dump : (text : List ℕ) (h : Chronicle) → IsDump text h → AreReadable 1 (lines_or_one text)
readable-dump text h dump =
    subst (AreReadable 1) (sym (ap lines_or_one dump.text_is ∙ lines-dump h dump.first dump.within))
    ((h.base, dump.first, refl), readable-entries 0 h.entries dump.within (omega (arith, dump.places)))

-- ---- the first that isn't

-- each of readable lines is readable by its number
readable-at : (n : ℕ) (xs : List (List ℕ)) (x : List ℕ) (more : List (List ℕ)) → AreReadable n (xs ++ x ∷ more) → IsReadable (n + length xs) x
readable-at n [] x more are = subst (λ m. IsReadable m x) (omega arith) are.0
readable-at n (y ∷ xs) x more are = subst (λ m. IsReadable m x) (omega arith) (readable-at (suc n) xs x more are.1)

module _ (n : ℕ) (ls : List (List ℕ)) where
  pub readable-none : (number : ℕ) → AreReadable n ls → IsFirstUnreadable n ls number → ⊥
  readable-none number are first =
      first.unreadable (subst (λ m. IsReadable m first.line) (sym first.number_is)
      (readable-at n first.before first.line first.after (subst (AreReadable n) first.lines_are are)))

  later-none : (a b : ℕ) (f : IsFirstUnreadable n ls a) (g : IsFirstUnreadable n ls b) → GoesOn g.before f.line f.before → ⊥
  later-none a b f g (more, is) =
      f.unreadable (subst (λ m. IsReadable m f.line) (sym f.number_is)
      (readable-at n f.before f.line more (subst (AreReadable n) is g.readable)))

  pub unreadable-one : (a b : ℕ) → IsFirstUnreadable n ls a → IsFirstUnreadable n ls b → a ≡ b
  unreadable-one a b f g =
      elim (forks f.before f.line f.after g.before g.line g.after (sym f.lines_are ∙ g.lines_are)) [
        | inl same ↦ f.number_is ∙ ap (λ k. n + k) same ∙ sym g.number_is
        | inr apart ↦ elim apart [
          | inl on ↦ absurd (later-none a b f g on)
          | inr on ↦ absurd (later-none b a g f on)
        ]
      ]

-- ---- what was read, and where reading stops

pub read-push : (ls : List (List ℕ)) (es : List Entry) (l : List ℕ) (e : Entry) → AllZip IsRead ls es → IsRead l e → AllZip IsRead (ls ++ l ∷ []) (es ++ e ∷ [])
read-push [] [] l e read one = (one, tt)
read-push [] (f ∷ es) l e read one = absurd read
read-push (m ∷ ls) [] l e read one = absurd read
read-push (m ∷ ls) (f ∷ es) l e read one = (read.0, read-push ls es l e read.1 one)

-- a line behind those that were read is the first that can't be
pub stops : (ls taken : List (List ℕ)) (es : List Entry) (line : List ℕ) (after : List (List ℕ)) (number : ℕ)
    → ls ≡ taken ++ line ∷ after → AllZip IsRead taken es → length es ≤ last_place → number ≡ length es + 2
    → ((e : Entry) → length es < last_place → IsLine e → line ≡ entry_line e → ⊥) → IsFirstUnreadable 2 ls number
stops ls taken es line after number is read few number_is none =
    let told = lines-read taken es read in
    let counted : length taken ≡ length es = ap length told ∙ length-map es entry_line in record {
      before = taken;
      line = line;
      after = after;
      lines_are = is;
      readable = subst (AreReadable 2) (sym told) (readable-entries 0 es (within-read taken es read) (omega (arith, few)));
      unreadable = λ readable. refused (subst (λ n. IsReadable n line) later readable);
      number_is = omega (arith, counted, number_is);
    }
  where
    later : number ≡ suc (suc (length es))
    later = omega (arith, number_is)

    refused : IsReadable (suc (suc (length es))) line → ⊥
    refused (low, e, within, text) = none e (omega (arith, low)) within text

module _ (text rest : List ℕ) (base : Option Database) (first : IsFirst base) (cut : lines_or_one text ≡ first_line base ∷ lines rest) where
  pub dump-read : (es : List Entry) → AllZip IsRead (lines rest) es → length es ≤ last_place → IsDump text (begun_with base es)
  dump-read es read few = record {
    text_is = dump-lines text (begun_with base es) (cut ∙ ap (λ (ls : List (List ℕ)). first_line base ∷ ls) (lines-read (lines rest) es read));
    first = first;
    within = within-read (lines rest) es read;
    places = few;
  }

  -- of a base that is alone with its line
  pub dump-only : ((other : Option Database) → IsFirst other → first_line base ≡ first_line other → other ≡ base)
      → (es : List Entry) → AllZip IsRead (lines rest) es → (other : Chronicle) → IsDump text other → other ≡ begun_with base es
  dump-only alone es read other dump =
      let told : first_line base ∷ lines rest ≡ first_line other.base ∷ map entry_line other.entries = sym cut ∙ ap lines_or_one dump.text_is ∙ lines-dump other dump.first dump.within in
      let same = alone other.base dump.first (front told) in
      let all = only-read (lines rest) es other.entries read dump.within (behind told) in
      λ i. record { base = same i; entries = all i }
    where
      front : {x y : List ℕ} {xs ys : List (List ℕ)} → x ∷ xs ≡ y ∷ ys → x ≡ y
      front is = cc

      behind : {x y : List ℕ} {xs ys : List (List ℕ)} → x ∷ xs ≡ y ∷ ys → xs ≡ ys
      behind is = cc

  pub unreadable-behind : (number : ℕ) → IsFirstUnreadable 2 (lines rest) number → IsFirstUnreadable 1 (lines_or_one text) number
  unreadable-behind number unreadable = record {
    before = first_line base ∷ unreadable.before;
    line = unreadable.line;
    after = unreadable.after;
    lines_are = cut ∙ ap (λ (ls : List (List ℕ)). first_line base ∷ ls) unreadable.lines_are;
    readable = ((base, first, refl), unreadable.readable);
    unreadable = unreadable.unreadable;
    number_is = omega (arith, unreadable.number_is);
  }
