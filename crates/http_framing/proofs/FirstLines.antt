-- What the first lines of a head say of its headers.
use Rattle.std.proofs.Common.{◌≡◌, ℕ, ◌+◌, ◌<◌, ◌≤◌, Bool, true, false, List, [], ◌∷◌, ◌++◌, length, take, drop, refl, ap, sym, ◌∙◌, subst, arith, append_assoc, append-nil, length-append, length-drop, inl, inr, ◌⊎◌}
use Rattle.std.specs.Prelude.{All}
use Rattle.std.specs.List.{flat_map}
use Rattle.std.proofs.lemmas.Bool.{cases_lt}
use Rattle.std.proofs.lemmas.List.{take-append-drop, length-take-le}
use Rattle.std.proofs.lemmas.Grind.{flat_map-append}
use Rattle.std.proofs.Math.Seq.{take-append-add}
use Rattle.std.proofs.lemmas.List.Elements.{All-take}
use Rattle.httparse.specs.Grammar.{LineEnd, lf, print_end, print_blank, print_version, Field, IsField, print_field, AllPass, RequestHead, IsRequestHead, ReadsRequest, HasNoRequest, NeverHasRequest, MayBecomeRequest, EndsInTarget}
use Rattle.httparse.specs.Spans.{RequestExceeds}
use Rattle.httparse.specs.Pieces.{is_newline, Stops}
use Rattle.httparse.proofs.RunLemmas.{run_unique, run_unstopped, Stops-append}
use Rattle.httparse.proofs.GrammarLemmas.{cons-append, ReadsRequest-append}
use Rattle.httparse.proofs.PieceLemmas.{Stops_token}
use Rattle.http_framing.specs.Request.{head_limit, header_limit}
use Rattle.http_framing.specs.Refusal.{head_window, HasLargeHead, HasNoHead}
use Rattle.http_framing.specs.Input.{EndsInHead}
use Rattle.http_framing.proofs.More.{RequestExceeds-append}
use Rattle.http_framing.proofs.Heads.{head_window-short}
use Rattle.http_framing.proofs.InTarget.{all_newlines}
use Rattle.http_framing.specs.Lines.{line_ends, line_limit, IsEnded, AreFirstLines}
use Rattle.http_framing.proofs.ManyHeaders.{print_lines, print_request-lines, exceeding}
use Rattle.http_framing.proofs.LineEnds.{line_ends-append, line_ends-token, line_ends-uri, line_ends-end, line_ends-past, print_first, line_ends-first, ended-append, ended-end, ended-first, later_end, same_lines}

-- ---- the empty lines in front

behind_blank : (blank : List ℕ) (ends : List LineEnd) (xs ys : List ℕ) → AllPass is_newline blank → (xs ≡ []) ⊎ Stops is_newline xs → Stops is_newline ys
    → blank ++ xs ≡ print_blank ends ++ ys → (blank ≡ print_blank ends) × (xs ≡ ys)
behind_blank blank ends xs ys newlines (inl none) stops e =
    let all : blank ≡ print_blank ends ++ ys = sym (append-nil blank) ∙ ap (λ (x : List ℕ). blank ++ x) (sym none) ∙ e in
    absurd (run_unstopped is_newline (print_blank ends) ys (subst (AllPass is_newline) all newlines) stops)
behind_blank blank ends xs ys newlines (inr begins) stops e =
    run_unique is_newline blank (print_blank ends) xs ys newlines (all_newlines ends) begins stops e

begins-append : (xs more : List ℕ) → (xs ≡ []) ⊎ Stops is_newline xs → IsEnded xs → (xs ++ more ≡ []) ⊎ Stops is_newline (xs ++ more)
begins-append xs more (inl none) (front, is) = absurd (omega (arith, ap length none, ap length is, length-append front (10 ∷ [])))
begins-append xs more (inr stops) ended = inr (Stops-append is_newline xs more stops)

-- ---- a head's lines

stops_first : (h : RequestHead) (fields : List Field) (more : List ℕ) → IsRequestHead h → Stops is_newline (print_first h fields ++ more)
stops_first h fields more is = Stops-append is_newline (print_first h fields) more (Stops_token h.method _ is.method.0 is.method.1)

-- a head with other fields
abbrev with_fields : RequestHead → List Field → RequestHead
with_fields h fields = record {
  blank = h.blank;
  method = h.method;
  target = h.target;
  minor = h.minor;
  line_end = h.line_end;
  fields = fields;
  last = lf;
}

is_with_fields : (h : RequestHead) (fields : List Field) → IsRequestHead h → All IsField fields → IsRequestHead (with_fields h fields)
is_with_fields h fields is all =
    record { method = is.method; target = is.target; target_text = is.target_text; minor = is.minor; fields = all }

whole_head : (h : RequestHead) (fields : List Field) → IsRequestHead h → All IsField fields
    → ReadsRequest ((print_blank h.blank ++ print_first h fields) ++ print_end lf) (with_fields h fields) []
whole_head h fields is all =
    (is_with_fields h fields is all, sym (print_request-lines (with_fields h fields)))

-- a head that has as many lines is as long
whole_front : (h : RequestHead) (fields : List Field) → IsRequestHead h → All IsField fields → header_limit < length fields
    → RequestExceeds header_limit (print_blank h.blank ++ print_first h fields)
whole_front h fields is all many =
    (print_blank h.blank ++ print_first h fields, [], sym (append-nil _), with_fields h fields, whole_head h fields is all, many)

module _ (n : ℕ) (h : RequestHead) (after : List ℕ) (many : n < length h.fields) where
  abbrev front : List Field
  front = take (n + 1) h.fields

  length-front : length front ≡ n + 1
  length-front = length-take-le (n + 1) h.fields (omega arith)

  fields_split : flat_map print_field h.fields ≡ flat_map print_field front ++ flat_map print_field (drop (n + 1) h.fields)
  fields_split =
      ap (λ (fs : List Field). flat_map print_field fs) (sym (take-append-drop (n + 1) h.fields))
      ∙ flat_map-append print_field front (drop (n + 1) h.fields)

  first_split : print_first h h.fields ++ after ≡ print_first h front ++ (flat_map print_field (drop (n + 1) h.fields) ++ after)
  first_split =
      ap (λ (x : List ℕ). (h.method ++ 32 ∷ (h.target ++ 32 ∷ (print_version h.minor ++ (print_end h.line_end ++ x)))) ++ after) fields_split
      ∙ simp (append_assoc, cons-append) refl

none_left : (xs : List ℕ) → length xs ≤ 0 → xs ≡ []
none_left [] le = refl
none_left (x ∷ xs) le = absurd (omega (arith, le))

either : (b : Bool) → (b ≡ false) ⊎ (b ≡ true)
either true = inr refl
either false = inl refl

module _ {bytes first : List ℕ} {many : Bool} (is_first : AreFirstLines bytes first many) where
  pub first-append : bytes ≡ first ++ is_first.rest
  first-append =
      is_first.parts ∙ sym (append_assoc is_first.blank is_first.lines is_first.rest)
      ∙ ap (λ (x : List ℕ). x ++ is_first.rest) (sym is_first.first_is)

  pub first-all : many ≡ false → first ≡ bytes
  first-all few = sym (first-append ∙ ap (λ (x : List ℕ). first ++ x) (is_first.few few).0 ∙ append-nil first)

  -- the lines of a head with too many headers, as far as the first that is too many
  same_first : (h : RequestHead) (more after : List ℕ) → many ≡ true → IsRequestHead h → header_limit < length h.fields
      → first ++ more ≡ print_lines h ++ after
      → first ≡ print_blank h.blank ++ print_first h (take (header_limit + 1) h.fields)
  same_first h more after enough is over e =
      let ends = is_first.enough enough in
      let shown : is_first.blank ++ (is_first.lines ++ more) ≡ print_blank h.blank ++ (print_first h h.fields ++ after) =
      sym (append_assoc is_first.blank is_first.lines more) ∙ ap (λ (x : List ℕ). x ++ more) (sym is_first.first_is) ∙ e
      ∙ append_assoc (print_blank h.blank) (print_first h h.fields) after in
      let behind = behind_blank is_first.blank h.blank (is_first.lines ++ more) (print_first h h.fields ++ after) is_first.newlines
      (begins-append is_first.lines more is_first.begins ends.1) (stops_first h h.fields after is) shown in
      let fields = take (header_limit + 1) h.fields in
      let all = All-take IsField (header_limit + 1) h.fields is.fields in
      let count : line_ends is_first.lines ≡ line_ends (print_first h fields) =
      ends.0 ∙ sym (line_ends-first h fields is all ∙ ap (λ (k : ℕ). k + 1) (length-front header_limit h after over)) in
      let lines = same_lines is_first.lines (print_first h fields) more _ ends.1 (ended-first h fields) count (behind.1 ∙ first_split header_limit h after over) in
      is_first.first_is ∙ ap (λ (x : List ℕ). x ++ is_first.lines) behind.0 ∙ ap (λ (x : List ℕ). print_blank h.blank ++ x) lines

  -- fewer lines have few headers
  pub few_headers : many ≡ false → ¬ (RequestExceeds header_limit bytes)
  few_headers few exceeds =
      let h = exceeding header_limit bytes exceeds in
      let lines = is_first.few few in
      let whole : is_first.blank ++ is_first.lines ≡ print_blank h.0.blank ++ (print_first h.0 h.0.fields ++ h.1) =
      sym is_first.first_is ∙ first-all few ∙ h.3 ∙ append_assoc (print_blank h.0.blank) (print_first h.0 h.0.fields) h.1 in
      let behind = behind_blank is_first.blank h.0.blank is_first.lines (print_first h.0 h.0.fields ++ h.1) is_first.newlines
      is_first.begins (stops_first h.0 h.0.fields h.1 h.2) whole in
      absurd (omega (
        arith,
        lines.1,
        ap line_ends behind.1,
        line_ends-append (print_first h.0 h.0.fields) h.1,
        line_ends-first h.0 h.0.fields h.2 h.2.fields,
        h.4,
      ))

  -- no head begins with the first lines where they are refused
  pub never_many : NeverHasRequest first → ¬ (RequestExceeds header_limit bytes)
  never_many never exceeds = elim (either many) [
    | inl few ↦ few_headers few exceeds
    | inr enough ↦
        let h = exceeding header_limit bytes exceeds in
        let same = same_first h.0 is_first.rest h.1 enough h.2 h.4 (sym first-append ∙ h.3) in
        let fields = take (header_limit + 1) h.0.fields in
        let whole = whole_head h.0 fields h.2 (All-take IsField (header_limit + 1) h.0.fields h.2.fields) in
        let P : List ℕ → Type 0 = λ x. ReadsRequest (x ++ print_end lf) (with_fields h.0 fields) [] in
        never (print_end lf) (with_fields h.0 fields) [] (subst P (sym same) whole)
  ]

  -- many lines of a head have too many headers, unless they are the whole of it
  pub many_lines : many ≡ true → HasNoRequest first → MayBecomeRequest first → RequestExceeds header_limit first
  many_lines enough none (inr (blank, method, target, token, uri, parts)) =
      let ends = is_first.enough enough in
      let text : List ℕ = method ++ 32 ∷ target in
      let whole : is_first.blank ++ is_first.lines ≡ print_blank blank ++ text = sym is_first.first_is ∙ parts ∙ append_assoc (print_blank blank) method (32 ∷ target) in
      let behind = behind_blank is_first.blank blank is_first.lines text is_first.newlines is_first.begins (Stops_token method _ token.0 token.1) whole in
      absurd (omega (
        arith,
        ends.0,
        ap line_ends behind.1,
        line_ends-past method 32 target refl,
        line_ends-token method token.1,
        line_ends-uri target uri,
      ))
  many_lines enough none (inl (more, h, (is, e))) = elim (cases_lt header_limit (length h.fields)) [
    | inl over ↦
        let fields = take (header_limit + 1) h.fields in
        let same = same_first h more (print_end h.last) enough is over (e ∙ print_request-lines h) in
        let P : List ℕ → Type 0 = RequestExceeds header_limit in
        subst P (sym same) (whole_front h fields is (All-take IsField (header_limit + 1) h.fields is.fields)
        (omega (arith, length-front header_limit h [] over)))
    | inr within ↦ absurd (all_read within)
  ]
    where
      ends_all : 0 < length more → 0 < line_ends more
      ends_all some =
          let ended = ended-append (print_lines h) (print_end h.last) (ended-end h.last) in
          later_end ended.0 first more (sym ended.1 ∙ sym (print_request-lines h) ∙ sym e) some

      counts : line_ends is_first.lines + line_ends more ≡ (length h.fields + 1) + 1
      counts =
          let ends = is_first.enough enough in
          let shown : is_first.blank ++ (is_first.lines ++ more) ≡ print_blank h.blank ++ (print_first h h.fields ++ print_end h.last) =
          sym (append_assoc is_first.blank is_first.lines more) ∙ ap (λ (x : List ℕ). x ++ more) (sym is_first.first_is) ∙ e ∙ print_request-lines h
          ∙ append_assoc (print_blank h.blank) (print_first h h.fields) (print_end h.last) in
          let behind = behind_blank is_first.blank h.blank (is_first.lines ++ more) (print_first h h.fields ++ print_end h.last) is_first.newlines
          (begins-append is_first.lines more is_first.begins ends.1) (stops_first h h.fields (print_end h.last) is) shown in
          sym (line_ends-append is_first.lines more) ∙ ap line_ends behind.1 ∙ line_ends-append (print_first h h.fields) (print_end h.last)
          ∙ ap (λ (k : ℕ). k + line_ends (print_end h.last)) (line_ends-first h h.fields is is.fields)
          ∙ ap (λ (k : ℕ). (length h.fields + 1) + k) (line_ends-end h.last)

      all_read : length h.fields ≤ header_limit → ⊥
      all_read within = elim (cases_lt 0 (length more)) [
        | inl some ↦ absurd (omega (arith, ends_all some, counts, (is_first.enough enough).0, within))
        | inr empty ↦
            let nothing : more ≡ [] = none_left more empty in
            none h [] (is, sym (append-nil first) ∙ ap (λ (x : List ℕ). first ++ x) (sym nothing) ∙ e)
      ]

  -- the same where the lines are the first of such bytes
  pub many_lines_in : many ≡ true → HasNoRequest bytes → MayBecomeRequest bytes → RequestExceeds header_limit first
  many_lines_in enough none may = many_lines enough none_first (may_first may)
    where
      none_first : HasNoRequest first
      none_first head rest reads =
          let P : List ℕ → Type 0 = λ x. ReadsRequest x head (rest ++ is_first.rest) in
          none head (rest ++ is_first.rest) (subst P (sym first-append) (ReadsRequest-append first head rest is_first.rest reads))

      may_first : MayBecomeRequest bytes → MayBecomeRequest first
      may_first (inl (more, head, reads)) =
          let P : List ℕ → Type 0 = λ x. ReadsRequest x head [] in
          let whole = ap (λ (x : List ℕ). x ++ more) first-append ∙ append_assoc first is_first.rest more in
          inl (is_first.rest ++ more, head, subst P whole reads)
      may_first (inr (blank, method, target, token, uri, parts)) =
          let ends = is_first.enough enough in
          let text : List ℕ = method ++ 32 ∷ target in
          let whole : is_first.blank ++ (is_first.lines ++ is_first.rest) ≡ print_blank blank ++ text = sym is_first.parts ∙ parts ∙ append_assoc (print_blank blank) method (32 ∷ target) in
          let behind = behind_blank is_first.blank blank (is_first.lines ++ is_first.rest) text is_first.newlines
          (begins-append is_first.lines is_first.rest is_first.begins ends.1) (Stops_token method _ token.0 token.1) whole in
          absurd (omega (
            arith,
            ends.0,
            ap line_ends behind.1,
            line_ends-append is_first.lines is_first.rest,
            line_ends-past method 32 target refl,
            line_ends-token method token.1,
            line_ends-uri target uri,
          ))

-- ---- what they say of the bytes in which a head has to end

module _ (bytes : List ℕ) {first : List ℕ} {many : Bool} (is_first : AreFirstLines (head_window bytes) first many) where
  pub part_of_head : many ≡ false → length bytes < head_limit → HasNoRequest (head_window bytes) → MayBecomeRequest (head_window bytes) → EndsInHead bytes
  part_of_head few short none may =
      let whole = head_window-short bytes short in
      (short, subst HasNoRequest whole none, subst MayBecomeRequest whole may, few_headers is_first few)

  pub exceeding_lines : RequestExceeds header_limit first → HasLargeHead bytes
  exceeding_lines exceeds =
      let P : List ℕ → Type 0 = RequestExceeds header_limit in
      inr (subst P (sym (first-append is_first)) (RequestExceeds-append header_limit first is_first.rest exceeds))

  pub too_many_lines : many ≡ true → HasNoRequest (head_window bytes) → MayBecomeRequest (head_window bytes) → HasLargeHead bytes
  too_many_lines enough none may = exceeding_lines (many_lines_in is_first enough none may)

  -- what is no head is a part of one as far as its first lines where those are too many
  pub part_of_no_head : NeverHasRequest (head_window bytes) → ¬ (EndsInTarget (head_window bytes)) → HasNoRequest first → MayBecomeRequest first → HasLargeHead bytes
  part_of_no_head never past none may = elim (either many) [
    | inl few ↦ absurd (not_part (subst MayBecomeRequest (first-all is_first few) may))
    | inr enough ↦ exceeding_lines (many_lines is_first enough none may)
  ]
    where
      not_part : MayBecomeRequest (head_window bytes) → ⊥
      not_part (inl (more, head, reads)) = never more head [] reads
      not_part (inr in_target) = past in_target

  pub no_whole_head : NeverHasRequest (head_window bytes) → (head : RequestHead) (rest : List ℕ) → ReadsRequest first head rest → ⊥
  no_whole_head never head rest reads =
      let P : List ℕ → Type 0 = λ x. ReadsRequest (x ++ []) head ((rest ++ is_first.rest) ++ []) in
      never [] head ((rest ++ is_first.rest) ++ [])
      (subst P (sym (first-append is_first)) (ReadsRequest-append (first ++ is_first.rest) head (rest ++ is_first.rest) [] (ReadsRequest-append first head rest is_first.rest reads)))

  pub no_head : NeverHasRequest (head_window bytes) → ¬ (EndsInTarget (head_window bytes)) → NeverHasRequest first → HasNoHead bytes
  no_head never past never_first = (never, past, never_many is_first never_first)

-- the window is full of a part of a head
pub full_window : (bytes : List ℕ) → head_limit ≤ length bytes → HasNoRequest (head_window bytes) → MayBecomeRequest (head_window bytes) → HasLargeHead bytes
full_window bytes full none may = inl (full, none, may)

-- ---- how they are found

begins-front : (xs ys : List ℕ) → (xs ++ ys ≡ []) ⊎ Stops is_newline (xs ++ ys) → (xs ≡ []) ⊎ Stops is_newline xs
begins-front [] ys begins = inl refl
begins-front (x ∷ xs) ys (inl none) = absurd (omega (arith, ap length none))
begins-front (x ∷ xs) ys (inr stops) = inr stops

module _ (bytes : List ℕ) (start : ℕ) (inside : start ≤ length bytes) (newlines : AllPass is_newline (take start bytes)) (begins : (start ≡ length bytes) ⊎ Stops is_newline (drop start bytes)) where
  behind_begins : (start ≡ length bytes) ⊎ Stops is_newline (drop start bytes) → (drop start bytes ≡ []) ⊎ Stops is_newline (drop start bytes)
  behind_begins (inl all) = inl (none_left (drop start bytes) (omega (arith, length-drop start bytes, all)))
  behind_begins (inr stops) = inr stops

  pub first_of_many : (len : ℕ) → line_ends (take len (drop start bytes)) ≡ line_limit → IsEnded (take len (drop start bytes))
      → AreFirstLines bytes (take (start + len) bytes) true
  first_of_many len count ended =
      let behind = drop start bytes in
      let parts : take len behind ++ drop len behind ≡ behind = take-append-drop len behind in
      let size : length (take start bytes) ≡ start = length-take-le start bytes inside in
      let whole : bytes ≡ take start bytes ++ behind = sym (take-append-drop start bytes) in
      record {
        blank = take start bytes;
        lines = take len behind;
        rest = drop len behind;
        parts = whole ∙ ap (λ (x : List ℕ). take start bytes ++ x) (sym parts);
        first_is =
            ap (take (start + len)) whole ∙ ap (λ (k : ℕ). take (k + len) (take start bytes ++ behind)) (sym size)
            ∙ take-append-add (take start bytes) behind len;
        newlines = newlines;
        begins = begins-front (take len behind) (drop len behind) (subst (λ (x : List ℕ). (x ≡ []) ⊎ Stops is_newline x) (sym parts) (behind_begins begins));
        few = λ e. absurd (cc);
        enough = λ e. (count, ended);
      }

  pub first_of_few : line_ends (drop start bytes) < line_limit → AreFirstLines bytes bytes false
  first_of_few count =
      let whole : bytes ≡ take start bytes ++ drop start bytes = sym (take-append-drop start bytes) in
      record {
        blank = take start bytes;
        lines = drop start bytes;
        rest = [];
        parts = whole ∙ ap (λ (x : List ℕ). take start bytes ++ x) (sym (append-nil (drop start bytes)));
        first_is = whole;
        newlines = newlines;
        begins = behind_begins begins;
        few = λ e. (refl, count);
        enough = λ e. absurd (cc);
      }
