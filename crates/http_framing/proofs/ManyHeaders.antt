-- A head that has too many headers, whatever follows the last of them.
use Rattle.std.proofs.Common.{◌≡◌, ℕ, ◌<◌, ◌≤◌, List, [], ◌∷◌, ◌++◌, length, refl, ap, sym, ◌∙◌, subst, arith, append_assoc, length-append}
use Rattle.std.specs.List.{flat_map}
use Rattle.std.proofs.lemmas.List.{append_cancel_right, append-nil}
use Rattle.httparse.specs.Grammar.{LineEnd, crlf, lf, print_end, print_blank, print_version, print_field, RequestHead, IsRequestHead, print_request, ReadsRequest}
use Rattle.httparse.specs.Spans.{RequestExceeds}
use Rattle.httparse.specs.Pieces.{RequestStart, FieldLines, Section}
use Rattle.httparse.proofs.GrammarLemmas.{request_tree, request_pieces, print_request-append, cons-append}
use Rattle.httparse.proofs.PieceLemmas.{RequestStart_deterministic, Section_skip, Stops_token}

-- the bytes of a head up to the empty line that ends it
abbrev pub print_lines : RequestHead → List ℕ
print_lines h =
    print_blank h.blank ++ (h.method ++ 32 ∷ (h.target ++ 32 ∷ (print_version h.minor ++ (print_end h.line_end ++ flat_map print_field h.fields))))

pub print_request-lines : (h : RequestHead) → print_request h ++ [] ≡ print_lines h ++ print_end h.last
print_request-lines h = print_request-append h [] ∙ simp (append_assoc, cons-append, append-nil)

pub print_lines-append : (h : RequestHead) (rest : List ℕ) → print_lines h ++ rest
    ≡ print_blank h.blank ++ (h.method ++ 32 ∷ (h.target ++ 32 ∷ (print_version h.minor ++ (print_end h.line_end ++ (flat_map print_field h.fields ++ rest)))))
print_lines-append h rest = simp (append_assoc, cons-append)

-- all but a last line feed
cut_end : (front lines : List ℕ) (end : LineEnd) → front ++ print_end lf ≡ lines ++ print_end end
    → (cut : List ℕ) × (front ≡ lines ++ cut)
cut_end front lines lf e = ([], append_cancel_right front lines (10 ∷ []) e ∙ sym (append-nil lines))
cut_end front lines crlf e = (13 ∷ [], append_cancel_right front (lines ++ 13 ∷ []) (10 ∷ []) (e ∙ sym (append_assoc lines (13 ∷ []) (10 ∷ []))))

-- the head of which there are too many headers, and what is behind the last of them
pub exceeding : (room : ℕ) (buf : List ℕ) → RequestExceeds room buf
    → (h : RequestHead) × (after : List ℕ) × IsRequestHead h × (buf ≡ print_lines h ++ after) × (room < length h.fields)
exceeding room buf (front, rest, whole, h, reads, many) =
    let cut = cut_end front (print_lines h) h.last (reads.1 ∙ print_request-lines h) in
    let parts : buf ≡ print_lines h ++ (cut.0 ++ rest) = whole ∙ ap (λ (x : List ℕ). x ++ rest) cut.1 ∙ append_assoc (print_lines h) cut.0 rest in
    (h, cut.0 ++ rest, reads.0, parts, many)

-- the bytes begin with the lines of a head, which has more headers than there is room for
pub record HasManyHeaders (room : ℕ) (buf : List ℕ) : Type 0 where
  pub head : RequestHead
  pub after : List ℕ
  pub middle : List ℕ
  pub start : RequestStart (request_tree head).0 buf middle
  pub lines : FieldLines head.fields middle after
  pub many : room < length head.fields

pub many_headers : (room : ℕ) (buf : List ℕ) → RequestExceeds room buf → HasManyHeaders room buf
many_headers room buf exceeds =
    let found = exceeding room buf exceeds in
    let h = found.0 in
    let after = found.1 in
    let is = found.2 in
    record {
      head = h;
      after = after;
      middle = flat_map print_field h.fields ++ after;
      start = (
        _,
        (found.3 ∙ print_lines-append h after, Stops_token h.method _ is.method.0 is.method.1),
        (
          _,
          (is.method.0, is.method.1, refl),
          (
            _,
            ((is.target.0, is.target.1, refl), is.target_text),
            (_, (is.minor, refl), refl),
          ),
        ),
      );
      lines = (is.fields, refl);
      many = found.4;
    }

-- a head whose headers have room is another
pub no_head_with_room : (room : ℕ) (buf : List ℕ) (k : RequestHead) (rest : List ℕ) → ReadsRequest buf k rest → length k.fields ≤ room
    → RequestExceeds room buf → ⊥
no_head_with_room room buf k rest reads fits exceeds =
    let over = many_headers room buf exceeds in
    let pieces = request_pieces buf k rest reads in
    let same = RequestStart_deterministic.unique (request_tree over.head).0 (request_tree k).0 buf over.middle pieces.0 over.start pieces.1 in
    let P : List ℕ → Type 0 = λ text. Section (request_tree k).1 text rest in
    let fields = Section_skip over.head.fields k.fields k.last over.middle over.after rest over.lines (subst P (sym same.1) pieces.2) in
    absurd (omega (arith, over.many, fits, ap length fields.1, length-append over.head.fields fields.0))
