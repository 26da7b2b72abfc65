-- What is left of a list's text, of which items were read.
use Rattle.std.proofs.Common.{◌≡◌, ℕ, List, [], ◌∷◌, ◌++◌, Bool, true, false, All, map, drop, get_or, append_assoc, append-nil, refl, sym, ap, ◌∙◌, arith}
use Rattle.std.proofs.lemmas.List.Elements.{All-head, All-tail}
use Rattle.serde_json.specs.Data.{Data, Members, object}
use Rattle.serde_json.specs.View.{items_of}
use Rattle.serde_json.specs.Written.{comma_if, compact_text, items_text}
use Rattle.base_json.specs.Pieces.{IsPiece}

-- The items that were found are the first of these, and the text goes on with the others and the bracket, behind which is the rest.
pub record Left {Y : Type 0} (of : Y → Data) (P : Y → Type 0) (later : Bool) (left : List ℕ) (found items : List Y) (rest : List ℕ) : Type 0 where
  pub todo : List Y
  pub whole : items ≡ found ++ todo
  pub text : left ≡ items_text later (items_of (map of todo)) ++ rest
  pub within : All (λ y. P y × IsPiece (of y)) todo

-- it goes on with an item
pub record Next {Y : Type 0} (of : Y → Data) (P : Y → Type 0) (later : Bool) (left : List ℕ) (found items : List Y) (rest : List ℕ) : Type 0 where
  pub item : Y
  pub behind : List ℕ
  pub keeps : P item
  pub piece : IsPiece (of item)
  pub text : left ≡ comma_if later ++ (compact_text (of item) ++ behind)
  pub more : Left of P true behind (found ++ item ∷ []) items rest

module _ {Y : Type 0} (of : Y → Data) (P : Y → Type 0) where
  pub left-first : (text : List ℕ) (items : List Y) (rest : List ℕ) → All (λ y. P y × IsPiece (of y)) items
      → text ≡ items_text false (items_of (map of items)) ++ rest → Left of P false text [] items rest
  left-first text items rest within is = record { todo = items; whole = refl; text = is; within = within }

  no-bracket : (later : Bool) (ms : Members) (more behind : List ℕ) → (comma_if later ++ (compact_text (object ms) ++ more)) ≡ 93 ∷ behind → ⊥
  no-bracket true ms more behind is = let first : 44 ≡ 93 = ap (λ t. get_or t 0 0) is in omega (arith, first)
  no-bracket false ms more behind is = let first : 123 ≡ 93 = ap (λ t. get_or t 0 0) is in omega (arith, first)

  -- an item's text, with what is behind it
  opened : (later : Bool) (y : Y) (ys : List Y) (rest : List ℕ)
      → items_text later (items_of (map of (y ∷ ys))) ++ rest ≡ comma_if later ++ (compact_text (of y) ++ (items_text true (items_of (map of ys)) ++ rest))
  opened later y ys rest =
      let more = items_text true (items_of (map of ys)) in
      append_assoc (comma_if later) (compact_text (of y) ++ more) rest ∙ ap (λ t. comma_if later ++ t) (append_assoc (compact_text (of y)) more rest)

  no-end : (later : Bool) (y : Y) (ys : List Y) (rest behind : List ℕ) → IsPiece (of y) → items_text later (items_of (map of (y ∷ ys))) ++ rest ≡ 93 ∷ behind → ⊥
  no-end later y ys rest behind piece is =
      let more = items_text true (items_of (map of ys)) ++ rest in
      no-bracket later piece.members more behind (ap (λ d. comma_if later ++ (compact_text d ++ more)) (sym piece.is) ∙ sym (opened later y ys rest) ∙ is)

  -- at the bracket all were found
  pub left-ended : (later : Bool) (left : List ℕ) (found items : List Y) (rest behind : List ℕ) → Left of P later left found items rest → left ≡ 93 ∷ behind
      → (found ≡ items) × (behind ≡ rest)
  left-ended later left found items rest behind l is = at l.todo l.whole l.text l.within
    where
      at : (todo : List Y) → items ≡ found ++ todo → left ≡ items_text later (items_of (map of todo)) ++ rest → All (λ y. P y × IsPiece (of y)) todo
          → (found ≡ items) × (behind ≡ rest)
      at [] whole text within = (sym (whole ∙ append-nil found), ap (drop 1) (sym is ∙ text))
      at (y ∷ ys) whole text within = absurd (no-end later y ys rest behind (All-head (λ y. P y × IsPiece (of y)) y ys within).1 (sym text ∙ is))

  -- and else an item comes
  pub left-next : (later : Bool) (left : List ℕ) (found items : List Y) (rest : List ℕ) → Left of P later left found items rest
      → ((behind : List ℕ) → left ≡ 93 ∷ behind → ⊥) → Next of P later left found items rest
  left-next later left found items rest l none = at l.todo l.whole l.text l.within
    where
      at : (todo : List Y) → items ≡ found ++ todo → left ≡ items_text later (items_of (map of todo)) ++ rest → All (λ y. P y × IsPiece (of y)) todo
          → Next of P later left found items rest
      at [] whole text within = absurd (none rest text)
      at (y ∷ ys) whole text within = record {
        item = y;
        behind = items_text true (items_of (map of ys)) ++ rest;
        keeps = (All-head (λ y. P y × IsPiece (of y)) y ys within).0;
        piece = (All-head (λ y. P y × IsPiece (of y)) y ys within).1;
        text = text ∙ opened later y ys rest;
        more = record {
          todo = ys;
          whole = whole ∙ sym (append_assoc found (y ∷ []) ys);
          text = refl;
          within = All-tail (λ y. P y × IsPiece (of y)) y ys within;
        };
      }
