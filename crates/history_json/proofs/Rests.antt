-- Values that are read one after another.
use Rattle.std.proofs.Common.{◌≡◌, List, [], ◌∷◌, ◌++◌, Option, Some, None, All, map, refl, sym, ◌∙◌, append_assoc, append-nil}
use Rattle.std.proofs.lemmas.List.Elements.{All-head, All-tail}

-- what was found is the beginning of the items that all the values stand for
pub record Rest {X Y : Type 0} (of : Y → X) (P : Y → Type 0) (left : List X) (found items : List Y) : Type 0 where
  pub rest : List Y
  pub whole : items ≡ found ++ rest
  pub stand : left ≡ map of rest
  pub within : All P rest

module _ {X Y : Type 0} (of : Y → X) (P : Y → Type 0) where
  pub rest-first : (values : List X) (items : List Y) → All P items → values ≡ map of items → Rest of P values [] items
  rest-first values items within is = record { rest = items; whole = refl; stand = is; within = within }

  or_first : Y → List Y → Y
  or_first other [] = other
  or_first other (y ∷ ys) = y

  -- the next value stands for an item, and so do those behind it
  next : (x : X) (left : List X) (found items : List Y) → Rest of P (x ∷ left) found items
      → (y : Y) × (P y × (x ≡ of y) × Rest of P left (found ++ y ∷ []) items)
  next x left found items r = at r.rest r.whole r.stand r.within
    where
      at : (rest : List Y) → items ≡ found ++ rest → x ∷ left ≡ map of rest → All P rest → (y : Y) × (P y × (x ≡ of y) × Rest of P left (found ++ y ∷ []) items)
      at [] whole stand within = absurd (cc)
      at (y ∷ ys) whole stand within = (
        y,
        (
          All-head P y ys within,
          cc,
          record {
            rest = ys;
            whole = whole ∙ sym (append_assoc found (y ∷ []) ys);
            stand = cc;
            within = All-tail P y ys within;
          },
        ),
      )

  pub rest-next : (x : X) (left : List X) (found items : List Y) (y : Y) → ((z : Y) → P z → x ≡ of z → Some y ≡ Some z)
      → Rest of P (x ∷ left) found items → Rest of P left (found ++ y ∷ []) items
  rest-next x left found items y tells r =
      let n = next x left found items r in
      let same : y ≡ n.0 = (let e = tells n.0 n.1.0 n.1.1 in cc) in
      rw same n.1.2

  pub rest-none : (x : X) (left : List X) (found items : List Y) → ((z : Y) → P z → x ≡ of z → ◌≡◌ {A = Option Y} None (Some z)) → Rest of P (x ∷ left) found items → ⊥
  rest-none x left found items tells r = let n = next x left found items r in let e = tells n.0 n.1.0 n.1.1 in cc

  pub rest-last : (found items : List Y) → Rest of P [] found items → found ≡ items
  rest-last found items r = at r.rest r.whole r.stand
    where
      at : (rest : List Y) → items ≡ found ++ rest → [] ≡ map of rest → found ≡ items
      at [] whole stand = sym (whole ∙ append-nil found)
      at (y ∷ ys) whole stand = absurd (cc)
