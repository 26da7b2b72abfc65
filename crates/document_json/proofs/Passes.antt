-- A check of each of some values, step by step.
use Rattle.std.proofs.Common.{◌≡◌, List, [], ◌∷◌, ◌++◌, Ok, Err, sym, ap, ◌∙◌, refl}
use Rattle.std.proofs.lemmas.List.{append-nil, append_assoc}
use Rattle.document_json.specs.Steps.{Checked, Decides, and_then}
use Rattle.document_json.specs.Each.{DecidesEach, each}
use Rattle.document_json.specs.declared.fault.Fault.{Fault}
use Rattle.document_json.specs.declared.fault.Fault.TheVariants.{Refused, Memory}

-- what was found so far, and what is found of the rest
abbrev pub after : {Y : Type 0} → List Y → Checked (List Y) → Checked (List Y)
after ys rest = and_then rest (λ zs. Ok (ys ++ zs))

after-none : {Y : Type 0} (rest : Checked (List Y)) → after [] rest ≡ rest
after-none (Ok zs) = refl
after-none (Err why) = refl

after-one : {Y : Type 0} (ys : List Y) (y : Y) (rest : Checked (List Y)) → after (ys ++ y ∷ []) rest ≡ after ys (and_then rest (λ zs. Ok (y ∷ zs)))
after-one ys y (Ok zs) = ap Ok (append_assoc ys (y ∷ []) zs)
after-one ys y (Err why) = refl

module _ {X Y : Type 0} (check : X → Checked Y) where
  -- nothing was looked at
  pub each-first : (xs : List X) → after [] (each check xs) ≡ each check xs
  each-first xs = after-none (each check xs)

  -- all was looked at
  pub each-last : (ys : List Y) → after ys (each check []) ≡ Ok ys
  each-last ys = ap Ok (append-nil ys)

  -- of the next a value is found
  pub each-next : (ys : List Y) (x : X) (xs : List X) (y : Y) → check x ≡ Ok y → after (ys ++ y ∷ []) (each check xs) ≡ after ys (each check (x ∷ xs))
  each-next ys x xs y h =
      after-one ys y (each check xs)
      ∙ ap (λ found. after ys (and_then found (λ z. and_then (each check xs) (λ zs. Ok (z ∷ zs))))) (sym h)

  -- the next is refused
  pub each-refused : (fault : Fault) (ys : List Y) (x : X) (xs : List X) → Decides {X = Y} (Err fault) (check x) → DecidesEach {Y = Y} (Err fault) (after ys (each check (x ∷ xs)))
  each-refused (Refused why) ys x xs h = ap (λ found. after ys (and_then found (λ z. and_then (each check xs) (λ zs. Ok (z ∷ zs))))) h
  each-refused Memory ys x xs h = tt
