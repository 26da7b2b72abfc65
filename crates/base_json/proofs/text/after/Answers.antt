use Rattle.std.proofs.Common.{◌≡◌, ℕ, List, [], ◌∷◌, ◌++◌, length, take, drop, true≢false, refl, sym, ap, ◌∙◌}
use Rattle.base_json.proofs.text.after.Goals as goal

taken : (front rest : List ℕ) → take (length front) (front ++ rest) ≡ front
taken [] rest = refl
taken (x ∷ front) rest = ap (λ t. x ∷ t) (taken front rest)

dropped : (front rest : List ℕ) → drop (length front) (front ++ rest) ≡ rest
dropped [] rest = refl
dropped (x ∷ front) rest = dropped front rest

pub returns-then-not-are_same-clause-found : goal.returns-then-not-are_same-clause-found
returns-then-not-are_same-clause-found c = λ rest is.
    let begin : c.split_at.result.0.now ≡ c.as_bytes.result.now = c.split_at.ensures.front ∙ ap (take (length c.args.front.now)) is ∙ taken c.args.front.now rest ∙ sym c.as_bytes.ensures.value in
    absurd (true≢false (sym (c.if-not-are_same.ensures.1 begin)))
