-- A string with nothing to escape is written as it stands.
use Rattle.std.proofs.Common.{◌≡◌, ℕ, List, [], ◌∷◌, ◌++◌, true, ◌==◌, refl, sym, ap, ◌∙◌}
use Rattle.std.specs.List.{list_all}
use Rattle.std.specs.Prelude.{not}
use Rattle.std.proofs.lemmas.Bool.{and_parts, true≢false, leb-true, eq-eqb}
use Rattle.json.specs.Print.{escape, quoted}
use Rattle.json.proofs.Printed.Strings.{escape_byte_plain}
use Rattle.document_json.specs.Text.{is_unescaped}

-- a test that fails shows that its two sides differ
differ : (x y : ℕ) → not (x == y) ≡ true → x ≡ y → ⊥
differ x y h is = true≢false (sym h ∙ ap not (eq-eqb x y is))

escape-unescaped : (s : List ℕ) → list_all is_unescaped s ≡ true → escape s ≡ s
escape-unescaped [] h = refl
escape-unescaped (x ∷ s) h =
    let tests = and_parts _ _ h in
    let last = and_parts _ _ tests.0 in
    let first = and_parts _ _ last.0 in
    ap (λ t. t ++ escape s) (escape_byte_plain x (differ x 34 first.1) (differ x 92 last.1) (leb-true 32 x first.0))
    ∙ ap (λ t. x ∷ t) (escape-unescaped s tests.1)

pub quoted-unescaped : (s : List ℕ) → list_all is_unescaped s ≡ true → 34 ∷ (s ++ 34 ∷ []) ≡ quoted s
quoted-unescaped s h = ap (λ t. 34 ∷ (t ++ 34 ∷ [])) (sym (escape-unescaped s h))
