-- Named revisions of which none is a leaf.
use Rattle.std.specs.Prelude.{◌≡◌, ℕ, ◌+◌, ◌<◌, Bool, true, false, ◌||◌, List, [], ◌∷◌, ◌++◌, length, get_or, take}
use Rattle.std.proofs.Common.{sym, ap, ◌∙◌}
use Rattle.std.proofs.lemmas.Bool.{true≢false}
use Rattle.std.proofs.lemmas.List.{take_more}
use Rattle.std.proofs.lemmas.List.Folds.{list_any-append}
use Rattle.model.specs.Revision.{Rev, same_rev, same_rev-equal}
use Rattle.model.specs.Tree.{Tree, among, is_leaf}
use Rattle.model.proofs.ListLaws.{by_cases}

neither : (a b : Bool) → a ≡ false → b ≡ false → (a || (b || false)) ≡ false
neither a b e f = λ i. e i || (f i || false)

pub not_among_more : (t : Tree) (named : List Rev) (i : ℕ) (q r : Rev) → i < length named → q ≡ get_or named i q → is_leaf t q ≡ false → is_leaf t r ≡ true → among (take i named) r ≡ false → among (take (i + 1) named) r ≡ false
not_among_more t named i q r lt is outer leaf before =
    let apart : same_rev r q ≡ false = by_cases (same_rev r q) (λ e. absurd (true≢false (sym leaf ∙ ap (is_leaf t) ((same_rev-equal r q).0 e) ∙ outer))) (λ e. e) in
    ap (λ rs. among rs r) (take_more named i q lt ∙ ap (λ x. take i named ++ x ∷ []) (sym is)) ∙ list_any-append (same_rev r) (take i named) (q ∷ []) ∙ neither (among (take i named) r) (same_rev r q) before apart
