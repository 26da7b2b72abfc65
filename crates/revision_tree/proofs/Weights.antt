-- Each step of a stem leaves fewer revisions or fewer links.
use Rattle.std.specs.Prelude.{◌≡◌, ℕ, suc, ◌+◌, ◌<◌, ◌≤◌, Bool, true, false, not, List, [], ◌∷◌, Contains, Option, Some, None, is_some, option_and_then, if◌then◌else◌, refl}
use Rattle.std.proofs.Common.{sym, ap, subst, ◌∙◌, ⊎_elim, arith}
use Rattle.std.proofs.lemmas.Bool.{true≢false}
use Rattle.model.specs.Map.{entries, same_key_itself, refine_list}
use Rattle.model.specs.Revision.{Rev, revs, same_rev}
use Rattle.model.specs.Tree.{Tree, Revision, knows, parent_of}
use Rattle.model.specs.TreeChange.{restrict}
use Rattle.model.proofs.ListLaws.{Contains-cons_cases}
use Rattle.model.proofs.MapLaws.{Contains-entries}
use Rattle.model.proofs.TreeLaws.{known_of, knows_child}
use Rattle.revision_runs.specs.Changes.{orphaned}
use Rattle.revision_tree.specs.Stems.{weight, weight_of}
use Rattle.revision_tree.specs.Trimmed.{is_other}
use Rattle.revision_tree.proofs.Trimmed.{entries_other, kept}

-- ---- a link that goes

abbrev bared : Rev → Rev → Revision → Option Revision
bared c q v = Some (if same_rev q c then record v { parent = None } else v)

entries_orphaned : (c : Rev) (t : Tree) → entries (orphaned c t) ≡ refine_list revs (bared c) (entries t)
unfolding orphaned
entries_orphaned c t = refl

bared_part : (b : Bool) (v : Revision) → (if is_some (if b then record v { parent = None } else v).parent then 1 else 0) ≤ (if is_some v.parent then 1 else 0)
bared_part true v = omega arith
bared_part false v = omega arith

bared_most : (c : Rev) (es : List (Rev × Revision)) → weight_of (refine_list revs (bared c) es) ≤ weight_of es
bared_most c [] = omega arith
bared_most c (e ∷ es) = let head = bared_part (same_rev e.0 c) e.1 in let rest = bared_most c es in omega (arith, head, rest)

abbrev one_if : Bool → ℕ
one_if b = if b then 1 else 0

bared_head : (b : Bool) (v : Revision) (p : Rev) → b ≡ true → v.parent ≡ Some p → (if is_some (if b then record v { parent = None } else v).parent then 1 else 0) < (if is_some v.parent then 1 else 0)
bared_head b v p here up =
    let before : ◌≡◌ {A = ℕ} (if is_some v.parent then 1 else 0) 1 = ap (λ (o : Option Rev). one_if (is_some o)) up in
    let after : ◌≡◌ {A = ℕ} (if is_some (if b then record v { parent = None } else v).parent then 1 else 0) 0 = ap (λ (x : Bool). one_if (is_some (if x then record v { parent = None } else v).parent)) here in
    omega (arith, before, after)

bared_less : (c p : Rev) (v : Revision) (es : List (Rev × Revision)) → v.parent ≡ Some p → Contains es (c, v) → weight_of (refine_list revs (bared c) es) < weight_of es
bared_less c p v [] up listed = absurd (omega (arith, listed.1))
bared_less c p v (e ∷ es) up listed = ⊎_elim
    (λ here.
    let same : same_rev e.0 c ≡ true = subst (λ (x : Rev × Revision). same_rev x.0 c ≡ true) (sym here) (same_key_itself revs c) in
    let parent : e.1.parent ≡ Some p = ap (λ (x : Rev × Revision). x.1.parent) here ∙ up in
    let head = bared_head (same_rev e.0 c) e.1 p same parent in
    let rest = bared_most c es in
    omega (arith, head, rest))
    (λ later.
    let head = bared_part (same_rev e.0 c) e.1 in
    let rest = bared_less c p v es up later in
    omega (arith, head, rest))
    (Contains-cons_cases e es (c, v) listed)

pub orphaned_less : (t : Tree) (c p : Rev) → parent_of t c ≡ Some p → weight (orphaned c t) < weight t
orphaned_less t c p up =
    let k = known_of t c (knows_child t c p up) in
    let at : k.revision.parent ≡ Some p = sym (ap (option_and_then (λ (w : Revision). w.parent)) k.got) ∙ up in
    subst (λ es. weight_of es < weight t) (sym (entries_orphaned c t)) (bared_less c p k.revision (entries t) at ((Contains-entries revs t c k.revision).1 k.got))

-- ---- a revision that goes

apart_part : (r : Rev) (o : Option Rev) → (if is_some (option_and_then (λ p. if is_other r p then Some p else None) o) then 1 else 0) ≤ (if is_some o then 1 else 0)
apart_part r None = omega arith
apart_part r (Some p) = at (is_other r p)
  where
    at : (b : Bool) → (if is_some (if b then Some p else None) then 1 else 0) ≤ 1
    at true = omega arith
    at false = omega arith

weight_kept : (r q : Rev) (v : Revision) (b : Bool) (more : List (Rev × Revision)) (n : ℕ) → weight_of more ≤ n
    → weight_of (elim (if b then Some (record v { parent = option_and_then (λ p. if is_other r p then Some p else None) v.parent }) else None) [ None ↦ more | Some y ↦ (q, y) ∷ more ]) ≤ suc ((if is_some v.parent then 1 else 0) + n)
weight_kept r q v true more n le = let part = apart_part r v.parent in omega (arith, part, le)
weight_kept r q v false more n le = omega (arith, le)

kept_most : (r : Rev) (es : List (Rev × Revision)) → weight_of (refine_list revs (kept r) es) ≤ weight_of es
kept_most r [] = omega arith
kept_most r (e ∷ es) = weight_kept r e.0 e.1 (is_other r e.0) (refine_list revs (kept r) es) (weight_of es) (kept_most r es)

weight_gone : (r q : Rev) (v : Revision) (b : Bool) → b ≡ false → (more : List (Rev × Revision)) (n : ℕ) → weight_of more ≤ n
    → weight_of (elim (if b then Some (record v { parent = option_and_then (λ p. if is_other r p then Some p else None) v.parent }) else None) [ None ↦ more | Some y ↦ (q, y) ∷ more ]) < suc ((if is_some v.parent then 1 else 0) + n)
weight_gone r q v true e more n le = absurd (true≢false e)
weight_gone r q v false e more n le = omega (arith, le)

weight_later : (r q : Rev) (v : Revision) (b : Bool) (more : List (Rev × Revision)) (n : ℕ) → weight_of more < n
    → weight_of (elim (if b then Some (record v { parent = option_and_then (λ p. if is_other r p then Some p else None) v.parent }) else None) [ None ↦ more | Some y ↦ (q, y) ∷ more ]) < suc ((if is_some v.parent then 1 else 0) + n)
weight_later r q v true more n lt = let part = apart_part r v.parent in omega (arith, part, lt)
weight_later r q v false more n lt = omega (arith, lt)

kept_less : (r : Rev) (v : Revision) (es : List (Rev × Revision)) → Contains es (r, v) → weight_of (refine_list revs (kept r) es) < weight_of es
kept_less r v [] listed = absurd (omega (arith, listed.1))
kept_less r v (e ∷ es) listed = ⊎_elim
    (λ here.
    let off : is_other r e.0 ≡ false = ap not (subst (λ (x : Rev × Revision). same_rev r x.0 ≡ true) (sym here) (same_key_itself revs r)) in
    weight_gone r e.0 e.1 (is_other r e.0) off (refine_list revs (kept r) es) (weight_of es) (kept_most r es))
    (λ later. weight_later r e.0 e.1 (is_other r e.0) (refine_list revs (kept r) es) (weight_of es) (kept_less r v es later))
    (Contains-cons_cases e es (r, v) listed)

pub dropped_less : (t : Tree) (r : Rev) → knows t r ≡ true → weight (restrict (is_other r) t) < weight t
dropped_less t r k =
    let x = known_of t r k in
    subst (λ es. weight_of es < weight t) (sym (entries_other r t)) (kept_less r x.revision (entries t) ((Contains-entries revs t r x.revision).1 x.got))
