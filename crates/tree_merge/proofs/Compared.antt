-- Two trees compared node by node.
use Rattle.std.specs.Prelude.{◌≡◌, ◌↔◌, ℕ, min, ◌&&◌, Bool, true, false, List, [], ◌∷◌, length, not, Option, Some, None, is_some, option_map, MatchOption, refl}
use Rattle.std.specs.Borrow.{Bor}
use Rattle.std.proofs.Common.{sym, ap, ◌∙◌, arith}
use Rattle.std.specs.Cmp.{both_ways}
use Rattle.std.specs.Cmp.Lexicographic.{pointwise}
use Rattle.std.proofs.lemmas.Bool.{and_right, true≢false}
use Rattle.model.specs.Body.{Body, same_body}
use Rattle.model.specs.Map.{entries}
use Rattle.model.specs.Revision.{Rev}
use Rattle.model.specs.Tree.{Tree, Revision, body_of, knows}
use Rattle.model.specs.Database.{same_tree, same_entry}
use Rattle.model.proofs.SameLaws.{same_body-equal, same_tree-equal}
use Rattle.revision_tree.specs.declared.node.Node.{Node}
use Rattle.revision_tree.specs.Nodes.{IsListOf, entry_of, entries_of}

pub same_bodies : (a b : Body) (r : Bool) → ((r ≡ true) ↔ (a ≡ b)) → r ≡ same_body a b
same_bodies a b r is = both_ways r (same_body a b) (λ e. (same_body-equal a b).1 (is.0 e)) (λ e. is.1 ((same_body-equal a b).0 e))

abbrev pub Alike : List Node → List Node → Bool
Alike xs ys = pointwise same_entry (entries_of xs) (entries_of ys)

pub compared : (s t : Tree) (xs ys : List Node) → IsListOf xs s → IsListOf ys t → same_tree s t ≡ Alike xs ys
unfolding same_tree
compared s t xs ys g h = λ i. pointwise same_entry (g.entries i) (h.entries i)

-- trees that are counted differently
pub counted_apart : (s t : Tree) (a b most : ℕ) → a ≡ min (length (entries s)) most → b ≡ min (length (entries t)) most → (a ≡ b → ⊥) → same_tree s t ≡ false
unfolding same_tree
counted_apart s t a b most e f h = long (entries s) (entries t) (λ k. h (e ∙ ap (λ n. min n most) k ∙ sym f))
  where
    long : (xs ys : List (Rev × Revision)) → (length xs ≡ length ys → ⊥) → pointwise same_entry xs ys ≡ false
    long [] [] h = absurd (h refl)
    long [] (y ∷ ys) h = refl
    long (x ∷ xs) [] h = refl
    long (x ∷ xs) (y ∷ ys) h = and_right (same_entry x y) (pointwise same_entry xs ys) (long xs ys (λ e. h (omega (arith, e))))

untrue : (b : Bool) → (b ≡ true → ⊥) → b ≡ false
untrue true h = absurd (h refl)
untrue false h = refl

-- trees of which one alone has a revision
pub known_in_one : (s t : Tree) (r : Rev) → knows s r ≡ true → knows t r ≡ false → same_tree s t ≡ false
known_in_one s t r known unknown = untrue (same_tree s t) (λ e. true≢false (sym known ∙ ap (λ u. knows u r) ((same_tree-equal s t).0 e) ∙ unknown))

-- or a body for it
pub kept_in_one : (s t : Tree) (r : Rev) → is_some (body_of s r) ≡ true → is_some (body_of t r) ≡ false → same_tree s t ≡ false
kept_in_one s t r some none = untrue (same_tree s t) (λ e. true≢false (sym some ∙ ap (λ u. is_some (body_of u r)) ((same_tree-equal s t).0 e) ∙ none))

pub some_of : {X Y : Type 0} (f : X → Y) (o : Option X) → is_some (option_map f o) ≡ is_some o
some_of f None = refl
some_of f (Some x) = refl

pub alike_next : (xs ys ms ns : List Node) (m n : Node) → xs ≡ m ∷ ms → ys ≡ n ∷ ns → Alike xs ys ≡ (same_entry (entry_of m) (entry_of n) && Alike ms ns)
alike_next xs ys ms ns m n e f = λ i. Alike (e i) (f i)

pub alike_short : (xs ys ms : List Node) (m : Node) → xs ≡ m ∷ ms → ys ≡ [] → Alike xs ys ≡ false
alike_short xs ys ms m e f = λ i. Alike (e i) (f i)

pub alike_ends : (xs ys : List Node) → xs ≡ [] → ys ≡ [] → Alike xs ys ≡ true
alike_ends xs ys e f = λ i. Alike (e i) (f i)

pub alike_longer : (xs ys ns : List Node) (n : Node) → xs ≡ [] → ys ≡ n ∷ ns → Alike xs ys ≡ false
alike_longer xs ys ns n e f = λ i. Alike (e i) (f i)

pub other_of : (b : Bool) → true ≡ not b → b ≡ false
other_of true e = absurd (true≢false e)
other_of false e = refl

none_of : (b : Bool) → false ≡ not b → b ≡ true
none_of true e = refl
none_of false e = absurd (true≢false (sym e))

-- at the end of one, whether the other ends too
pub alike_last : (xs ys zs : List Node) (o : Option (Bor Node)) (b : Bool) → xs ≡ [] → is_some o ≡ not b → MatchOption o ((ys ≡ []) × (zs ≡ [])) (λ n. ys ≡ n.now ∷ zs) → b ≡ Alike xs ys
alike_last xs ys zs None b e is h = none_of b is ∙ sym (alike_ends xs ys e h.0)
alike_last xs ys zs (Some n) b e is h = other_of b is ∙ sym (alike_longer xs ys zs n.now e h)
