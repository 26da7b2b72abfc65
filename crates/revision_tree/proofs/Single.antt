-- Which grafts leave one leaf.
use Rattle.std.specs.Prelude.{◌≡◌, Bool, true, List, [], ◌∷◌}
use Rattle.std.proofs.Common.{sym, ap, subst, ◌∙◌}
use Rattle.std.proofs.lemmas.Bool.{true≢false}
use Rattle.model.specs.Body.{Body}
use Rattle.model.specs.Map.{empty}
use Rattle.model.specs.Revision.{Rev}
use Rattle.model.specs.Tree.{Tree, IsForest, among, is_leaf, knows}
use Rattle.model.specs.TreeChange.{IsPath, agrees, grafted}
use Rattle.model.proofs.TreeLaws.{IsForest-empty, leaf_known}
use Rattle.revision_tree.specs.Notes.{HasOneLeaf}
use Rattle.revision_tree.proofs.Grafts.{graft_agreed}
use Rattle.revision_tree.proofs.Kept.{one_grafted}
use Rattle.revision_tree.proofs.Leaved.{one_known}

abbrev pub LeavesOne : Tree → List Rev → Type 0
LeavesOne t path = (body : Body) (deleted : Bool) → HasOneLeaf (grafted path body deleted t)

-- a path that has each leaf
pub single_through : (t : Tree) → IsForest t → (path : List Rev) → IsPath path → agrees t path ≡ true → ((l : Rev) → is_leaf t l ≡ true → among path l ≡ true) → LeavesOne t path
single_through t f [] path h through = absurd path
single_through t f (r ∷ rs) path h through = λ body deleted. one_grafted r rs body deleted t path f (graft_agreed (r ∷ rs) body deleted t h) through

-- the first path
pub single_first : (path : List Rev) → IsPath path → agrees empty path ≡ true → LeavesOne empty path
single_first path is h = single_through empty IsForest-empty path is h (λ l leaf. absurd (true≢false (sym (leaf_known empty l leaf))))

-- a path of which the newest is known
pub single_known : (t : Tree) → IsForest t → (path : List Rev) (r : Rev) (rs : List Rev) → path ≡ r ∷ rs → IsPath path → agrees t path ≡ true → knows t r ≡ true → HasOneLeaf t → LeavesOne t path
single_known t f path r rs e is h k one = λ body deleted.
    subst (λ ps. HasOneLeaf (grafted ps body deleted t)) (sym e) (one_known t f r rs (subst IsPath e is) body deleted (ap (agrees t) (sym e) ∙ h) k one)

-- a path with the one leaf
pub single_leaf : (t : Tree) → IsForest t → (path : List Rev) → IsPath path → agrees t path ≡ true → ((l : Rev) × (is_leaf t l ≡ true) × (among path l ≡ true)) → HasOneLeaf t → LeavesOne t path
single_leaf t f path is h l one = single_through t f path is h (λ m leaf. subst (λ q. among path q ≡ true) (one l.0 m l.1 leaf) l.2)
