-- A strip keeps what is shown of a tree's leaves, but for which of their ancestors have a body.
use Rattle.std.specs.Prelude.{◌≡◌, ℕ, zero, suc, true, false, not, List, [], ◌∷◌, drop, map, filter, All, Contains, Option, Some, None, option_map, unwrap_or, ok_or, Err, if◌then◌else◌, refl}
use Rattle.std.proofs.Common.{sym, ap, ◌∙◌}
use Rattle.std.proofs.lemmas.Bool.{cond-true}
use Rattle.std.proofs.lemmas.List.Elements.{All-head, All-tail, All-weaker, All-contains_itself}
use Rattle.model.specs.Lists.{first_of}
use Rattle.model.specs.Body.{Body}
use Rattle.model.specs.Revision.{Rev}
use Rattle.model.specs.Tree.{Tree, Leaf, body_of, is_leaf, leaves, winner, revs_of, upward, path_of}
use Rattle.model.specs.TreeChange.{strip}
use Rattle.model.specs.Command.{Id}
use Rattle.model.specs.Query.{Options, Status, IsMissing, WasDeleted}
use Rattle.model.specs.Database.{Database, tree_at, compacted}
use Rattle.model.specs.Documents.{document, status_of, stored, of_winner, found_in, found, opened_at, opened_in, opened}
use Rattle.model.proofs.LeafLaws.{Contains-leaves, winner-greatest}
use Rattle.model.proofs.StripLaws.{knows-strip, parent_of-strip, is_deleted-strip, body_of-strip, leaves-strip}
use Rattle.model.proofs.UnseenLaws.{tree_at-compacted}

upward-strip : (t : Tree) (n : ℕ) (o : Option Rev) → upward (strip t) n o ≡ upward t n o
upward-strip t zero o = refl
upward-strip t (suc n) None = refl
upward-strip t (suc n) (Some r) = ap (λ rs. r ∷ rs) (ap (upward (strip t) n) (parent_of-strip t r) ∙ upward-strip t n _)

path_of-strip : (t : Tree) (r : Rev) → path_of (strip t) r ≡ path_of t r
path_of-strip t r = λ i. if knows-strip t r i then upward-strip t r.generation (Some r) i else []

module _ (id : Id) (t : Tree) (options : Options) (plain : options.revs_info ≡ false) where
  document-strip : (r : Rev) (body : Body) → document id (strip t) options r body ≡ document id t options r body
  unfolding document
  document-strip r body = λ i. record {
    id = id;
    rev = r;
    deleted = is_deleted-strip t r i;
    body = body;
    revisions = if options.revs then Some (path_of-strip t r i) else None;
    revs_info = none i;
    conflicts = if options.conflicts then revs_of (filter (λ l. not l.deleted) (drop 1 (leaves-strip t i))) else [];
    deleted_conflicts = if options.deleted_conflicts then revs_of (filter (λ l. l.deleted) (drop 1 (leaves-strip t i))) else [];
  }
    where
      of_tree : Tree → Option (List (Rev × Status))
      of_tree u = Some (map (λ a. (a, status_of u a)) (path_of u r))

      none : (if options.revs_info then of_tree (strip t) else None) ≡ (if options.revs_info then of_tree t else None)
      none = ap (λ b. if b then of_tree (strip t) else None) plain ∙ ap (λ b. if b then of_tree t else None) (sym plain)

  stored-strip : (r : Rev) → is_leaf t r ≡ true → stored id (strip t) options r ≡ stored id t options r
  stored-strip r leaf = ap (option_map (document id (strip t) options r)) (body_of-strip t r ∙ cond-true _ _ None leaf) ∙ (λ i. option_map (λ b. document-strip r b i) (body_of t r))

  found-strip : found_in id options None (strip t) ≡ found_in id options None t
  found-strip = ap (of_winner id (strip t) options) (ap first_of (leaves-strip t)) ∙ at (winner t) refl
    where
      at : (o : Option Leaf) → winner t ≡ o → of_winner id (strip t) options o ≡ of_winner id t options o
      at None e = refl
      at (Some w) e = ap (λ o. if w.deleted then Err WasDeleted else ok_or o IsMissing) (stored-strip w.rev ((winner-greatest t w).0 e).leaf.leaf)

  opened-strip : opened_in id options None (strip t) ≡ opened_in id options None t
  opened-strip = ap (λ ls. map (opened_at id (strip t) options) (revs_of ls)) (leaves-strip t) ∙ each (leaves t) (All-weaker (Contains (leaves t)) (λ l. is_leaf t l.rev ≡ true) (λ l c. ((Contains-leaves t l).0 c).leaf) (leaves t) (All-contains_itself (leaves t)))
    where
      each : (ls : List Leaf) → All (λ l. is_leaf t l.rev ≡ true) ls → map (opened_at id (strip t) options) (revs_of ls) ≡ map (opened_at id t options) (revs_of ls)
      each [] h = refl
      each (l ∷ ls) h = λ i. ok_or (stored-strip l.rev (All-head (λ k. is_leaf t k.rev ≡ true) l ls h) i) l.rev ∷ each ls (All-tail (λ k. is_leaf t k.rev ≡ true) l ls h) i

module _ (d : Database) (id : Id) (options : Options) (plain : options.revs_info ≡ false) where
  pub found-compacted : found (compacted d) id None options ≡ found d id None options
  found-compacted = ap (λ o. unwrap_or (option_map (found_in id options None) o) (Err IsMissing)) (tree_at-compacted d id) ∙ at (tree_at d id)
    where
      at : (o : Option Tree) → unwrap_or (option_map (found_in id options None) (option_map strip o)) (Err IsMissing) ≡ unwrap_or (option_map (found_in id options None) o) (Err IsMissing)
      at None = refl
      at (Some t) = found-strip id t options plain

  pub opened-compacted : opened (compacted d) id None options ≡ opened d id None options
  opened-compacted = ap (λ o. unwrap_or (option_map (opened_in id options None) o) []) (tree_at-compacted d id) ∙ at (tree_at d id)
    where
      at : (o : Option Tree) → unwrap_or (option_map (opened_in id options None) (option_map strip o)) [] ≡ unwrap_or (option_map (opened_in id options None) o) []
      at None = refl
      at (Some t) = opened-strip id t options plain
