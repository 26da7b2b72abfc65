-- One edit or merge of a list after another.
use Rattle.std.specs.Prelude.{◌≡◌, ◌+◌, suc, ◌<◌, ◌≤◌, ◌++◌, true, false, cond, ℕ, List, [], ◌∷◌, length, option_map, unwrap_or, Result, Ok, Err}
use Rattle.std.proofs.Common.{arith, sym, ap, ◌∙◌, add-one, append_assoc, get_or, drop, drop-cons}
use Rattle.model.specs.Revision.{Rev}
use Rattle.model.specs.Command.{Id, Edit, Merge}
use Rattle.model.specs.declared.refusal.Refusal.{Refusal}
use Rattle.model.specs.Edit.{Written, revision_written}
use Rattle.model.specs.Database.{Database, tree_at, same_tree, with_tree, store, store_written, edit_in, merge_in, after_edit, after_edits, edit_replies, after_merge, after_merges, merge_replies}

-- a write gives at most one update number
few-store_written : (d : Database) (id : Id) (w : Result Written Refusal) → (store_written d id w).update_seq ≤ d.update_seq + 1
unfolding store
few-store_written d id (Err f) = omega arith
few-store_written d id (Ok w) = elim (unwrap_or (option_map (same_tree w.tree) (tree_at d id)) false) as (λ b. (cond b d (with_tree d id w.tree)).update_seq ≤ d.update_seq + 1) [ true ↦ omega arith | false ↦ omega arith ]

pub few-after_edit : (d : Database) (e : Edit) → (after_edit d e).update_seq ≤ d.update_seq + 1
few-after_edit d e = few-store_written d e.id (edit_in d e)

pub few-after_merge : (d : Database) (m : Merge) → (after_merge d m).update_seq ≤ d.update_seq + 1
few-after_merge d m = few-store_written d m.id (merge_in d m)

pub few-after_edits : (d : Database) (es : List Edit) → (after_edits d es).update_seq ≤ d.update_seq + length es
few-after_edits d [] = omega arith
few-after_edits d (e ∷ es) = omega (arith, few-after_edit d e, few-after_edits (after_edit d e) es)

pub few-after_merges : (d : Database) (ms : List Merge) → (after_merges d ms).update_seq ≤ d.update_seq + length ms
few-after_merges d [] = omega arith
few-after_merges d (m ∷ ms) = omega (arith, few-after_merge d m, few-after_merges (after_merge d m) ms)

-- ---- what is left of a list after one more

drop-next : {X : Type 0} (xs : List X) (i : ℕ) (x : X) → i < length xs → x ≡ get_or xs i x → drop i xs ≡ x ∷ drop (i + 1) xs
drop-next xs i x lt is = rw add-one (drop-cons xs i x lt ∙ ap (λ y. y ∷ drop (suc i) xs) (sym is))

module _ (es : List Edit) (i : ℕ) (e : Edit) (d later : Database) (lt : i < length es) (is : e ≡ get_or es i e) (step : later ≡ after_edit d e) where
  pub after_edits-next : after_edits later (drop (i + 1) es) ≡ after_edits d (drop i es)
  after_edits-next = ap (λ x. after_edits x (drop (i + 1) es)) step ∙ ap (after_edits d) (sym (drop-next es i e lt is))

  pub edit_replies-next : (rs : List (Result Rev Refusal)) (r : Result Rev Refusal) → r ≡ revision_written (edit_in d e) → (rs ++ r ∷ []) ++ edit_replies later (drop (i + 1) es) ≡ rs ++ edit_replies d (drop i es)
  edit_replies-next rs r reply =
      append_assoc rs (r ∷ []) (edit_replies later (drop (i + 1) es))
      ∙ ap (λ x. rs ++ x ∷ edit_replies later (drop (i + 1) es)) reply
      ∙ ap (λ x. rs ++ revision_written (edit_in d e) ∷ edit_replies x (drop (i + 1) es)) step
      ∙ ap (λ x. rs ++ edit_replies d x) (sym (drop-next es i e lt is))

module _ (ms : List Merge) (i : ℕ) (m : Merge) (d later : Database) (lt : i < length ms) (is : m ≡ get_or ms i m) (step : later ≡ after_merge d m) where
  pub after_merges-next : after_merges later (drop (i + 1) ms) ≡ after_merges d (drop i ms)
  after_merges-next = ap (λ x. after_merges x (drop (i + 1) ms)) step ∙ ap (after_merges d) (sym (drop-next ms i m lt is))

  pub merge_replies-next : (rs : List (Result Rev Refusal)) (r : Result Rev Refusal) → r ≡ revision_written (merge_in d m) → (rs ++ r ∷ []) ++ merge_replies later (drop (i + 1) ms) ≡ rs ++ merge_replies d (drop i ms)
  merge_replies-next rs r reply =
      append_assoc rs (r ∷ []) (merge_replies later (drop (i + 1) ms))
      ∙ ap (λ x. rs ++ x ∷ merge_replies later (drop (i + 1) ms)) reply
      ∙ ap (λ x. rs ++ revision_written (merge_in d m) ∷ merge_replies x (drop (i + 1) ms)) step
      ∙ ap (λ x. rs ++ merge_replies d x) (sym (drop-next ms i m lt is))
