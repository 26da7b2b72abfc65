use Rattle.std.proofs.Common.{◌≡◌, ℕ, zero, suc, ◌+◌, List, [], ◌∷◌, ◌++◌, drop, length, Some, string_bytes, sym, ap, ◌∙◌, arith}
use Rattle.std.specs.Prelude.{slice_get}
use Rattle.std.specs.List.{flat_map}
use Rattle.std.proofs.lemmas.List.{append-nil, append_assoc}
use Rattle.std.proofs.Math.Seq.{drop-length}
use Rattle.snapshots.specs.Version.{entry_at}
use Rattle.history_dump.specs.Dump.{entry_line}
use Rattle.journal.proofs.lines.lines_above.Goals as goal

drop_one : {X : Type 0} (xs : List X) (n : ℕ) (x : X) → slice_get xs n ≡ Some x → drop n xs ≡ x ∷ drop (suc n) xs
drop_one [] n x is = absurd (cc)
drop_one (y ∷ xs) zero x is = let same : y ≡ x = cc in ap (λ z. z ∷ xs) same
drop_one (y ∷ xs) (suc n) x is = drop_one xs n x is

pub loop-before-preserved : goal.loop-before-preserved
loop-before-preserved c =
    let es = c.args.version.now.entries in
    let n = c.loop-before.before in
    let e = c.in-Some.entry.now in
    let text = string_bytes c.loop-before.text in
    let next : n + 1 ≡ suc n = omega arith in
    let more = drop_one es n e (sym (c.in-Some.ensures ∙ ap (entry_at es) next)) in
    let told : flat_map entry_line (drop n es) ≡ entry_line e ++ flat_map entry_line (drop (n + 1) es) = ap (flat_map entry_line) (more ∙ ap (λ k. e ∷ drop k es) (sym next)) in
    ap (λ t. t ++ flat_map entry_line (drop (n + 1) es)) c.in_ok-put_entry.ensures
    ∙ append_assoc text (entry_line e) (flat_map entry_line (drop (n + 1) es))
    ∙ ap (λ t. text ++ t) (sym told)
    ∙ c.loop-before.invariant

pub returns : goal.returns
returns c =
    let es = c.args.version.now.entries in
    let text = string_bytes c.loop-before.text in
    let most = c.loop-before.auto.before-end (omega (arith, c.requires, c.place-before-end.ensures.place)) in
    let last : length es ≡ c.loop-before.before = omega (arith, most, c.place-before-end.ensures.place, c.loop-before-test.false) in
    sym (append-nil text) ∙ ap (λ t. text ++ t) (sym (ap (flat_map entry_line) (drop-length es))) ∙ ap (λ k. text ++ flat_map entry_line (drop k es)) last ∙ c.loop-before.invariant
