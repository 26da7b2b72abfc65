use Rattle.std.proofs.Common.{◌≡◌, suc, ◌+◌, [], ◌∷◌, ◌++◌, take, string_bytes, sym, ap, ◌∙◌, arith}
use Rattle.std.specs.List.{flat_map}
use Rattle.std.proofs.lemmas.List.{append-nil, append_assoc}
use Rattle.std.proofs.lemmas.List.Concat.{flat_map-append}
use Rattle.snapshots.specs.Version.{entry_at}
use Rattle.history_dump.specs.Dump.{entry_line}
use Rattle.history_dump.proofs.Taken.{taken_one}
use Rattle.history_dump.proofs.dumps.put_entries.Goals as goal

pub loop-before-preserved : goal.loop-before-preserved
loop-before-preserved c =
    let es = c.args.version.now.entries in
    let n = c.loop-before.before in
    let e = c.in-Some.entry.now in
    let next : n + 1 ≡ suc n = omega arith in
    let more = taken_one es n e (sym (c.in-Some.ensures ∙ ap (entry_at es) next)) in
    let told = ap (flat_map entry_line) (ap (λ k. take k es) next ∙ more) ∙ flat_map-append entry_line (take n es) (e ∷ []) ∙ ap (λ t. flat_map entry_line (take n es) ++ t) (append-nil (entry_line e)) in
    c.in_ok-put_entry.ensures ∙ ap (λ t. t ++ entry_line e) c.loop-before.invariant
    ∙ append_assoc (string_bytes c.args.text.now) (flat_map entry_line (take n es)) (entry_line e)
    ∙ ap (λ t. string_bytes c.args.text.now ++ t) (sym told)
