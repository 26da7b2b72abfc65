-- Beginnings of lists.
use Rattle.std.proofs.Common.{List, ◌++◌, [], ap, sym, ◌∙◌, append_assoc}
use Rattle.std.proofs.lemmas.List.{append-nil}
use mathlib.Core.List.{IsPrefix}
use Rattle.model.specs.Command.{Entry}

pub begins_itself : (xs : List Entry) → IsPrefix xs xs
begins_itself xs = ([], append-nil xs)

pub begins_then : (xs ys zs : List Entry) → IsPrefix xs ys → IsPrefix ys zs → IsPrefix xs zs
begins_then xs ys zs p q = (p.0 ++ q.0, sym (append_assoc xs p.0 q.0) ∙ (ap (λ (w : List Entry). w ++ q.0) p.1 ∙ q.1))
