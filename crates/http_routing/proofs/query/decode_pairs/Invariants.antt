use Rattle.std.proofs.Common.{◌≡◌, ◌++◌, map}
use Rattle.form_urlencoded.specs.Parse.{raw_pairs_left}
use Rattle.http_routing.specs.Pairs.{pair_texts}
use Rattle.http_routing.specs.Query.{decoded_pair, parameters_of}
use Rattle.http_routing.proofs.query.decode_pairs.Given as goal

abbrev pub invariant-loop-name : goal.invariant-loop-name
invariant-loop-name l =
    (goal.iterator-loop-name).can_next l.name-iterator
    × (goal.iterator-loop-name).is_finite l.name-iterator
    × (map pair_texts l.pairs.items ++ map decoded_pair (raw_pairs_left l.name-iterator) ≡ parameters_of l.fn.query)
