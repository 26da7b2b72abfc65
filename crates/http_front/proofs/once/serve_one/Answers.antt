use Rattle.std.proofs.Common.{◌≡◌, List, [], ◌∷◌, ◌++◌, ap, arith, length, ◌∙◌}
use Rattle.std.proofs.lemmas.List.FromFn.{length-map-range_with_len}
use Rattle.http_front.proofs.Servers.{serves_database, none_left, popped_fresh}
use Rattle.model.specs.World.{Config}
use Rattle.sessions.specs.Known.{Known, fresh}
use Rattle.http_front.proofs.once.serve_one.Goals as goal

pub end-requires : goal.end-requires
end-requires g c =
    let opened = c.in-Some.sessions in
    let one = ap (λ (config : Config). config.sessions) c.requires.config in
    let count : length opened.items ≡ c.args.opened.config.sessions = ap length c.in-Some.ensures.sessions ∙ length-map-range_with_len fresh 0 c.args.opened.config.sessions in
    let left = none_left opened.items _ _ opened.len c.in-Some.ensures.sessions one opened.ok.0 c.in-Some-pop.ensures.rest in
    let back = c.push_reserved.ensures.items ∙ ap (λ (xs : List Known). xs ++ c.serve-ended.new.session ∷ []) left in
    let all = ap length back in
    record { all = omega (arith, all, one, c.requires.named.sessions_is); room = (c.in-Some.ensures.room.0, omega (arith, all, count, one, c.in-Some.ensures.room.1)) }

pub returns-clause-served : goal.returns-clause-served
returns-clause-served g c =
    let named = c.requires.named in
    let opened = c.in-Some.sessions in
    let one = ap (λ (config : Config). config.sessions) c.requires.config in
    let first = popped_fresh opened.items _ opened.len c.in-Some-pop.session c.in-Some.ensures.sessions one opened.ok.0 (λ d within. c.in-Some-pop.ensures.value d within) in
    let left = none_left opened.items _ _ opened.len c.in-Some.ensures.sessions one opened.ok.0 c.in-Some-pop.ensures.rest in
    let back = c.push_reserved.ensures.items ∙ ap (λ (xs : List Known). xs ++ c.serve-ended.new.session ∷ []) left in
    serves_database g.J.Naming.base g.J.Opening.config c.args.opened.config _ _ _ _ _ _ _ _ _ named.config_is named.sessions_is named.capacity_is _ c.requires.config first _ c.in-Some.ensures.turns c.serve-ended.ensures.connection back c.end.ensures.end
