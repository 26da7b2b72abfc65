use Rattle.std.proofs.Common.{◌≡◌, ◌-◌, ◌<◌, ◌≤◌, ◌∷◌, ◌++◌, [], ◌∙◌, length, ap, sym, rules}
use Rattle.std.specs.Prelude.{string_bytes}
use Rattle.replicator_http.proofs.Queues.{pushed}
use Rattle.replicator_http.proofs.ahead.Ahead.push.Goals as goal

pub invariant_of-self-2 : goal.invariant_of-self-2
invariant_of-self-2 c =
    let items = c.self.inside.requests.items in
    let text = string_bytes c.args.request in
    let len : c.len-len.result ≡ length text = c.len-len.ensures ∙ sym c.as_bytes.ensures.len ∙ ap length c.as_bytes.ensures.value in
    let few : length items < 100 = search rules in
    let small : c.len-len.result ≤ 16384 - c.self.inside.bytes = search rules in
    let same : c.push_back.new.self.items ≡ items ++ text ∷ [] = search rules in
    pushed items c.push_back.new.self.items text c.self.inside.bytes c.len-len.result c.self.invariant len few small same

pub returns-clause-within : goal.returns-clause-within
returns-clause-within c =
    let items = c.self.inside.requests.items in
    let text = string_bytes c.args.request in
    let len : c.len-len.result ≡ length text = c.len-len.ensures ∙ sym c.as_bytes.ensures.len ∙ ap length c.as_bytes.ensures.value in
    let few : length items < 100 = search rules in
    let small : c.len-len.result ≤ 16384 - c.self.inside.bytes = search rules in
    let same : c.push_back.new.self.items ≡ items ++ text ∷ [] = search rules in
    (pushed items c.push_back.new.self.items text c.self.inside.bytes c.len-len.result c.self.invariant len few small same).1
