use Rattle.std.proofs.Common.{◌≡◌, ◌∙◌, Bool, map, Some, None, option_map, codes, ap, sym}
use Rattle.std.specs.List.{find}
use Rattle.httparse.specs.Spans.{header_bytes}
use Rattle.http_framing.specs.Headers.{Header, is_named}
use Rattle.origin_policy.specs.Verdict.{admitted, page_admitted}
use Rattle.origin_policy.proofs.Decisions.{find-map}
use Rattle.origin_policy.proofs.judging.admit.Goals as goal

pub returns-in-Some : goal.returns-in-Some
returns-in-Some c =
    let named : Header → Bool = is_named (codes "origin") in
    let all = map (header_bytes c.args.bytes.now) c.args.headers.now in
    let found : find named all ≡ Some (header_bytes c.args.bytes.now c.in-Some.header.now) =
    find-map named (header_bytes c.args.bytes.now) c.args.headers.now ∙ ap (option_map (header_bytes c.args.bytes.now)) (sym c.in-Some.ensures.found) in
    c.admit_page.ensures ∙ ap (page_admitted c.args.method.now all) c.of.ensures ∙ sym (ap (admitted c.args.method.now all) found)

pub returns-in-None : goal.returns-in-None
returns-in-None c =
    let named : Header → Bool = is_named (codes "origin") in
    let all = map (header_bytes c.args.bytes.now) c.args.headers.now in
    let found : find named all ≡ None =
    find-map named (header_bytes c.args.bytes.now) c.args.headers.now ∙ ap (option_map (header_bytes c.args.bytes.now)) (sym c.in-None.ensures.found) in
    sym (ap (admitted c.args.method.now all) found)
