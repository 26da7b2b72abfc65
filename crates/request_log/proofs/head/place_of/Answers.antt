use Rattle.std.proofs.Common.{◌≡◌, List, [], ◌∷◌, map, Bool, true, false, cond, Option, Some, None, codes, refl, ap, sym, ◌∙◌}
use Rattle.std.specs.Prelude.{option_map}
use Rattle.std.specs.List.{find}
use Rattle.std.specs.Option.{option_map_or}
use Rattle.httparse.specs.Spans.{header_bytes}
use Rattle.http_framing.specs.Headers.{Header, is_named}
use Rattle.request_log.specs.Head.{number_said}
use Rattle.request_log.proofs.head.place_of.Goals as goal

find-map : {A B : Type 0} (test : B → Bool) (f : A → B) (xs : List A) → find test (map f xs) ≡ option_map f (find (λ x. test (f x)) xs)
find-map test f [] = refl
find-map {A} {B} test f (x ∷ xs) =
    elim (test (f x)) as (λ (b : Bool). cond b (Some (f x)) (find test (map f xs)) ≡ option_map f (cond b (Some x) (find (λ (y : A). test (f y)) xs))) [
      | true ↦ refl
      | false ↦ find-map test f xs
    ]

pub returns-in-Some : goal.returns-in-Some
returns-in-Some c =
    let named : Header → Bool = is_named (codes "Couch-Place") in
    let found : find named (map (header_bytes c.args.bytes.now) c.args.headers.now) ≡ Some (header_bytes c.args.bytes.now c.in-Some.header.now) =
    find-map named (header_bytes c.args.bytes.now) c.args.headers.now ∙ ap (option_map (header_bytes c.args.bytes.now)) (sym c.in-Some.ensures.found) in
    c.number_of.ensures ∙ ap number_said c.of.ensures
    ∙ sym (ap (λ (o : Option Header). option_map_or (λ (header : Header). number_said header.1) o 0) found)

pub returns-in-None : goal.returns-in-None
returns-in-None c =
    let named : Header → Bool = is_named (codes "Couch-Place") in
    let found : find named (map (header_bytes c.args.bytes.now) c.args.headers.now) ≡ None =
    find-map named (header_bytes c.args.bytes.now) c.args.headers.now ∙ ap (option_map (header_bytes c.args.bytes.now)) (sym c.in-None.ensures.found) in
    sym (ap (λ (o : Option Header). option_map_or (λ (header : Header). number_said header.1) o 0) found)
