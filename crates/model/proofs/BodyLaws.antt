-- A body and its text.
use Rattle.std.proofs.Common.{◌≡◌, ◌≤◌, unwrap_or, sym, ap, ◌∙◌, arith}
use Rattle.serde_json.specs.Data.{Data, null, boolean, number, string, array, object, Members, depth}
use Rattle.serde_json.specs.Read.{read, max_depth}
use Rattle.model.specs.Body.{Body, IsBody, body_text}
use Rattle.model.specs.Profile.{IsTextOf}
use Rattle.model.proofs.ProfileLaws.{IsTextOf-compact_text}

pub IsTextOf-body_text : (body : Body) → IsBody body → IsTextOf (object body) (body_text body)
IsTextOf-body_text body is =
    let shallow : depth (object body) ≤ max_depth = omega (arith, is.nests) in
    IsTextOf-compact_text (object body) is.whole is.utf8 is.ordered shallow

abbrev members_in : Members → Data → Members
members_in other null = other
members_in other (boolean b) = other
members_in other (number n) = other
members_in other (string s) = other
members_in other (array ds) = other
members_in other (object ms) = ms

-- bodies of one text are one
pub body_text-once : (a b : Body) → IsBody a → IsBody b → body_text a ≡ body_text b → a ≡ b
body_text-once a b is_a is_b same =
    let read_a = (IsTextOf-body_text a is_a).1 in
    let read_b = (IsTextOf-body_text b is_b).1 in
    ap (λ o. members_in a (unwrap_or o (object a))) (sym read_a ∙ ap read same ∙ read_b)
