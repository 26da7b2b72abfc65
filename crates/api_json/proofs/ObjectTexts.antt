-- The text of an object, member by member.
use Rattle.std.proofs.Common.{◌≡◌, ℕ, List, [], ◌∷◌, ◌++◌, false, append_assoc, refl, sym, ap, ◌∙◌}
use Rattle.json_profile.proofs.Joined.{members_text-bare}
use Rattle.json_profile.specs.Joined.{bare_text, join}
use Rattle.serde_json.specs.Data.{Members, member, no_members, object}
use Rattle.serde_json.specs.Written.{compact_text}
use Rattle.api_json.specs.Objects.{Named, members_from}

-- one more member
pub members_from-push : (members : List Named) (m : Named) → join (members_from members) (member m.0 m.1 no_members) ≡ members_from (members ++ m ∷ [])
members_from-push [] m = refl
members_from-push (n ∷ members) m = ap (member n.0 n.1) (members_from-push members m)

-- the members between the braces
pub closed : (before : List ℕ) (ms : Members) → (((before ++ 123 ∷ []) ++ bare_text false ms) ++ 125 ∷ []) ≡ before ++ compact_text (object ms)
closed before ms =
    append_assoc (before ++ 123 ∷ []) (bare_text false ms) (125 ∷ [])
    ∙ append_assoc before (123 ∷ []) (bare_text false ms ++ 125 ∷ [])
    ∙ ap (λ t. before ++ (123 ∷ t)) (sym (members_text-bare false ms))
