-- A text that is kept is that of the members that it reads as.
use Rattle.std.proofs.Common.{◌≡◌, ◌≤◌, ◌↔◌, ℕ, List, [], ◌∷◌, length, Some, unwrap_or, refl, sym, ap, ◌∙◌, subst, arith}
use Rattle.serde_json.proofs.OnLiterals.{serde_json_on_literals}
use Rattle.serde_json.specs.Data.{null, object, Members, no_members, member, members_depth}
use Rattle.serde_json.specs.Read.{read}
use Rattle.serde_json.specs.View.{members_view}
use Rattle.serde_json.proofs.Views.{Entry}
use Rattle.model.specs.Body.{IsBody, body_text}
use Rattle.json_profile.specs.Objects.{members_in}
use Rattle.json_profile.specs.Profiled.{ArePlain}
use Rattle.json_profile.specs.Texts.{members_read, kept_text, IsKept, IsSplit}
use Rattle.json_profile.specs.Joined.{split_of}

pub read_nothing : members_read [] ≡ no_members
unfolding serde_json_on_literals
read_nothing = refl

pub read_braces : read (body_text no_members) ≡ Some (object no_members)
unfolding serde_json_on_literals
read_braces = refl

pub kept_nothing : IsKept [] (members_read [])
kept_nothing =
    let none : IsBody no_members = record { whole = refl; utf8 = refl; ordered = refl; nests = omega arith; plain = refl } in
    subst (IsKept []) (sym read_nothing) (record { kept = refl; body = none; reads_back = read_braces })

pub split_nothing : IsSplit 1 [] (members_read [])
split_nothing = record { whole = kept_nothing; at = sym (ap split_of read_nothing) }

pub read_as : (text : List ℕ) (ms : Members) → read text ≡ Some (object ms) → members_read text ≡ ms
read_as text ms reads = ap (λ o. members_in (unwrap_or o null)) reads

pub some_kept : (ms : Members) → (ms ≡ no_members → ⊥) → kept_text ms ≡ body_text ms
some_kept no_members some = absurd (some refl)
some_kept (member k d ms) some = refl

pub kept_of : (text : List ℕ) (ms : Members) → (ms ≡ no_members → ⊥) → text ≡ body_text ms → read text ≡ Some (object ms) → IsBody ms → IsKept text (members_read text)
kept_of text ms some is reads body =
    let back : read (body_text ms) ≡ Some (object ms) = ap read (sym is) ∙ reads in
    subst (IsKept text) (sym (read_as text ms reads)) (record { kept = is ∙ sym (some_kept ms some); body = body; reads_back = back })

pub body_of : (ms : Members) → ArePlain ms → members_depth ms ≤ 63 → IsBody ms
body_of ms plain nests = record { whole = plain.whole; utf8 = plain.utf8; ordered = plain.ordered; nests = omega arith; plain = plain.plain }

pub nothing : (es : List Entry) → members_view es ≡ no_members → length es ≡ 0
nothing [] is = refl
nothing (e ∷ es) is = absurd (cc)

pub emptied : (es : List Entry) → length es ≡ 0 → members_view es ≡ no_members
emptied [] is = refl
emptied (e ∷ es) is = absurd (cc)

-- no text is kept where there are no members alone
pub none_kept : (ms : Members) → [] ≡ kept_text ms → ms ≡ no_members
none_kept no_members is = refl
none_kept (member k d ms) is = absurd (cc)

pub same_kept : (x y : List ℕ) (ms ns : Members) → ms ≡ members_read x → ns ≡ members_read y → x ≡ kept_text ms → y ≡ kept_text ns → (x ≡ y) ↔ (ms ≡ ns)
same_kept x y ms ns p q i j = (λ e. p ∙ ap members_read e ∙ sym q, λ e. i ∙ ap kept_text e ∙ sym j)
