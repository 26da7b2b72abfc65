-- The revisions that an opening shows, and how long they are.
use Rattle.std.proofs.Common.{◌≡◌, ℕ, ◌+◌, true, List, [], ◌∷◌, length, map, Result, Ok, refl, sym, ap, subst, ◌∙◌, arith}
use Rattle.std.specs.Prelude.{codes, IfOk}
use Rattle.json.specs.Print.{quoted}
use Rattle.json_profile.specs.Joined.{bare_text}
use Rattle.serde_json.specs.Data.{Data}
use Rattle.serde_json.specs.Written.{compact_text}
use Rattle.serde_json.proofs.OnLiterals.{serde_json_on_literals}
use Rattle.model.specs.Body.{IsBody}
use Rattle.model.specs.Query.{Document}
use Rattle.model.specs.Revision.{Rev}
use Rattle.document_json.specs.Written.{revs_member}
use Rattle.document_json.proofs.TextLengths.{document-length, length-conflicts, special-length}
use Rattle.api_json.specs.Opened.{found_data, opened_data}
use Rattle.api_json.proofs.OpenedLengths.{length-found}
use Rattle.session_api.specs.Revisions.{listed_with, listing, opened_by}
use Rattle.http_response.specs.Parts.{lists_len}

map-twice : {X Y Z : Type 0} (f : Y → Z) (g : X → Y) (xs : List X) → map (λ x. f (g x)) xs ≡ map f (map g xs)
map-twice f g [] = refl
map-twice f g (x ∷ xs) = ap (λ zs. f (g x) ∷ zs) (map-twice f g xs)

-- what stands for a revision
abbrev pub shown_data : (Rev → Result Document Rev) → Rev → Data
shown_data document rev = opened_data (document rev)

pub all-shown : (document : Rev → Result Document Rev) (revs : List Rev) → map (shown_data document) revs ≡ map opened_data (opened_by document revs)
all-shown document revs = map-twice opened_data document revs

-- ---- lists of conflicts

pub conflicts-name : 14 ≡ length (quoted (codes "_conflicts")) + 2
unfolding serde_json_on_literals
conflicts-name = refl

pub deleted_conflicts-name : 22 ≡ length (quoted (codes "_deleted_conflicts")) + 2
unfolding serde_json_on_literals
deleted_conflicts-name = refl

-- they add as much to each document
pub length-listing : (d : Document) (live deleted : List Rev) → IsBody d.body → d.conflicts ≡ [] → d.deleted_conflicts ≡ []
    → length (compact_text (found_data (listing live deleted d)))
    ≡ length (compact_text (found_data d)) + (length (bare_text true (revs_member (codes "_conflicts") live)) + length (bare_text true (revs_member (codes "_deleted_conflicts") deleted)))
length-listing d live deleted body no_live no_deleted =
    let l = listing live deleted d in
    let found = length-found d in
    let found_l = length-found l in
    let whole = document-length d body in
    let whole_l = document-length l body in
    let special = special-length d in
    let special_l = special-length l in
    let conflicts = length-conflicts d in
    let conflicts_l = length-conflicts l in
    let none = ap (λ revs. length (bare_text true (revs_member (codes "_conflicts") revs))) no_live in
    let none_deleted = ap (λ revs. length (bare_text true (revs_member (codes "_deleted_conflicts") revs))) no_deleted in
    omega (arith, found, found_l, whole, whole_l, special, special_l, conflicts, conflicts_l, none, none_deleted)

-- so long is a revision with its lists, by its length without
pub length-listed : (d : Document) (unlisted whole : Result Document Rev) (live deleted : List Rev) (own : ℕ) → unlisted ≡ Ok d → IsBody d.body
    → IfOk unlisted (λ e. (e.conflicts ≡ []) × (e.deleted_conflicts ≡ [])) → listed_with live deleted unlisted ≡ whole → own ≡ length (compact_text (opened_data unlisted))
    → own + lists_len live deleted ≡ length (compact_text (opened_data whole))
length-listed d unlisted whole live deleted own is body none listed own_is =
    let none_of : (d.conflicts ≡ []) × (d.deleted_conflicts ≡ []) = subst (λ (u : Result Document Rev). IfOk u (λ e. (e.conflicts ≡ []) × (e.deleted_conflicts ≡ []))) is none in
    let more = length-listing d live deleted body none_of.0 none_of.1 in
    let own_of = own_is ∙ ap (λ (u : Result Document Rev). length (compact_text (opened_data u))) is in
    let sum : own + lists_len live deleted ≡ length (compact_text (found_data (listing live deleted d))) = omega (arith, more, own_of) in
    sum ∙ ap (λ (u : Result Document Rev). length (compact_text (opened_data u))) (ap (listed_with live deleted) (sym is) ∙ listed)
