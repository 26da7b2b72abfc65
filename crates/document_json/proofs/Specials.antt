-- What is put beside a body goes between its members.
use Rattle.std.proofs.Common.{◌≡◌, ◌==◌, ℕ, List, [], ◌∷◌, ◌++◌, length, Option, Some, None, Bool, true, false, ◌&&◌, append_assoc, refl, sym, ap, ◌∙◌}
use Rattle.std.specs.Prelude.{codes, not}
use Rattle.serde_json.specs.Data.{Data, boolean, string, object, Members, no_members, member, put}
use Rattle.serde_json.specs.Written.{comma_if, compact_text}
use Rattle.json_profile.specs.Joined.{bare_text, between, front_of, back_of, has_member, join}
use Rattle.json_profile.specs.Profiled.{ArePlain}
use Rattle.json_profile.proofs.Joined.{put-between, between-none, between-text, has_member-length}
use Rattle.model.specs.Body.{Body, IsBody}
use Rattle.model.specs.Profile.{is_special}
use Rattle.model.specs.Query.{Document}
use Rattle.model.specs.declared.status.Status.{Status}
use Rattle.model.specs.Revision.{Rev}
use Rattle.document_json.specs.Local.{local_id}
use Rattle.document_json.specs.Written.{counter_text, document_data, flag_member, infos_data, infos_member, local_data, named_members, rev_data, revisions_data, revisions_member, revs_data, revs_member, special_members, told_members, with_flag, with_infos, with_revisions, with_revs}

plain_of : (body : Body) → IsBody body → ArePlain body
plain_of body is = record { whole = is.whole; utf8 = is.utf8; ordered = is.ordered; plain = is.plain }

-- ---- each that is put goes to the special ones

with_flag-between : (n : List ℕ) (flag : Bool) (body special : Members) → ArePlain body → is_special n ≡ true → with_flag n flag (between body special) ≡ between body (with_flag n flag special)
with_flag-between n true body special plain is = put-between n (boolean true) body special plain is
with_flag-between n false body special plain is = refl

with_revs-between : (n : List ℕ) (revs : List Rev) (body special : Members) → ArePlain body → is_special n ≡ true → with_revs n revs (between body special) ≡ between body (with_revs n revs special)
with_revs-between n [] body special plain is = refl
with_revs-between n (rev ∷ revs) body special plain is = put-between n (revs_data (rev ∷ revs)) body special plain is

with_revisions-between : (revs : Option (List Rev)) (body special : Members) → ArePlain body → with_revisions revs (between body special) ≡ between body (with_revisions revs special)
with_revisions-between None body special plain = refl
with_revisions-between (Some revs) body special plain = put-between (codes "_revisions") (revisions_data revs) body special plain refl

with_infos-between : (infos : Option (List (Rev × Status))) (body special : Members) → ArePlain body → with_infos infos (between body special) ≡ between body (with_infos infos special)
with_infos-between None body special plain = refl
with_infos-between (Some infos) body special plain = put-between (codes "_revs_info") (infos_data infos) body special plain refl

told-between : (d : Document) (body special : Members) → ArePlain body → told_members d (between body special) ≡ between body (told_members d special)
told-between d body special plain =
    let revisions = with_revisions d.revisions special in
    let infos = with_infos d.revs_info revisions in
    let conflicts = with_revs (codes "_conflicts") d.conflicts infos in
    ap (λ ms. with_revs (codes "_deleted_conflicts") d.deleted_conflicts (with_revs (codes "_conflicts") d.conflicts (with_infos d.revs_info ms))) (with_revisions-between d.revisions body special plain)
    ∙ ap (λ ms. with_revs (codes "_deleted_conflicts") d.deleted_conflicts (with_revs (codes "_conflicts") d.conflicts ms)) (with_infos-between d.revs_info body revisions plain)
    ∙ ap (λ ms. with_revs (codes "_deleted_conflicts") d.deleted_conflicts ms) (with_revs-between (codes "_conflicts") d.conflicts body infos plain refl)
    ∙ with_revs-between (codes "_deleted_conflicts") d.deleted_conflicts body conflicts plain refl

two-between : (m n : List ℕ) (v w : Data) (body : Members) → ArePlain body → is_special m ≡ true → is_special n ≡ true → put n w (put m v body) ≡ between body (put n w (put m v no_members))
two-between m n v w body plain is js =
    ap (λ ms. put n w (put m v ms)) (sym (between-none body))
    ∙ ap (put n w) (put-between m v body no_members plain is)
    ∙ put-between n w body (put m v no_members) plain js

named-between : (id : List ℕ) (rev : Rev) (deleted : Bool) (body : Members) → ArePlain body → named_members id rev deleted body ≡ between body (named_members id rev deleted no_members)
named-between id rev deleted body plain =
    ap (with_flag (codes "_deleted") deleted) (two-between (codes "_id") (codes "_rev") (string id) (rev_data rev) body plain refl refl)
    ∙ with_flag-between (codes "_deleted") deleted body (put (codes "_rev") (rev_data rev) (put (codes "_id") (string id) no_members)) plain refl

-- what is beside the body of a document
abbrev special_of : Document → Members
special_of d = told_members d (named_members d.id d.rev d.deleted no_members)

document-between : (d : Document) → IsBody d.body → object (between d.body (special_of d)) ≡ document_data d
document-between d is =
    let plain = plain_of d.body is in
    let named = named_members d.id d.rev d.deleted no_members in
    ap object (sym (ap (told_members d) (named-between d.id d.rev d.deleted d.body plain) ∙ told-between d d.body named plain))

-- what comes behind `_id`, put one by one
behind_id : (id : List ℕ) (rev : Rev) (deleted : Bool) (revisions : Option (List Rev)) (infos : Option (List (Rev × Status)))
    → with_infos infos (with_revisions revisions (named_members id rev deleted no_members))
    ≡ join (flag_member deleted) (member (codes "_id") (string id) (member (codes "_rev") (rev_data rev) (join (revisions_member revisions) (infos_member infos))))
behind_id id rev true (Some revs) (Some infos) = refl
behind_id id rev true (Some revs) None = refl
behind_id id rev true None (Some infos) = refl
behind_id id rev true None None = refl
behind_id id rev false (Some revs) (Some infos) = refl
behind_id id rev false (Some revs) None = refl
behind_id id rev false None (Some infos) = refl
behind_id id rev false None None = refl

-- and what comes before it
before_id : (deleted : Bool) (conflicts deleted_conflicts : List Rev) (id : Data) (ms : Members)
    → with_revs (codes "_deleted_conflicts") deleted_conflicts (with_revs (codes "_conflicts") conflicts (join (flag_member deleted) (member (codes "_id") id ms)))
    ≡ join (revs_member (codes "_conflicts") conflicts) (join (flag_member deleted) (join (revs_member (codes "_deleted_conflicts") deleted_conflicts) (member (codes "_id") id ms)))
before_id true (r ∷ rs) (q ∷ qs) id ms = refl
before_id true (r ∷ rs) [] id ms = refl
before_id true [] (q ∷ qs) id ms = refl
before_id true [] [] id ms = refl
before_id false (r ∷ rs) (q ∷ qs) id ms = refl
before_id false (r ∷ rs) [] id ms = refl
before_id false [] (q ∷ qs) id ms = refl
before_id false [] [] id ms = refl

special-ordered : (d : Document) → special_of d ≡ special_members d
special-ordered d =
    ap (λ ms. with_revs (codes "_deleted_conflicts") d.deleted_conflicts (with_revs (codes "_conflicts") d.conflicts ms)) (behind_id d.id d.rev d.deleted d.revisions d.revs_info)
    ∙ before_id d.deleted d.conflicts d.deleted_conflicts (string d.id) (member (codes "_rev") (rev_data d.rev) (join (revisions_member d.revisions) (infos_member d.revs_info)))

pub document-special : (d : Document) → IsBody d.body → object (between d.body (special_members d)) ≡ document_data d
document-special d is = ap (λ ms. object (between d.body ms)) (sym (special-ordered d)) ∙ document-between d is

pub has_member-special : (d : Document) → has_member (special_members d) ≡ true
has_member-special d = some d.deleted d.conflicts d.deleted_conflicts
  where
    some : (deleted : Bool) (conflicts deleted_conflicts : List Rev)
        → has_member (join (revs_member (codes "_conflicts") conflicts) (join (flag_member deleted) (join (revs_member (codes "_deleted_conflicts") deleted_conflicts)
        (member (codes "_id") (string d.id) (member (codes "_rev") (rev_data d.rev) (join (revisions_member d.revisions) (infos_member d.revs_info))))))) ≡ true
    some deleted (r ∷ rs) qs = refl
    some true [] qs = refl
    some false [] (q ∷ qs) = refl
    some false [] [] = refl

-- what is beside the body of a local one
abbrev pub local_special : List ℕ → ℕ → Members
local_special id counter = member (codes "_id") (string (local_id id)) (member (codes "_rev") (string (counter_text counter)) no_members)

pub local-between : (id : List ℕ) (counter : ℕ) (body : Members) → IsBody body → object (between body (local_special id counter)) ≡ local_data id (counter, body)
local-between id counter body is = ap object (sym (two-between (codes "_id") (codes "_rev") (string (local_id id)) (string (counter_text counter)) body (plain_of body is) refl refl))

-- ---- the text in its parts

assembled : (f c s e b : List ℕ) → ((((((123 ∷ []) ++ f) ++ c) ++ s) ++ e) ++ b) ++ 125 ∷ [] ≡ 123 ∷ (f ++ ((c ++ s) ++ ((e ++ b) ++ 125 ∷ [])))
assembled f c s e b = simp append_assoc refl

-- the commas, by whether the parts have text
pub text-between : (body special : Members) (f b : List ℕ) → has_member special ≡ true
    → f ≡ bare_text false (front_of body) → b ≡ bare_text (has_member (front_of body)) (back_of body)
    → ((((((123 ∷ []) ++ f) ++ comma_if (not (length f == 0))) ++ bare_text false special) ++ comma_if ((length f == 0) && not (length b == 0))) ++ b) ++ 125 ∷ []
    ≡ compact_text (object (between body special))
text-between body special f b some is js =
    assembled f _ (bare_text false special) _ b
    ∙ ap (λ x. 123 ∷ (x ++ ((comma_if (not (length x == 0)) ++ bare_text false special) ++ ((comma_if ((length x == 0) && not (length b == 0)) ++ b) ++ 125 ∷ [])))) is
    ∙ ap (λ x. 123 ∷ (front ++ ((comma_if (not (length front == 0)) ++ bare_text false special) ++ ((comma_if ((length front == 0) && not (length x == 0)) ++ x) ++ 125 ∷ [])))) js
    ∙ ap (λ h. 123 ∷ (front ++ ((comma_if h ++ bare_text false special) ++ ((comma_if ((length front == 0) && not (length back == 0)) ++ back) ++ 125 ∷ [])))) (has_member-length false (front_of body))
    ∙ ap (λ h. 123 ∷ (front ++ ((comma_if (has_member (front_of body)) ++ bare_text false special) ++ ((comma_if (h && not (length back == 0)) ++ back) ++ 125 ∷ [])))) (turned (length front == 0) ∙ ap not (has_member-length false (front_of body)))
    ∙ ap (λ h. 123 ∷ (front ++ ((comma_if (has_member (front_of body)) ++ bare_text false special) ++ ((comma_if (not (has_member (front_of body)) && h) ++ back) ++ 125 ∷ [])))) (has_member-length (has_member (front_of body)) (back_of body))
    ∙ sym (between-text body special some)
  where
    turned : (b : Bool) → b ≡ not (not b)
    turned true = refl
    turned false = refl

    front : List ℕ
    front = bare_text false (front_of body)

    back : List ℕ
    back = bare_text (has_member (front_of body)) (back_of body)
