-- Members that are written one after another.
use Rattle.std.proofs.Common.{◌≡◌, ℕ, Bool, true, false, List, [], ◌∷◌, ◌++◌, ◌==◌, length, Option, true≢false, append_assoc, append-nil, refl, sym, ap, subst, ◌∙◌}
use Rattle.std.specs.Prelude.{codes}
use Rattle.std.proofs.Math.Dec.{eqb-suc-zero}
use Rattle.json.specs.Print.{quoted}
use Rattle.json_profile.specs.Joined.{bare_text, has_member, join}
use Rattle.json_profile.proofs.Joined.{bare_text-join}
use Rattle.serde_json.specs.Data.{Data, Members, no_members, member, string}
use Rattle.serde_json.specs.Written.{comma_if, compact_text}
use Rattle.model.specs.Query.{Document}
use Rattle.model.specs.Revision.{Rev, rev_text}
use Rattle.model.specs.declared.status.Status.{Status}
use Rattle.document_json.specs.Written.{flag_member, infos_member, revisions_member, revs_data, revs_member, special_members}
use Rattle.document_json.specs.MembersText.{MembersView, Writes}

join-none : (ms : Members) → join ms no_members ≡ ms
join-none no_members = refl
join-none (member k d ms) = ap (member k d) (join-none ms)

join-assoc : (ls ms ns : Members) → join (join ls ms) ns ≡ join ls (join ms ns)
join-assoc no_members ms ns = refl
join-assoc (member k d ls) ms ns = ap (member k d) (join-assoc ls ms ns)

has_member-join : (ms : Members) (k : List ℕ) (d : Data) → has_member (join ms (member k d no_members)) ≡ true
has_member-join no_members k d = refl
has_member-join (member l e ms) k d = refl

regroup : (before stood comma name value : List ℕ) → ((((before ++ stood) ++ comma) ++ name) ++ 58 ∷ []) ++ value ≡ before ++ (stood ++ (comma ++ (name ++ 58 ∷ (value ++ []))))
regroup before stood comma name value = simp (append_assoc, append-nil) refl

-- one more member is written
pub writes-member : (old new : MembersView) (name : List ℕ) (value : Data)
    → new.text ≡ (((old.text ++ comma_if old.has_members) ++ quoted name) ++ 58 ∷ []) ++ compact_text value → new.has_members ≡ true
    → Writes old new (member name value no_members)
writes-member old new name value text later = λ before members is. record {
  text = text
      ∙ ap (λ t. (((t ++ comma_if old.has_members) ++ quoted name) ++ 58 ∷ []) ++ compact_text value) is.text
      ∙ ap (λ l. ((((before ++ bare_text false members) ++ comma_if l) ++ quoted name) ++ 58 ∷ []) ++ compact_text value) is.later
      ∙ regroup before (bare_text false members) (comma_if (has_member members)) (quoted name) (compact_text value)
      ∙ ap (λ t. before ++ t) (sym (bare_text-join false members (member name value no_members)));
  later = later ∙ sym (has_member-join members name value);
}

pub writes-none : (written : MembersView) → Writes written written no_members
writes-none written = λ before members is. rw (join-none members) is

-- members, and then others
pub writes-then : (old between new : MembersView) (ms ns : Members) → Writes old between ms → Writes between new ns → Writes old new (join ms ns)
writes-then old between new ms ns first second = λ before members is. rw (← join-assoc members ms ns) (second before (join members ms) (first before members is))

-- there are revisions to write
pub member-revs : (name : List ℕ) (revs : List Rev) → length revs == 0 ≡ false → member name (revs_data revs) no_members ≡ revs_member name revs
member-revs name [] some = absurd (true≢false some)
member-revs name (rev ∷ revs) some = refl

pub none-revs : (name : List ℕ) (revs : List Rev) → length revs == 0 ≡ true → no_members ≡ revs_member name revs
none-revs name [] none = refl
none-revs name (rev ∷ revs) none = absurd (true≢false (sym none ∙ eqb-suc-zero (length revs)))

abbrev ordered : List Rev → Bool → List Rev → List ℕ → List ℕ → Option (List Rev) → Option (List (Rev × Status)) → Members
ordered conflicts deleted deleted_conflicts id rev revisions infos =
    join (revs_member (codes "_conflicts") conflicts) (join (flag_member deleted) (join (revs_member (codes "_deleted_conflicts") deleted_conflicts)
    (member (codes "_id") (string id) (member (codes "_rev") (string rev) (join (revisions_member revisions) (infos_member infos))))))

-- the special members of a document, one after another
module _ (a b c e f g h i : MembersView) (conflicts deleted_conflicts : List Rev) (deleted : Bool) (id rev : List ℕ) (revisions : Option (List Rev)) (infos : Option (List (Rev × Status))) where
  pub writes-special : (d : Document)
      → Writes a b (revs_member (codes "_conflicts") conflicts) → Writes b c (flag_member deleted)
      → Writes c e (revs_member (codes "_deleted_conflicts") deleted_conflicts) → Writes e f (member (codes "_id") (string id) no_members)
      → Writes f g (member (codes "_rev") (string rev) no_members) → Writes g h (revisions_member revisions) → Writes h i (infos_member infos)
      → conflicts ≡ d.conflicts → deleted ≡ d.deleted → deleted_conflicts ≡ d.deleted_conflicts → id ≡ d.id → rev ≡ rev_text d.rev
      → revisions ≡ d.revisions → infos ≡ d.revs_info → Writes a i (special_members d)
  writes-special d first second third fourth fifth sixth last p q r s t u v =
      subst (Writes a i) (λ k. ordered (p k) (q k) (r k) (s k) (t k) (u k) (v k))
      (writes-then a b i _ _ first (writes-then b c i _ _ second (writes-then c e i _ _ third
      (writes-then e f i _ _ fourth (writes-then f g i _ _ fifth (writes-then g h i _ _ sixth last))))))
