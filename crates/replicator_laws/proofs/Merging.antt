-- A revision from elsewhere, as it is read back from its document.
use Rattle.std.proofs.Common.{◌≡◌, ℕ, ◌-◌, ◌<◌, ◌≤◌, Bool, true, false, List, [], ◌∷◌, map, Option, Some, None, Ok, refl, sym, ap, ◌∙◌, arith, All}
use Rattle.std.specs.Prelude.{codes, ◌||◌, is_some, option_map, option_and_then}
use Rattle.std.proofs.lemmas.Bool.{and_from, lt-ltb, le-leb}
use Rattle.std.proofs.lemmas.List.Elements.{All-head, All-tail}
use Rattle.std.proofs.lemmas.Str.{is_utf8-from_IsUtf8}
use Rattle.std.specs.Str.{is_utf8}
use Rattle.hex.specs.Hex.{encode_lower}
use Rattle.json.proofs.Printed.Utf8.{are_ascii, IsUtf8-are_ascii}
use Rattle.serde_json.specs.Data.{Data, unsigned, number, boolean, string, array, object, depth, Members, no_members, member}
use Rattle.serde_json.specs.Find.{get_member}
use Rattle.serde_json.specs.View.{items_of}
use Rattle.json_profile.specs.Joined.{between, join}
use Rattle.json_profile.specs.Objects.{has_special}
use Rattle.model.specs.Body.{Body, IsBody}
use Rattle.model.specs.Command.{Id, IsMerge, Merge}
use Rattle.model.specs.Profile.{without_specials}
use Rattle.model.specs.Revision.{Rev, IsRev, last_generation, rev_text, same_rev, same_rev-equal}
use Rattle.model.specs.TreeChange.{IsPath}
use Rattle.commands.specs.Merge.{merge_of}
use Rattle.revision_id.proofs.Texts.{utf8_lower}
use Rattle.document_json.specs.Bulk.{document_listed, document_named, listed_as, merge_in, path_found, path_named, revisions_of, with_path}
use Rattle.document_json.specs.Document.{flag_in, has_shape, is_flag, is_text, listed_members, parts_in, parts_of, text_of, without_all}
use Rattle.document_json.specs.Identity.{id_named}
use Rattle.document_json.specs.Numbers.{from_one}
use Rattle.document_json.specs.Path.{path_down, path_in, revs_down}
use Rattle.document_json.specs.Steps.{Checked, and_then, check, or_refused}
use Rattle.document_json.specs.Written.{document_of, flag_member, hash_data, merge_data, rev_data, revisions_data, special_members, with_flag}
use Rattle.document_json.specs.declared.fault.Reason.TheVariants as reason
use Rattle.document_json.proofs.Parts.{nesting_parts-ok}
use Rattle.document_json.proofs.RevisionTexts.{rev_named-is, rev_with-is}
use Rattle.document_json.proofs.Specials.{document-special}
use Rattle.history_json.proofs.InProfile.{sound_id, sound_named, sound_rev}
use Rattle.history_json.proofs.Sound.{Sound, SoundMembers, sound_array, sound_boolean, sound_deeper, sound_items, sound_none, sound_number, sound_object, sound_string}
use Rattle.replicator_laws.specs.Calls.{IsPlainMerge}
use Rattle.replicator_laws.proofs.Decided.{named}
use Rattle.replicator_laws.proofs.Putting.{sound-put}
use Rattle.replicator_laws.proofs.Special.{get-specials, left-specials, plain-between, specials, specials-between}

-- ---- a path

down : (newest : Rev) (older : List Rev) → IsPath (newest ∷ older) → All IsRev (newest ∷ older)
    → revs_down newest.generation (items_of (map hash_data (newest ∷ older))) ≡ Some (newest ∷ older)
down newest [] path revs =
    ap (λ found. option_and_then (λ rev. option_map (λ rest. rev ∷ rest) (Some [])) found)
    (rev_with-is newest newest.generation (encode_lower newest.hash) (All-head IsRev newest [] revs) refl refl)
down newest (next ∷ older) path revs =
    let fall = path.0 in
    let below : newest.generation - 1 ≡ next.generation = omega (arith, fall) in
    ap (λ found. option_and_then (λ rev. option_map (λ rest. rev ∷ rest) (revs_down (newest.generation - 1) (items_of (map hash_data (next ∷ older))))) found)
    (rev_with-is newest newest.generation (encode_lower newest.hash) (All-head IsRev newest (next ∷ older) revs) refl refl)
    ∙ ap (λ g. option_map (λ rest. newest ∷ rest) (revs_down g (items_of (map hash_data (next ∷ older))))) below
    ∙ ap (option_map (λ rest. newest ∷ rest)) (down next older path.1 (All-tail IsRev newest (next ∷ older) revs))

start_read : (n : ℕ) → 0 < n → n ≤ last_generation → from_one last_generation n ≡ Some n
start_read n low high = rw (lt-ltb 0 n low, le-leb n last_generation high) refl

path_read : (newest : Rev) (older : List Rev) → IsPath (newest ∷ older) → All IsRev (newest ∷ older) → path_in (revisions_data (newest ∷ older)) ≡ Some (newest ∷ older)
path_read newest older path revs =
    let is = All-head IsRev newest older revs in
    ap (λ start. option_and_then (λ start. path_down start (items_of (map hash_data (newest ∷ older)))) start) (start_read newest.generation is.not_zero is.in_range)
    ∙ down newest older path revs

-- ---- its parts

abbrev flagged : Bool → Option Data
flagged true = Some (boolean true)
flagged false = None

abbrev beside : Bool → Data → Data → Data → Members
beside deleted id rev revisions =
    join (flag_member deleted) (member (codes "_id") id (member (codes "_rev") rev (member (codes "_revisions") revisions no_members)))

beside_special : (deleted : Bool) (id rev revisions : Data) → specials (beside deleted id rev revisions) ≡ beside deleted id rev revisions
beside_special true id rev revisions = refl
beside_special false id rev revisions = refl

beside_plain : (deleted : Bool) (id rev revisions : Data) → without_specials (beside deleted id rev revisions) ≡ no_members
beside_plain true id rev revisions = refl
beside_plain false id rev revisions = refl

same_itself : (rev : Rev) → same_rev rev rev ≡ true
same_itself rev = (same_rev-equal rev rev).1 refl

flag_read : (deleted : Bool) → flag_in (flagged deleted) ≡ deleted
flag_read true = refl
flag_read false = refl

abbrev merged : Id → Bool → Body → Checked (List Rev) → Checked Merge
merged id deleted body path = and_then path (λ path. Ok (merge_of id path deleted body))

-- the members report the revision
pub record Tells (m : Merge) (ms : Members) : Type 0 where
  pub of_id : get_member (codes "_id") ms ≡ Some (string m.id)
  pub of_rev : get_member (codes "_rev") ms ≡ Some (rev_data m.newest)
  pub of_deleted : get_member (codes "_deleted") ms ≡ flagged m.deleted
  pub of_path : get_member (codes "_revisions") ms ≡ Some (revisions_data (m.newest ∷ m.older))
  pub of_other : has_special (without_all listed_members ms) ≡ false
  pub of_body : without_specials ms ≡ m.body

tells : (m : Merge) (ms : Members) → specials ms ≡ beside m.deleted (string m.id) (rev_data m.newest) (revisions_data (m.newest ∷ m.older)) → without_specials ms ≡ m.body → Tells m ms
tells m ms is plain = record {
  of_id = get-specials (codes "_id") ms refl ∙ ap (get_member (codes "_id")) is ∙ first m.deleted;
  of_rev = get-specials (codes "_rev") ms refl ∙ ap (get_member (codes "_rev")) is ∙ second m.deleted;
  of_deleted = get-specials (codes "_deleted") ms refl ∙ ap (get_member (codes "_deleted")) is ∙ third m.deleted;
  of_path = get-specials (codes "_revisions") ms refl ∙ ap (get_member (codes "_revisions")) is ∙ fourth m.deleted;
  of_other = left-specials listed_members ms refl ∙ ap (λ s. has_special (without_all listed_members s)) is ∙ none m.deleted;
  of_body = plain;
}
  where
    first : (b : Bool) → get_member (codes "_id") (beside b (string m.id) (rev_data m.newest) (revisions_data (m.newest ∷ m.older))) ≡ Some (string m.id)
    first true = refl
    first false = refl

    second : (b : Bool) → get_member (codes "_rev") (beside b (string m.id) (rev_data m.newest) (revisions_data (m.newest ∷ m.older))) ≡ Some (rev_data m.newest)
    second true = refl
    second false = refl

    third : (b : Bool) → get_member (codes "_deleted") (beside b (string m.id) (rev_data m.newest) (revisions_data (m.newest ∷ m.older))) ≡ flagged b
    third true = refl
    third false = refl

    fourth : (b : Bool) → get_member (codes "_revisions") (beside b (string m.id) (rev_data m.newest) (revisions_data (m.newest ∷ m.older))) ≡ Some (revisions_data (m.newest ∷ m.older))
    fourth true = refl
    fourth false = refl

    none : (b : Bool) → has_special (without_all listed_members (beside b (string m.id) (rev_data m.newest) (revisions_data (m.newest ∷ m.older)))) ≡ false
    none true = refl
    none false = refl

abbrev pub members_told : Merge → Members
members_told m = between m.body (special_members (document_of m))

pub members_tell : (m : Merge) → IsMerge m → Tells m (members_told m)
members_tell m is =
    let special = special_members (document_of m) in
    let id = string m.id in
    let rev = rev_data m.newest in
    let path = revisions_data (m.newest ∷ m.older) in
    tells m (members_told m)
    (specials-between m.body special is.body.plain ∙ beside_special m.deleted id rev path)
    (plain-between m.body special is.body.plain (beside_plain m.deleted id rev path))

pub parts_read : (m : Merge) → IsMerge m → parts_in (merge_data m) ≡ Ok (Some (parts_of (members_told m)))
parts_read m is =
    let t = members_tell m is in
    let nests = is.body.nests in
    let flat = ap (λ body. depth (object body)) t.of_body in
    ap parts_in (sym (document-special (document_of m) is.body))
    ∙ ap (λ parts. and_then parts (λ parts. Ok (Some parts))) (nesting_parts-ok (parts_of (members_told m)) (omega (arith, flat, nests)))

-- ---- its shape

is_flagged : (deleted : Bool) → is_flag (flagged deleted) ≡ true
is_flagged true = refl
is_flagged false = refl

module _ (m : Merge) (ms : Members) (t : Tells m ms) where
  shape : has_shape (parts_of ms) ≡ true
  shape = and_from _ _ (and_from _ _ (ap is_text t.of_id) (ap is_text t.of_rev)) (ap is_flag t.of_deleted ∙ is_flagged m.deleted)

  pub listed_read : IsMerge m → document_listed false (Some (parts_of ms)) ≡ Ok (record { parts = parts_of ms; path = Some (m.newest ∷ m.older) })
  listed_read is =
      ap (λ shape. and_then (and_then (check shape reason.Shape) (λ _. Ok (parts_of ms))) (λ parts. and_then (check (is_some parts.id) reason.Shape) (λ _. listed_as false parts))) shape
      ∙ ap (λ id. and_then (check (is_some id) reason.Shape) (λ _. listed_as false (parts_of ms))) t.of_id
      ∙ ap (λ rev. and_then (check (is_some rev || is_some (get_member (codes "_revisions") ms)) reason.Shape) (λ _. with_path (parts_of ms))) t.of_rev
      ∙ ap (λ path. and_then path (λ path. Ok (record { parts = parts_of ms; path = path }))) (ap path_found t.of_path ∙ ap (λ path. and_then (or_refused path reason.Shape) (λ path. Ok (Some path))) (path_read m.newest m.older is.path is.revs))

  -- ---- its id

  pub named_read : IsPlainMerge m → document_named (record { parts = parts_of ms; path = Some (m.newest ∷ m.older) }) ≡ Ok (record { id = m.id; parts = parts_of ms; path = Some (m.newest ∷ m.older) })
  named_read h =
      ap (λ id. and_then (or_refused (text_of id) reason.Id) (λ text. and_then (id_named text) (λ id. Ok (record { id = id; parts = parts_of ms; path = Some (m.newest ∷ m.older) })))) t.of_id
      ∙ ap (λ id. and_then id (λ id. Ok (record { id = id; parts = parts_of ms; path = Some (m.newest ∷ m.older) }))) (named m.id (record { is_id = h.0.id; plain = h.1 }))

  -- ---- its revisions

  pub merge_read : IsMerge m → merge_in (record { id = m.id; parts = parts_of ms; path = Some (m.newest ∷ m.older) }) ≡ Ok m
  merge_read is =
      let path = m.newest ∷ m.older in
      let deleted = flag_in (get_member (codes "_deleted") ms) in
      let body = without_specials ms in
      ap (λ rev. merged m.id deleted body (revisions_of rev (Some path))) t.of_rev
      ∙ ap (λ rev. merged m.id deleted body (and_then (and_then (or_refused rev reason.Revision) (λ rev. Ok (Some rev))) (λ rev. path_named (Some path) rev))) (rev_named-is m.newest (rev_text m.newest) (All-head IsRev m.newest m.older is.revs) refl)
      ∙ ap (λ same. merged m.id deleted body (and_then (check same reason.Revision) (λ _. Ok path))) (same_itself m.newest)
      ∙ ap (λ deleted. merged m.id deleted body (Ok path)) (ap flag_in t.of_deleted ∙ flag_read m.deleted)
      ∙ ap (λ body. merged m.id m.deleted body (Ok path)) t.of_body

-- ---- its profile

sound_hash : (n : ℕ) (rev : Rev) → IsRev rev → Sound n (hash_data rev)
sound_hash n rev is = sound_string n (encode_lower rev.hash) (utf8_lower rev.hash)

sound_path : (newest : Rev) (older : List Rev) → All IsRev (newest ∷ older) → Sound 2 (revisions_data (newest ∷ older))
sound_path newest older revs =
    let top = (All-head IsRev newest older revs).in_range in
    sound_object 1 _
    (sound_named 1 (codes "ids") (array (items_of (map hash_data (newest ∷ older)))) _ refl refl (sound_array 0 _ (sound_items 0 hash_data IsRev (sound_hash 0) (newest ∷ older) revs))
    (sound_named 1 (codes "start") (number (unsigned newest.generation)) no_members refl refl (sound_number 1 newest.generation (omega arith)) (sound_none 1)))

sound_members : (body : Body) → IsBody body → SoundMembers 64 body
sound_members body is =
    let nests = is.nests in
    record { whole = is.whole; utf8 = is.utf8; ordered = is.ordered; nest = omega (arith, nests) }

utf8 : (name : List ℕ) → are_ascii name ≡ true → is_utf8 name ≡ true
utf8 name h = is_utf8-from_IsUtf8 name (IsUtf8-are_ascii name h)

flag_put : (deleted : Bool) (ms : Members) → SoundMembers 64 ms → SoundMembers 64 (with_flag (codes "_deleted") deleted ms)
flag_put true ms h = sound-put 64 (codes "_deleted") (boolean true) ms (utf8 (codes "_deleted") refl) (sound_boolean 64 true) h
flag_put false ms h = h

pub sound_merge : (m : Merge) → IsMerge m → Sound 65 (merge_data m)
sound_merge m is =
    sound_object 64 _
    (sound-put 64 (codes "_revisions") (revisions_data (m.newest ∷ m.older)) _ (utf8 (codes "_revisions") refl) (sound_deeper 2 64 (revisions_data (m.newest ∷ m.older)) (omega arith) (sound_path m.newest m.older is.revs))
    (flag_put m.deleted _
    (sound-put 64 (codes "_rev") (rev_data m.newest) _ (utf8 (codes "_rev") refl) (sound_rev 64 m.newest (All-head IsRev m.newest m.older is.revs))
    (sound-put 64 (codes "_id") (string m.id) m.body (utf8 (codes "_id") refl) (sound_id 64 m.id is.id) (sound_members m.body is.body)))))
