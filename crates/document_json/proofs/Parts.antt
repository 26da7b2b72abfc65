-- A document that was taken apart.
use Rattle.std.proofs.Common.{◌≡◌, ◌≢◌, ℕ, ◌<◌, ◌≤◌, List, [], ◌∷◌, Result, Ok, Err, Bool, true, false, refl, ap, ◌∙◌, arith}
use Rattle.std.specs.Prelude.{codes, nat_le}
use Rattle.std.proofs.lemmas.Bool.{and_parts, le-leb, leb-true}
use Rattle.std.specs.List.{list_all}
use Rattle.std.specs.Prelude.{Option, Some, None}
use Rattle.serde_json.specs.Data.{Data, object, depth, Members}
use Rattle.serde_json.specs.Find.{get_member}
use Rattle.json_profile.specs.Objects.{without, has_special}
use Rattle.model.specs.Profile.{is_special, without_specials, max_body_nesting}
use Rattle.json_profile.specs.declared.fault.JsonFault.{JsonFault}
use Rattle.json_profile.specs.declared.fault.JsonFault.TheVariants as json
use Rattle.document_json.specs.Steps.{Checked, Decides, and_then, check, refused}
use Rattle.document_json.specs.Text.{fault_of}
use Rattle.model.specs.Command.{Id}
use Rattle.model.specs.Revision.{Rev}
use Rattle.document_json.specs.Document.{edit_found, nesting_parts, parts_found, parts_of, parts_after, without_ignored, without_all, listed_members, others_listed}
use Rattle.document_json.specs.declared.document.Parts.{Parts}
use Rattle.document_json.specs.declared.fault.Reason.TheVariants as reason
use Rattle.document_json.proofs.Members.{without_specials-without, get_member-without, get_member-none, without-none}

-- ---- the nesting of a body

if_nests : Parts → Bool → Checked Parts
if_nests parts nests = and_then (check nests reason.Depth) (λ _. Ok parts)

pub nesting_parts-ok : (parts : Parts) → depth (object parts.body) ≤ max_body_nesting → nesting_parts parts ≡ Ok parts
unfolding if_nests
nesting_parts-ok parts nests = ap (if_nests parts) (le-leb (depth (object parts.body)) max_body_nesting nests)

refuses : (parts : Parts) (b : Bool) (n most : ℕ) → nat_le n most ≡ b → most < n → if_nests parts b ≡ refused reason.Depth
unfolding if_nests
refuses parts false n most is lt = refl
refuses parts true n most is lt = let le = leb-true n most is in absurd (omega arith)

nesting_parts-depth : (parts : Parts) → max_body_nesting < depth (object parts.body) → nesting_parts parts ≡ refused reason.Depth
unfolding if_nests
nesting_parts-depth parts lt = refuses parts _ (depth (object parts.body)) max_body_nesting refl lt

-- what a body is refused by
pub nesting_parts-fault : {B : Type 0} (parts : Parts) (told : Result B JsonFault) (f : JsonFault) → told ≡ Err f
    → (told ≡ Err json.Depth → max_body_nesting < depth (object parts.body))
    → (told ≢ Err json.Malformed) × (told ≢ Err json.Number) × (told ≢ Err json.NotAnObject)
    → Decides {X = Parts} (Err (fault_of f)) (nesting_parts parts)
nesting_parts-fault parts told json.Malformed is deep none = absurd (none.0 is)
nesting_parts-fault parts told json.Number is deep none = absurd (none.1 is)
nesting_parts-fault parts told json.Depth is deep none = nesting_parts-depth parts (deep is)
nesting_parts-fault parts told json.NotAnObject is deep none = absurd (none.2 is)
nesting_parts-fault parts told json.Memory is deep none = tt

-- ---- what is left of an object

abbrev pub left_1 : Members → Members
left_1 ms = without (codes "_id") ms

abbrev pub left_2 : Members → Members
left_2 ms = without (codes "_rev") (left_1 ms)

pub rev_left : (ms : Members) → get_member (codes "_rev") (left_1 ms) ≡ get_member (codes "_rev") ms
rev_left ms = get_member-without (codes "_rev") (codes "_id") ms refl

-- ---- what is left of what is behind the id

abbrev pub after_1 : Members → Members
after_1 ms = without (codes "_rev") ms

abbrev pub after_2 : Members → Members
after_2 ms = without (codes "_deleted") (after_1 ms)

abbrev pub after_3 : Members → Members
after_3 ms = without (codes "_revisions") (after_2 ms)

abbrev pub after_4 : Members → Members
after_4 ms = without_ignored (after_3 ms)

pub deleted_left : (ms : Members) → get_member (codes "_deleted") (after_1 ms) ≡ get_member (codes "_deleted") ms
deleted_left ms = get_member-without (codes "_deleted") (codes "_rev") ms refl

pub revisions_left : (ms : Members) → get_member (codes "_revisions") (after_2 ms) ≡ get_member (codes "_revisions") ms
revisions_left ms =
    get_member-without (codes "_revisions") (codes "_deleted") (after_1 ms) refl
    ∙ get_member-without (codes "_revisions") (codes "_rev") ms refl

without_specials-without_all : (names : List (List ℕ)) (ms : Members) → list_all is_special names ≡ true → without_specials (without_all names ms) ≡ without_specials ms
without_specials-without_all [] ms h = refl
without_specials-without_all (name ∷ names) ms h =
    let special = and_parts _ _ h in
    without_specials-without_all names (without name ms) special.1 ∙ without_specials-without name ms special.0

pub body_left : (ms : Members) → without_specials (after_4 ms) ≡ without_specials ms
body_left ms = without_specials-without_all others_listed ms refl

-- ---- behind the id

-- the id that was taken gives all parts with what is left
pub parts_after_id : (ms : Members) → parts_after (get_member (codes "_id") ms) (without (codes "_id") ms) ≡ parts_of ms
parts_after_id ms = λ i. record {
  id = get_member (codes "_id") ms;
  rev = get_member-without (codes "_rev") (codes "_id") ms refl i;
  deleted = get_member-without (codes "_deleted") (codes "_id") ms refl i;
  revisions = get_member-without (codes "_revisions") (codes "_id") ms refl i;
  has_other = has_special (without_all others_listed (without (codes "_id") ms));
  body = without_specials-without (codes "_id") ms refl i;
}

without_all-none : (names : List (List ℕ)) (ms : Members) → list_all is_special names ≡ true → has_special ms ≡ false → without_all names ms ≡ ms
without_all-none [] ms h none = refl
without_all-none (name ∷ names) ms h none =
    let special = and_parts _ _ h in
    ap (without_all names) (without-none name ms special.0 none) ∙ without_all-none names ms special.1 none

abbrev pub plain_parts : Option Data → Members → Parts
plain_parts id body = record { id = id; rev = None; deleted = None; revisions = None; has_other = false; body = body }

-- nothing else is said where nothing special is left
pub parts_after-none : (id : Option Data) (ms : Members) → has_special ms ≡ false → parts_after id ms ≡ plain_parts id (without_specials ms)
parts_after-none id ms none = λ i. record {
  id = id;
  rev = get_member-none (codes "_rev") ms refl none i;
  deleted = get_member-none (codes "_deleted") ms refl none i;
  revisions = get_member-none (codes "_revisions") ms refl none i;
  has_other = (ap has_special (without_all-none others_listed ms refl none) ∙ none) i;
  body = without_specials ms;
}

-- the same of an object with nothing special in it
parts_of-none : (ms : Members) → has_special ms ≡ false → parts_of ms ≡ plain_parts None (without_specials ms)
parts_of-none ms none = λ i. record {
  id = get_member-none (codes "_id") ms refl none i;
  rev = get_member-none (codes "_rev") ms refl none i;
  deleted = get_member-none (codes "_deleted") ms refl none i;
  revisions = get_member-none (codes "_revisions") ms refl none i;
  has_other = (ap has_special (without_all-none listed_members ms refl none) ∙ none) i;
  body = without_specials ms;
}

-- an object with nothing special in it is the body of an edit
pub plain_edit : (id : Id) (rev : Option Rev) (ms : Members) → has_special ms ≡ false → depth (object (without_specials ms)) ≤ max_body_nesting
    → edit_found id rev (parts_found (Some ms)) ≡ Ok (record { id = id; named = rev; deleted = false; body = without_specials ms })
plain_edit id rev ms none nests =
    ap (λ found. edit_found id rev (and_then found (λ parts. Ok (Some parts)))) (nesting_parts-ok (parts_of ms) nests ∙ ap Ok (parts_of-none ms none))
