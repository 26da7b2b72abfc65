-- What is known of a value is known of its parts.
use Rattle.std.proofs.Common.{◌≡◌, ◌≤◌, ℕ, List, Some, unwrap_or, sym, ap, subst, arith}
use Rattle.std.proofs.lemmas.Bool.{and_parts}
use Rattle.serde_json.specs.Data.{Data, null, boolean, number, string, array, object, Items, item, Members, member, depth}
use Rattle.serde_json.specs.Find.{as_object}
use Rattle.model.specs.Profile.{max_nesting, is_whole, items_whole, members_whole, has_utf8, items_have_utf8, is_ordered, items_ordered}
use Rattle.json_profile.specs.Profiled.{IsProfiled}
use Rattle.model.proofs.ProfileLaws.{value_of, rest_of}
use Rattle.json_profile.proofs.Texts.{utf8_of, utf8_after}

pub first_item : (d : Data) (ds : Items) → IsProfiled (array (item d ds)) → IsProfiled d
first_item d ds h =
    let deep : depth (array (item d ds)) ≤ max_nesting = h.nests in
    record { whole = (and_parts (is_whole d) (items_whole ds) h.whole).0; utf8 = (and_parts (has_utf8 d) (items_have_utf8 ds) h.utf8).0; ordered = (and_parts (is_ordered d) (items_ordered ds) h.ordered).0; nests = omega (arith, deep) }

pub later_items : (d : Data) (ds : Items) → IsProfiled (array (item d ds)) → IsProfiled (array ds)
later_items d ds h =
    let deep : depth (array (item d ds)) ≤ max_nesting = h.nests in
    record { whole = (and_parts (is_whole d) (items_whole ds) h.whole).1; utf8 = (and_parts (has_utf8 d) (items_have_utf8 ds) h.utf8).1; ordered = (and_parts (is_ordered d) (items_ordered ds) h.ordered).1; nests = omega (arith, deep) }

pub first_member : (k : List ℕ) (d : Data) (ms : Members) → IsProfiled (object (member k d ms)) → IsProfiled d
first_member k d ms h =
    let deep : depth (object (member k d ms)) ≤ max_nesting = h.nests in
    record { whole = (and_parts (is_whole d) (members_whole ms) h.whole).0; utf8 = utf8_of k d ms h.utf8; ordered = value_of k d ms h.ordered; nests = omega (arith, deep) }

pub later_members : (k : List ℕ) (d : Data) (ms : Members) → IsProfiled (object (member k d ms)) → IsProfiled (object ms)
later_members k d ms h =
    let deep : depth (object (member k d ms)) ≤ max_nesting = h.nests in
    record { whole = (and_parts (is_whole d) (members_whole ms) h.whole).1; utf8 = utf8_after k d ms h.utf8; ordered = rest_of k d ms h.ordered; nests = omega (arith, deep) }

pub profiled_object : (d : Data) (ms : Members) → Some ms ≡ as_object d → IsProfiled d → IsProfiled (object ms)
profiled_object null ms is h = cc is
profiled_object (boolean b) ms is h = cc is
profiled_object (number n) ms is h = cc is
profiled_object (string s) ms is h = cc is
profiled_object (array ds) ms is h = cc is
profiled_object (object ns) ms is h = subst (λ os. IsProfiled (object os)) (ap (λ o. unwrap_or o ns) (sym is)) h
