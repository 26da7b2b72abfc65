use Rattle.std.proofs.Common.{◌≡◌, ◌++◌, map, true, decimal, refl, sym, ◌∙◌, arith}
use Rattle.std.specs.Prelude.{codes}
use Rattle.std.proofs.lemmas.List.{map-id}
use Rattle.serde_json.specs.Data.{array}
use Rattle.serde_json.specs.View.{items_of}
use Rattle.serde_json.specs.Written.{compact_text, members_text}
use Rattle.model.specs.Map.{entries}
use Rattle.base_json.specs.Base.{kept_local_data, log_members, record_data}
use Rattle.base_json.proofs.BaseLists.{documents_pieces, locals_pieces}
use Rattle.base_json.proofs.BaseTexts.{base_pieces}
use Rattle.base_json.proofs.base.read_base.Goals as goal

pub returns-in_default : goal.returns-in_default
returns-in_default c = record {
  found = λ base is text.
      let r5 = members_text true (log_members base.purges base.update_seq) ++ codes ",\"couch_history\":2}" in
      let r4 = compact_text (array (items_of (map kept_local_data (entries base.locals)))) ++ r5 in
      let r3 = codes ",\"locals\":" ++ r4 in
      let r2 = codes ",\"limit\":" ++ (decimal base.revs_limit ++ r3) in
      let r1 = compact_text (array (items_of (map record_data (entries base.docs)))) ++ r2 in
      let all = text ∙ base_pieces base in
      (let none = c.in_default.ensures.found r1 all in absurd (cc));
}

pub returns-in_default-2 : goal.returns-in_default-2
returns-in_default-2 c = record {
  found = λ base is text.
      let r5 = members_text true (log_members base.purges base.update_seq) ++ codes ",\"couch_history\":2}" in
      let r4 = compact_text (array (items_of (map kept_local_data (entries base.locals)))) ++ r5 in
      let r3 = codes ",\"locals\":" ++ r4 in
      let r2 = codes ",\"limit\":" ++ (decimal base.revs_limit ++ r3) in
      let r1 = compact_text (array (items_of (map record_data (entries base.docs)))) ++ r2 in
      let all = text ∙ base_pieces base in
      let one : c.in-Some.text.now ≡ r1 = (let h = c.in-Some.ensures.found r1 all in cc) in
      rw c.in_default-2.is at (c.in_ok-documents.ensures.found (entries base.docs) r2 (documents_pieces base is) one);
}

pub returns-in_default-read_small_number : goal.returns-in_default-read_small_number
returns-in_default-read_small_number c = record {
  found = λ base is text.
      let r5 = members_text true (log_members base.purges base.update_seq) ++ codes ",\"couch_history\":2}" in
      let r4 = compact_text (array (items_of (map kept_local_data (entries base.locals)))) ++ r5 in
      let r3 = codes ",\"locals\":" ++ r4 in
      let r2 = codes ",\"limit\":" ++ (decimal base.revs_limit ++ r3) in
      let r1 = compact_text (array (items_of (map record_data (entries base.docs)))) ++ r2 in
      let all = text ∙ base_pieces base in
      let one : c.in-Some.text.now ≡ r1 = (let h = c.in-Some.ensures.found r1 all in cc) in
      let two = rw c.in-Some-2.is at (c.in_ok-documents.ensures.found (entries base.docs) r2 (documents_pieces base is) one) in
      c.in_default-read_small_number.ensures.found base.revs_limit r3 (let most = is.database.revs_limit.1 in omega (arith, most)) refl two.1;
}

pub returns-in_default-after : goal.returns-in_default-after
returns-in_default-after c = record {
  found = λ base is text.
      let r5 = members_text true (log_members base.purges base.update_seq) ++ codes ",\"couch_history\":2}" in
      let r4 = compact_text (array (items_of (map kept_local_data (entries base.locals)))) ++ r5 in
      let r3 = codes ",\"locals\":" ++ r4 in
      let r2 = codes ",\"limit\":" ++ (decimal base.revs_limit ++ r3) in
      let r1 = compact_text (array (items_of (map record_data (entries base.docs)))) ++ r2 in
      let all = text ∙ base_pieces base in
      let one : c.in-Some.text.now ≡ r1 = (let h = c.in-Some.ensures.found r1 all in cc) in
      let two = rw c.in-Some-2.is at (c.in_ok-documents.ensures.found (entries base.docs) r2 (documents_pieces base is) one) in
      let three = c.in-Some-read_small_number.ensures.found base.revs_limit r3 (let most = is.database.revs_limit.1 in omega (arith, most)) refl two.1 in
      (let none = c.in_default-after.ensures.found r4 three.1 in absurd (cc));
}

pub returns-in_default-3 : goal.returns-in_default-3
returns-in_default-3 c = record {
  found = λ base is text.
      let r5 = members_text true (log_members base.purges base.update_seq) ++ codes ",\"couch_history\":2}" in
      let r4 = compact_text (array (items_of (map kept_local_data (entries base.locals)))) ++ r5 in
      let r3 = codes ",\"locals\":" ++ r4 in
      let r2 = codes ",\"limit\":" ++ (decimal base.revs_limit ++ r3) in
      let r1 = compact_text (array (items_of (map record_data (entries base.docs)))) ++ r2 in
      let all = text ∙ base_pieces base in
      let one : c.in-Some.text.now ≡ r1 = (let h = c.in-Some.ensures.found r1 all in cc) in
      let two = rw c.in-Some-2.is at (c.in_ok-documents.ensures.found (entries base.docs) r2 (documents_pieces base is) one) in
      let three = c.in-Some-read_small_number.ensures.found base.revs_limit r3 (let most = is.database.revs_limit.1 in omega (arith, most)) refl two.1 in
      let four : c.in-Some-after.text.now ≡ r4 = (let h = c.in-Some-after.ensures.found r4 three.1 in cc) in
      rw c.in_default-3.is at (c.in_ok-locals.ensures.found (entries base.locals) r5 (locals_pieces base is) four);
}

pub returns-in_default-4 : goal.returns-in_default-4
returns-in_default-4 c = record {
  found = λ base is text.
      let r5 = members_text true (log_members base.purges base.update_seq) ++ codes ",\"couch_history\":2}" in
      let r4 = compact_text (array (items_of (map kept_local_data (entries base.locals)))) ++ r5 in
      let r3 = codes ",\"locals\":" ++ r4 in
      let r2 = codes ",\"limit\":" ++ (decimal base.revs_limit ++ r3) in
      let r1 = compact_text (array (items_of (map record_data (entries base.docs)))) ++ r2 in
      let all = text ∙ base_pieces base in
      let one : c.in-Some.text.now ≡ r1 = (let h = c.in-Some.ensures.found r1 all in cc) in
      let two = rw c.in-Some-2.is at (c.in_ok-documents.ensures.found (entries base.docs) r2 (documents_pieces base is) one) in
      let three = c.in-Some-read_small_number.ensures.found base.revs_limit r3 (let most = is.database.revs_limit.1 in omega (arith, most)) refl two.1 in
      let four : c.in-Some-after.text.now ≡ r4 = (let h = c.in-Some-after.ensures.found r4 three.1 in cc) in
      let five = rw c.in-Some-3.is at (c.in_ok-locals.ensures.found (entries base.locals) r5 (locals_pieces base is) four) in
      rw c.in_default-4.is at (c.in_ok-log.ensures base (codes ",\"couch_history\":2}") is five.1);
}

pub returns : goal.returns
returns c = record {
  found = λ base is text.
      let r5 = members_text true (log_members base.purges base.update_seq) ++ codes ",\"couch_history\":2}" in
      let r4 = compact_text (array (items_of (map kept_local_data (entries base.locals)))) ++ r5 in
      let r3 = codes ",\"locals\":" ++ r4 in
      let r2 = codes ",\"limit\":" ++ (decimal base.revs_limit ++ r3) in
      let r1 = compact_text (array (items_of (map record_data (entries base.docs)))) ++ r2 in
      let all = text ∙ base_pieces base in
      let one : c.in-Some.text.now ≡ r1 = (let h = c.in-Some.ensures.found r1 all in cc) in
      let two = rw c.in-Some-2.is at (c.in_ok-documents.ensures.found (entries base.docs) r2 (documents_pieces base is) one) in
      let three = c.in-Some-read_small_number.ensures.found base.revs_limit r3 (let most = is.database.revs_limit.1 in omega (arith, most)) refl two.1 in
      let four : c.in-Some-after.text.now ≡ r4 = (let h = c.in-Some-after.ensures.found r4 three.1 in cc) in
      let five = rw c.in-Some-3.is at (c.in_ok-locals.ensures.found (entries base.locals) r5 (locals_pieces base is) four) in
      let six = rw c.in-Some-4.is at (c.in_ok-log.ensures base (codes ",\"couch_history\":2}") is five.1) in
      record {
        docs = sym two.0 ∙ map-id c.in-Some-2.documents.items;
        locals = sym five.0 ∙ map-id c.in-Some-3.locals.items;
        update_seq = six.1;
        purges = six.0;
        revs_limit = sym three.0;
      };
}
