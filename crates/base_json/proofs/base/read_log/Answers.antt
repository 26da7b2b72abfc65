use Rattle.std.proofs.Common.{◌≡◌, ◌++◌, map, decimal, refl, sym, ◌∙◌, arith}
use Rattle.std.specs.Prelude.{codes}
use Rattle.serde_json.specs.Data.{array}
use Rattle.serde_json.specs.View.{items_of}
use Rattle.serde_json.specs.Written.{compact_text}
use Rattle.purge.specs.Log.{infos_of}
use Rattle.base_json.specs.Base.{purge_info_data}
use Rattle.base_json.proofs.BaseLists.{listed_base, purges_pieces}
use Rattle.base_json.proofs.BaseTexts.{log_pieces}
use Rattle.base_json.proofs.base.read_log.Goals as goal

pub returns-in_default : goal.returns-in_default
returns-in_default c = λ base rest is text.
    let r3 = codes ",\"update_seq\":" ++ (decimal base.update_seq ++ (codes "}" ++ rest)) in
    let r2 = codes ",\"purges\":" ++ (compact_text (array (items_of (map purge_info_data base.purges.infos))) ++ r3) in
    let r1 = codes ",\"purged_limit\":" ++ (decimal base.purges.limit ++ r2) in
    let all = text ∙ log_pieces base.purges base.update_seq rest in
    let sizes = listed_base base is in
    c.in_default.ensures.found base.purges.purge_seq r1 sizes.purge_seq refl all

pub returns-in_default-read_small_number : goal.returns-in_default-read_small_number
returns-in_default-read_small_number c = λ base rest is text.
    let r3 = codes ",\"update_seq\":" ++ (decimal base.update_seq ++ (codes "}" ++ rest)) in
    let r2 = codes ",\"purges\":" ++ (compact_text (array (items_of (map purge_info_data base.purges.infos))) ++ r3) in
    let r1 = codes ",\"purged_limit\":" ++ (decimal base.purges.limit ++ r2) in
    let all = text ∙ log_pieces base.purges base.update_seq rest in
    let sizes = listed_base base is in
    let one = c.in-Some.ensures.found base.purges.purge_seq r1 sizes.purge_seq refl all in
    c.in_default-read_small_number.ensures.found base.purges.limit r2 (let most = is.database.log.limit.1 in omega (arith, most)) refl one.1

pub returns-in_default-after : goal.returns-in_default-after
returns-in_default-after c = λ base rest is text.
    let r3 = codes ",\"update_seq\":" ++ (decimal base.update_seq ++ (codes "}" ++ rest)) in
    let r2 = codes ",\"purges\":" ++ (compact_text (array (items_of (map purge_info_data base.purges.infos))) ++ r3) in
    let r1 = codes ",\"purged_limit\":" ++ (decimal base.purges.limit ++ r2) in
    let all = text ∙ log_pieces base.purges base.update_seq rest in
    let sizes = listed_base base is in
    let one = c.in-Some.ensures.found base.purges.purge_seq r1 sizes.purge_seq refl all in
    let two = c.in-Some-read_small_number.ensures.found base.purges.limit r2 (let most = is.database.log.limit.1 in omega (arith, most)) refl one.1 in
    let none = c.in_default-after.ensures.found (compact_text (array (items_of (map purge_info_data base.purges.infos))) ++ r3) two.1 in
    absurd (cc)

pub returns-in_default-2 : goal.returns-in_default-2
returns-in_default-2 c = λ base rest is text.
    let r3 = codes ",\"update_seq\":" ++ (decimal base.update_seq ++ (codes "}" ++ rest)) in
    let r2 = codes ",\"purges\":" ++ (compact_text (array (items_of (map purge_info_data base.purges.infos))) ++ r3) in
    let r1 = codes ",\"purged_limit\":" ++ (decimal base.purges.limit ++ r2) in
    let all = text ∙ log_pieces base.purges base.update_seq rest in
    let sizes = listed_base base is in
    let one = c.in-Some.ensures.found base.purges.purge_seq r1 sizes.purge_seq refl all in
    let two = c.in-Some-read_small_number.ensures.found base.purges.limit r2 (let most = is.database.log.limit.1 in omega (arith, most)) refl one.1 in
    let three : c.in-Some-after.text.now ≡ compact_text (array (items_of (map purge_info_data base.purges.infos))) ++ r3 =
    (let h = c.in-Some-after.ensures.found (compact_text (array (items_of (map purge_info_data base.purges.infos))) ++ r3) two.1 in cc) in
    rw c.in_default-2.is at (c.in_ok-purges.ensures.found base.purges.infos r3 (purges_pieces base is) three)

pub returns-in_default-read_number : goal.returns-in_default-read_number
returns-in_default-read_number c = λ base rest is text.
    let r3 = codes ",\"update_seq\":" ++ (decimal base.update_seq ++ (codes "}" ++ rest)) in
    let r2 = codes ",\"purges\":" ++ (compact_text (array (items_of (map purge_info_data base.purges.infos))) ++ r3) in
    let r1 = codes ",\"purged_limit\":" ++ (decimal base.purges.limit ++ r2) in
    let all = text ∙ log_pieces base.purges base.update_seq rest in
    let sizes = listed_base base is in
    let one = c.in-Some.ensures.found base.purges.purge_seq r1 sizes.purge_seq refl all in
    let two = c.in-Some-read_small_number.ensures.found base.purges.limit r2 (let most = is.database.log.limit.1 in omega (arith, most)) refl one.1 in
    let three : c.in-Some-after.text.now ≡ compact_text (array (items_of (map purge_info_data base.purges.infos))) ++ r3 =
    (let h = c.in-Some-after.ensures.found (compact_text (array (items_of (map purge_info_data base.purges.infos))) ++ r3) two.1 in cc) in
    let four = rw c.in-Some-2.is at (c.in_ok-purges.ensures.found base.purges.infos r3 (purges_pieces base is) three) in
    c.in_default-read_number.ensures.found base.update_seq (codes "}" ++ rest) sizes.update_seq refl four.1

pub returns : goal.returns
returns c = λ base rest is text.
    let r3 = codes ",\"update_seq\":" ++ (decimal base.update_seq ++ (codes "}" ++ rest)) in
    let r2 = codes ",\"purges\":" ++ (compact_text (array (items_of (map purge_info_data base.purges.infos))) ++ r3) in
    let r1 = codes ",\"purged_limit\":" ++ (decimal base.purges.limit ++ r2) in
    let all = text ∙ log_pieces base.purges base.update_seq rest in
    let sizes = listed_base base is in
    let one = c.in-Some.ensures.found base.purges.purge_seq r1 sizes.purge_seq refl all in
    let two = c.in-Some-read_small_number.ensures.found base.purges.limit r2 (let most = is.database.log.limit.1 in omega (arith, most)) refl one.1 in
    let three : c.in-Some-after.text.now ≡ compact_text (array (items_of (map purge_info_data base.purges.infos))) ++ r3 =
    (let h = c.in-Some-after.ensures.found (compact_text (array (items_of (map purge_info_data base.purges.infos))) ++ r3) two.1 in cc) in
    let four = rw c.in-Some-2.is at (c.in_ok-purges.ensures.found base.purges.infos r3 (purges_pieces base is) three) in
    let five = c.in-Some-read_number.ensures.found base.update_seq (codes "}" ++ rest) sizes.update_seq refl four.1 in
    let infos : infos_of c.in-Some-2.purges.items ≡ base.purges.infos = four.0 in (
      λ i. record { purge_seq = sym one.0 i; infos = sym infos i; limit = sym two.0 i },
      sym five.0,
    )
