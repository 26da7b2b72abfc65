use Rattle.std.proofs.Common.{◌≡◌, false, [], ◌∷◌, ◌++◌, map, take, drop, get_or, string_bytes, refl, sym, ap, subst, ◌∙◌, arith}
use Rattle.std.proofs.KnownBytes.{Appends-nil}
use Rattle.std.proofs.lemmas.List.{map_more, take_all}
use Rattle.serde_json.specs.Written.{comma_if, compact_text}
use Rattle.api_json.specs.List.{stands_after}
use Rattle.api_json.proofs.ListTexts.{stands_after-push}
use Rattle.http_response.specs.Pieces.{Keeps}
use Rattle.http_response.proofs.PiecedTexts.{cut_list, keeps_less, last_cut, last_taken, list_so_far, map-parts, put_one}
use Rattle.http_response.proofs.listed.write_list.Goals as goal

pub loop-item-init : goal.loop-item-init
loop-item-init g c = (λ of tells. (record { sent = []; takes = Appends-nil _; is = c.in_ok-push_str.ensures.bytes }, refl), refl)

pub returns-in_err-text-clause-written : goal.returns-in_err-text-clause-written
returns-in_err-text-clause-written g c of tells =
    let items = c.args.items.now in
    let at = c.loop-item.item-index in
    cut_list _ _ (string_bytes c.args.first) c.args.after.now _ (map of (take at items)) (map of (drop at items)) (map of items)
    c.from_residual-in_err-text.result c.from_residual-in_err-text.ensures.0 (map-parts of at items) (c.loop-item.invariant.0 of tells).0

pub returns-in_err-make_room-clause-written : goal.returns-in_err-make_room-clause-written
returns-in_err-make_room-clause-written g c of tells =
    let items = c.args.items.now in
    let at = c.loop-item.item-index in
    cut_list _ _ (string_bytes c.args.first) c.args.after.now _ (map of (take at items)) (map of (drop at items)) (map of items)
    c.from_residual-in_err-make_room.result c.from_residual-in_err-make_room.ensures.0 (map-parts of at items)
    (keeps_less _ _ _ _ _ _ (c.loop-item.invariant.0 of tells).0 c.make_room.ensures.kept.1)

pub returns-in_err-put_item-clause-written : goal.returns-in_err-put_item-clause-written
returns-in_err-put_item-clause-written g c of tells =
    let items = c.args.items.now in
    let at = c.loop-item.item-index in
    cut_list _ _ (string_bytes c.args.first) c.args.after.now _ (map of (take at items)) (map of (drop at items)) (map of items)
    c.from_residual-in_err-put_item.result c.from_residual-in_err-put_item.ensures.0 (map-parts of at items)
    (keeps_less _ _ _ _ _ _ (c.loop-item.invariant.0 of tells).0 c.make_room.ensures.kept.1)

pub loop-item-preserved : goal.loop-item-preserved
loop-item-preserved g c = (
  λ of tells.
      let items = c.args.items.now in
      let at = c.loop-item.item-index in
      let before = map of (take at items) in
      let d = of (get_or items at c.item-item.result) in
      let inv = c.loop-item.invariant.0 of tells in
      let room = c.in_ok-make_room.ensures.kept in
      let item : c.as_str.result.now ≡ compact_text d = c.as_str.ensures.value ∙ tells _ _ c.in_ok-text.ensures ∙ ap (λ x. compact_text (of x)) c.item-item.is in
      let put : string_bytes c.put_item.new.piece ≡ (room.0 ++ comma_if c.loop-item.later) ++ c.as_str.result.now =
      c.in_ok-put_item.ensures ∙ ap (λ k. (k ++ comma_if c.loop-item.later) ++ c.as_str.result.now) room.2 in
      let more = map_more of items at c.item-item.result (omega arith) in (
        put_one _ _ _ _ room.0 _ (string_bytes c.args.first) _ before _ d c.loop-item.later inv.0 inv.1 room.1 put item more,
        sym (ap (stands_after false) more ∙ stands_after-push false before d),
      ),
  c.in_ok-make_room.ensures.failures.0 ∙ c.loop-item.invariant.1,
)

pub returns-in_err-push_str-2-clause-written : goal.returns-in_err-push_str-2-clause-written
returns-in_err-push_str-2-clause-written g c of tells =
    let items = c.args.items.now in
    let at = c.loop-item.item-index in
    cut_list _ _ (string_bytes c.args.first) c.args.after.now _ (map of (take at items)) (map of (drop at items)) (map of items)
    c.from_residual-in_err-push_str-2.result c.from_residual-in_err-push_str-2.ensures.0 (map-parts of at items) (c.loop-item.invariant.0 of tells).0

pub returns-in_err-push_str-3-clause-written : goal.returns-in_err-push_str-3-clause-written
returns-in_err-push_str-3-clause-written g c of tells =
    let items = c.args.items.now in
    let at = c.loop-item.item-index in
    cut_list _ _ (string_bytes c.args.first) c.args.after.now _ (map of (take at items)) (map of (drop at items)) (map of items)
    c.from_residual-in_err-push_str-3.result c.from_residual-in_err-push_str-3.ensures.0 (map-parts of at items) (c.loop-item.invariant.0 of tells).0

pub returns-in_err-write_all-clause-written : goal.returns-in_err-write_all-clause-written
returns-in_err-write_all-clause-written g c of tells =
    let items = c.args.items.now in
    let first = string_bytes c.args.first in
    let after = c.args.after.now in
    let old = g.W.Sink.taken c.args.writer.now in
    let mid = g.W.Sink.taken c.loop-item.writer in
    let kept = string_bytes c.loop-item.piece in
    let keeps = subst (λ xs. Keeps old mid kept (list_so_far first (map of xs))) (take_all c.loop-item.item-index items c.loop-item-test.false) (c.loop-item.invariant.0 of tells).0 in
    let part = c.in_err-write_all.ensures.written.1 in
    let piece : c.as_bytes.result.now ≡ (kept ++ 93 ∷ []) ++ after =
    c.as_bytes.ensures.value ∙ c.in_ok-push_str-3.ensures.bytes ∙ ap (λ t. t ++ after) c.in_ok-push_str-2.ensures.bytes in
    last_cut old mid _ first after kept c.as_bytes.result.now (map of items) c.from_residual-in_err-write_all.result c.from_residual-in_err-write_all.ensures.0 keeps piece
    part.0 part.1 part.2

pub returns-clause-written : goal.returns-clause-written
returns-clause-written g c of tells =
    let items = c.args.items.now in
    let first = string_bytes c.args.first in
    let after = c.args.after.now in
    let old = g.W.Sink.taken c.args.writer.now in
    let mid = g.W.Sink.taken c.loop-item.writer in
    let kept = string_bytes c.loop-item.piece in
    let keeps = subst (λ xs. Keeps old mid kept (list_so_far first (map of xs))) (take_all c.loop-item.item-index items c.loop-item-test.false) (c.loop-item.invariant.0 of tells).0 in
    let piece : c.as_bytes.result.now ≡ (kept ++ 93 ∷ []) ++ after =
    c.as_bytes.ensures.value ∙ c.in_ok-push_str-3.ensures.bytes ∙ ap (λ t. t ++ after) c.in_ok-push_str-2.ensures.bytes in (
      last_taken old mid _ first after kept c.as_bytes.result.now (map of items) keeps piece c.in_ok-write_all.ensures.written.0,
      tt,
    )
