use Rattle.std.proofs.Common.{◌≡◌, true, false, true≢false, refl, sym, ap, ◌∙◌}
use Rattle.std.proofs.Concat.{String-len_is}
use Rattle.serde_json.specs.Data.{object}
use Rattle.serde_json.specs.View.{members_view}
use Rattle.serde_json.specs.Written.{compact_text}
use Rattle.json_profile.specs.Joined.{join, has_member, front_of}
use Rattle.json_profile.proofs.Kept.{nothing, emptied}
use Rattle.json_profile.proofs.Joined.{inside}
use Rattle.json_profile.proofs.Sides.{sides, join-none, some_member, split-back, split-front, text-both, read-plain}
use Rattle.json_profile.proofs.body.written.Goals as goal

pub object_text-requires : goal.object_text-requires
object_text-requires c = c.requires.whole

pub returns-then-not-begins_in_front-clause-reads_back : goal.returns-then-not-begins_in_front-clause-reads_back
returns-then-not-begins_in_front-clause-reads_back c shallow = read-plain c.requires shallow c.in_ok-object_text.ensures

pub returns-then-not-begins_in_front-clause-split : goal.returns-then-not-begins_in_front-clause-split
returns-then-not-begins_in_front-clause-split c =
    let none : false ≡ has_member (front_of (members_view c.args.members.entries)) = cc in
    split-back (members_view c.args.members.entries) none

pub object_text-requires-2 : goal.object_text-requires-2
object_text-requires-2 c =
    let s = sides c.split_off.new.self.entries c.in_ok-back.back.entries c.in_ok-back.ensures.parts c.in_ok-back.ensures.all_below c.in_ok-back.ensures.all_from c.requires.whole in
    s.whole.0

pub returns-then-is_empty-clause-reads_back : goal.returns-then-is_empty-clause-reads_back
returns-then-is_empty-clause-reads_back c shallow =
    let s = sides c.split_off.new.self.entries c.in_ok-back.back.entries c.in_ok-back.ensures.parts c.in_ok-back.ensures.all_below c.in_ok-back.ensures.all_from c.requires.whole in
    let none = emptied c.in_ok-back.back.entries (c.if-is_empty.ensures.0 refl) in
    let F = members_view c.split_off.new.self.entries in
    let all = s.all ∙ ap (join F) none ∙ join-none F in
    read-plain c.requires shallow (c.in_ok-front_text.ensures ∙ sym (ap (λ os. compact_text (object os)) all))

pub returns-then-is_empty-clause-split : goal.returns-then-is_empty-clause-split
returns-then-is_empty-clause-split c =
    let s = sides c.split_off.new.self.entries c.in_ok-back.back.entries c.in_ok-back.ensures.parts c.in_ok-back.ensures.all_below c.in_ok-back.ensures.all_from c.requires.whole in
    rw (c.len-split.ensures ∙ String-len_is c.in_ok-front_text.front_text) (split-front s c.in_ok-front_text.ensures)

pub object_text-requires-3 : goal.object_text-requires-3
object_text-requires-3 c =
    let s = sides c.split_off.new.self.entries c.in_ok-back.back.entries c.in_ok-back.ensures.parts c.in_ok-back.ensures.all_below c.in_ok-back.ensures.all_from c.requires.whole in
    s.whole.1

pub with_members_behind-requires-clause-last : goal.with_members_behind-requires-clause-last
with_members_behind-requires-clause-last c =
    let F = members_view c.split_off.new.self.entries in
    rw (c.len-split.ensures ∙ String-len_is c.in_ok-front_text.front_text, c.in_ok-front_text.ensures) (inside F).last

pub with_members_behind-requires-clause-first : goal.with_members_behind-requires-clause-first
with_members_behind-requires-clause-first c =
    let B = members_view c.in_ok-back.back.entries in
    rw (c.as_str.ensures.value ∙ c.in_ok-back_text.ensures) (inside B).first

pub returns-clause-text : goal.returns-clause-text
returns-clause-text c =
    let s = sides c.split_off.new.self.entries c.in_ok-back.back.entries c.in_ok-back.ensures.parts c.in_ok-back.ensures.all_below c.in_ok-back.ensures.all_from c.requires.whole in
    let begins : has_member (front_of (members_view c.args.members.entries)) ≡ true = cc in
    let some = ap has_member (sym s.front_is) ∙ begins in
    let others = some_member (members_view c.in_ok-back.back.entries) (λ e. true≢false (sym (c.is_empty.ensures.1 (nothing c.in_ok-back.back.entries e)) ∙ c.if-is_empty.false)) in
    c.in_ok-text.ensures ∙ rw (c.len-split.ensures ∙ String-len_is c.in_ok-front_text.front_text) (text-both s some others c.in_ok-front_text.ensures (c.as_str.ensures.value ∙ c.in_ok-back_text.ensures))

pub returns-clause-reads_back : goal.returns-clause-reads_back
returns-clause-reads_back c shallow = read-plain c.requires shallow (returns-clause-text c)

pub returns-clause-split : goal.returns-clause-split
returns-clause-split c =
    let s = sides c.split_off.new.self.entries c.in_ok-back.back.entries c.in_ok-back.ensures.parts c.in_ok-back.ensures.all_below c.in_ok-back.ensures.all_from c.requires.whole in
    rw (c.len-split.ensures ∙ String-len_is c.in_ok-front_text.front_text) (split-front s c.in_ok-front_text.ensures)
