-- A member that is put among others keeps the profile.
use Rattle.std.proofs.Common.{◌≡◌, ℕ, ◌≤◌, true, ◌&&◌, List, Ordering, Less, Equal, Greater, nat_cmp, arith}
use Rattle.std.specs.Cmp.Lexicographic.{slice_cmp}
use Rattle.std.specs.Ordering.{match_ordering}
use Rattle.std.specs.Str.{is_utf8}
use Rattle.std.proofs.lemmas.Bool.{and_from, and_parts}
use Rattle.serde_json.specs.Data.{Data, Members, no_members, member, put, members_depth}
use Rattle.json_profile.proofs.Order.{members_ordered-put}
use Rattle.model.specs.Profile.{has_utf8, is_whole, members_have_utf8, members_whole}
use Rattle.history_json.proofs.Sound.{Sound, SoundMembers}

-- the profile, but for the order
record Fit (n : ℕ) (ms : Members) : Type 0 where
  whole : members_whole ms ≡ true
  utf8 : members_have_utf8 ms ≡ true
  nest : members_depth ms ≤ n

more : (n : ℕ) (k : List ℕ) (d : Data) (ms : Members) → is_utf8 k ≡ true → Sound n d → Fit n ms → Fit n (member k d ms)
more n k d ms name value rest =
    let here = value.nests in
    let behind = rest.nest in
    record {
      whole = and_from _ _ value.whole rest.whole;
      utf8 = and_from _ _ (and_from _ _ name value.utf8) rest.utf8;
      nest = omega (arith, here, behind);
    }

-- the same, of a name and a value that came before
kept : (n : ℕ) (k : List ℕ) (d : Data) (old ms : Members) → Fit n (member k d old) → Fit n ms → Fit n (member k d ms)
kept n k d old ms stood rest =
    let here = stood.nest in
    let behind = rest.nest in
    record {
      whole = and_from _ _ (and_parts (is_whole d) (members_whole old) stood.whole).0 rest.whole;
      utf8 = and_from _ _ (and_parts (is_utf8 k && has_utf8 d) (members_have_utf8 old) stood.utf8).0 rest.utf8;
      nest = omega (arith, here, behind);
    }

behind : (n : ℕ) (k : List ℕ) (d : Data) (ms : Members) → Fit n (member k d ms) → Fit n ms
behind n k d ms stood =
    let here = stood.nest in
    record {
      whole = (and_parts (is_whole d) (members_whole ms) stood.whole).1;
      utf8 = (and_parts (is_utf8 k && has_utf8 d) (members_have_utf8 ms) stood.utf8).1;
      nest = omega (arith, here);
    }

fit-put : (n : ℕ) (k : List ℕ) (d : Data) (ms : Members) → is_utf8 k ≡ true → Sound n d → Fit n ms → Fit n (put k d ms)
fit-put n k d no_members name value h = more n k d no_members name value h
fit-put n k d (member l e ms) name value h = at (slice_cmp nat_cmp k l) (fit-put n k d ms name value (behind n l e ms h))
  where
    renamed : Fit n (member l d ms)
    renamed =
        let rest = behind n l e ms h in
        let utf8 = (and_parts (is_utf8 l) (has_utf8 e) (and_parts (is_utf8 l && has_utf8 e) (members_have_utf8 ms) h.utf8).0).0 in
        more n l d ms utf8 value rest

    at : (o : Ordering) → Fit n (put k d ms) → Fit n (match_ordering o (member k d (member l e ms)) (member l d ms) (member l e (put k d ms)))
    at Less later = more n k d (member l e ms) name value h
    at Equal later = renamed
    at Greater later = kept n l e ms (put k d ms) h later

pub sound-put : (n : ℕ) (k : List ℕ) (d : Data) (ms : Members) → is_utf8 k ≡ true → Sound n d → SoundMembers n ms → SoundMembers n (put k d ms)
sound-put n k d ms name value h =
    let fit = fit-put n k d ms name value (record { whole = h.whole; utf8 = h.utf8; nest = h.nest }) in
    record { whole = fit.whole; utf8 = fit.utf8; ordered = members_ordered-put k d ms value.ordered h.ordered; nest = fit.nest }
