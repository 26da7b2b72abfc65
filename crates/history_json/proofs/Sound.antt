-- Values of the profile, and what is made of them.
use Rattle.std.proofs.Common.{◌≡◌, ℕ, ◌+◌, ◌^◌, ◌≤◌, List, [], ◌∷◌, Bool, true, false, ◌&&◌, max, refl, All, map, arith, IsUtf8}
use Rattle.std.specs.Str.{is_utf8}
use Rattle.std.proofs.lemmas.Bool.{lt-ltb}
use Rattle.std.proofs.lemmas.List.Elements.{All-head, All-tail}
use Rattle.std.proofs.lemmas.Str.{is_utf8-from_IsUtf8}
use Rattle.serde_json.specs.Data.{Data, unsigned, number, boolean, string, array, object, Items, item, Members, no_members, member, depth, items_depth, members_depth}
use Rattle.serde_json.specs.Read.{max_depth}
use Rattle.serde_json.specs.View.{items_of}
use Rattle.serde_json.specs.Written.{compact_text}
use Rattle.model.specs.Body.{Body, IsBody}
use Rattle.model.specs.Profile.{IsTextOf, is_whole, items_whole, members_whole, has_utf8, items_have_utf8, members_have_utf8, is_before, is_ordered, items_ordered, members_ordered}
use Rattle.model.proofs.ProfileLaws.{IsTextOf-compact_text}

-- a value of the profile that nests no deeper
pub record Sound (n : ℕ) (d : Data) : Type 0 where
  pub whole : is_whole d ≡ true
  pub utf8 : has_utf8 d ≡ true
  pub ordered : is_ordered d ≡ true
  pub nests : depth d ≤ n

pub record SoundItems (n : ℕ) (ds : Items) : Type 0 where
  pub whole : items_whole ds ≡ true
  pub utf8 : items_have_utf8 ds ≡ true
  pub ordered : items_ordered ds ≡ true
  pub nest : items_depth ds ≤ n

pub record SoundMembers (n : ℕ) (ms : Members) : Type 0 where
  pub whole : members_whole ms ≡ true
  pub utf8 : members_have_utf8 ms ≡ true
  pub ordered : members_ordered ms ≡ true
  pub nest : members_depth ms ≤ n

pub both : (a b : Bool) → a ≡ true → b ≡ true → (a && b) ≡ true
both true b g h = h
both false b g h = g

most : (a b n : ℕ) → a ≤ n → b ≤ n → max a b ≤ n
most a b n g h = omega arith

-- ---- parts

pub sound_boolean : (n : ℕ) (b : Bool) → Sound n (boolean b)
sound_boolean n b = record { whole = refl; utf8 = refl; ordered = refl; nests = omega arith }

pub sound_number : (n m : ℕ) → m ≤ 9223372036854775807 → Sound n (number (unsigned m))
sound_number n m h = record { whole = lt-ltb m (2 ^ 63) (omega arith); utf8 = refl; ordered = refl; nests = omega arith }

pub sound_string : (n : ℕ) (s : List ℕ) → IsUtf8 s → Sound n (string s)
sound_string n s h = record { whole = refl; utf8 = is_utf8-from_IsUtf8 s h; ordered = refl; nests = omega arith }

pub sound_body : (n : ℕ) (body : Body) → 64 ≤ n → IsBody body → Sound n (object body)
sound_body n body le h = record { whole = h.whole; utf8 = h.utf8; ordered = h.ordered; nests = omega (arith, h.nests) }

pub sound_deeper : (n m : ℕ) (d : Data) → n ≤ m → Sound n d → Sound m d
sound_deeper n m d le h = record { whole = h.whole; utf8 = h.utf8; ordered = h.ordered; nests = omega (arith, h.nests) }

-- ---- arrays

pub sound_array : (n : ℕ) (ds : Items) → SoundItems n ds → Sound (n + 1) (array ds)
sound_array n ds h = record { whole = h.whole; utf8 = h.utf8; ordered = h.ordered; nests = omega (arith, h.nest) }

pub sound_item : (n : ℕ) (d : Data) (ds : Items) → Sound n d → SoundItems n ds → SoundItems n (item d ds)
sound_item n d ds g h = record {
  whole = both _ _ g.whole h.whole;
  utf8 = both _ _ g.utf8 h.utf8;
  ordered = both _ _ g.ordered h.ordered;
  nest = most (depth d) (items_depth ds) n g.nests h.nest;
}

pub sound_items : {X : Type 0} (n : ℕ) (of : X → Data) (P : X → Type 0) → ((x : X) → P x → Sound n (of x)) → (xs : List X) → All P xs → SoundItems n (items_of (map of xs))
sound_items n of P sound [] h = record { whole = refl; utf8 = refl; ordered = refl; nest = omega arith }
sound_items n of P sound (x ∷ xs) h = sound_item n (of x) (items_of (map of xs)) (sound x (All-head P x xs h)) (sound_items n of P sound xs (All-tail P x xs h))

-- ---- objects

pub sound_object : (n : ℕ) (ms : Members) → SoundMembers n ms → Sound (n + 1) (object ms)
sound_object n ms h = record { whole = h.whole; utf8 = h.utf8; ordered = h.ordered; nests = omega (arith, h.nest) }

pub sound_none : (n : ℕ) → SoundMembers n no_members
sound_none n = record { whole = refl; utf8 = refl; ordered = refl; nest = omega arith }

pub sound_member : (n : ℕ) (k : List ℕ) (d : Data) (ms : Members) → is_utf8 k ≡ true → is_before k ms ≡ true → Sound n d → SoundMembers n ms → SoundMembers n (member k d ms)
sound_member n k d ms name before g h = record {
  whole = both _ _ g.whole h.whole;
  utf8 = both (is_utf8 k && has_utf8 d) (members_have_utf8 ms) (both (is_utf8 k) (has_utf8 d) name g.utf8) h.utf8;
  ordered = both (is_before k ms && is_ordered d) (members_ordered ms) (both (is_before k ms) (is_ordered d) before g.ordered) h.ordered;
  nest = most (depth d) (members_depth ms) n g.nests h.nest;
}

-- ---- what is written reads back

pub sound_text : (n : ℕ) (d : Data) → n ≤ 72 → Sound n d → IsTextOf d (compact_text d)
sound_text n d le h = let shallow : depth d ≤ max_depth = omega (arith, h.nests) in IsTextOf-compact_text d h.whole h.utf8 h.ordered shallow
