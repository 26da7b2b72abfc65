-- What is known to be in a journal.
use Rattle.std.proofs.Common.{◌≡◌, ◌≢◌, ℕ, zero, suc, ◌==◌, ◌<◌, ◌≤◌, [], ◌∷◌, ◌++◌, List, Bool, true, false, length, refl, ap, sym, subst, ◌∙◌, arith, slice_index_or}
use Rattle.std.proofs.lemmas.Bool.Decides.{nat_tests}
use Rattle.std.specs.Prelude.{MatchBool}
use mathlib.Core.List.{IsPrefix}
use Rattle.model.specs.Command.{Entry}
use Rattle.version_log.specs.Histories.{newest}
use Rattle.version_log.proofs.Growing.{newest_after-append}
use Rattle.version_log.proofs.Prefixes.{prefix_length, prefix_self, prefix_trans, prefix_whole}
use Rattle.durable_calls.specs.Kept.{Answering, IsPast, IsShown, IsWithin}
use Rattle.journal_front.specs.Keeping.{IsProgress}
use Rattle.journal_front.specs.Server.{AllJournaled}

pub when_true : (b : Bool) (A B : Type 0) → b ≡ true → MatchBool b A B → A
when_true true A B is both = both
when_true false A B is both = absurd (cc is)

pub when_false : (b : Bool) (A B : Type 0) → b ≡ false → MatchBool b A B → B
when_false true A B is both = absurd (cc is)
when_false false A B is both = both

-- what was published last is the newest
newest_published : (published : List (List Entry)) (h : List Entry) → newest (published ++ h ∷ []) ≡ h
newest_published published h = newest_after-append [] published (h ∷ [])

pub newest_by : (b : Bool) (old new : List (List Entry)) (h : List Entry) → b ≡ true → MatchBool b (new ≡ old ++ h ∷ []) (new ≡ old) → newest new ≡ h
newest_by b old new h is published = ap newest (when_true b (new ≡ old ++ h ∷ []) (new ≡ old) is published) ∙ newest_published old h

-- entries that others begin with are these, or more of them
pub all_or_more : (journaled entries : List Entry) (known place : ℕ) → known ≡ length journaled → place ≡ length entries → IsPrefix journaled entries
    → MatchBool (known == place) (journaled ≡ entries) (length journaled < length entries)
all_or_more journaled entries known place known_is place_is begins = go (known == place) refl
  where
    go : (t : Bool) → (known == place) ≡ t → MatchBool t (journaled ≡ entries) (length journaled < length entries)
    go true is =
        let same : known ≡ place = grind (arith, nat_tests) in
        prefix_whole journaled entries begins (omega (arith, same, known_is, place_is))
    go false is =
        let other : known ≢ place = grind (arith, nat_tests) in
        omega (arith, other, known_is, place_is, prefix_length journaled entries begins)

-- a beginning of entries begins what goes on from these
past_more : (is_known : List Entry → Type 0) (place : ℕ) (old new : List Entry) → IsPrefix old new → IsPast is_known place old → IsPast is_known place new
past_more is_known place old new more past = λ some. let p = past some in (p.0, prefix_trans p.0 old new p.1 more, p.2, p.3)

within_more : (is_limit : ℕ → List Entry → Type 0) (number : ℕ) (old new : List Entry) → IsPrefix old new → IsWithin is_limit number old → IsWithin is_limit number new
within_more is_limit number old new more (limit, known, begins, below, shown) = (limit, known, prefix_trans known old new begins more, below, shown)

-- what is past a place is past an earlier one
past_before : (is_known : List Entry → Type 0) (place later : ℕ) (journaled : List Entry) → place ≤ later → IsPast is_known later journaled → IsPast is_known place journaled
past_before is_known place later journaled within past = λ some.
    let p = past (omega (arith, some, within)) in (p.0, p.1, omega (arith, within, p.2), p.3)

module _ (is_appended is_kept : List Entry → Type 0) (is_limit : ℕ → List Entry → Type 0) where
  -- a journal of no entries
  pub none_yet : (limit : ℕ) (journaled : List Entry) → journaled ≡ [] → is_limit limit [] → IsProgress is_appended is_kept is_limit 0 0 limit journaled
  none_yet limit journaled none shown = record {
    count = sym (ap length none);
    appended_is = λ some. absurd (omega (arith, some));
    kept_is = λ some. absurd (omega (arith, some));
    limit_is = (limit, [], (journaled, refl), omega arith, shown);
  }

  module _ (appended kept limit : ℕ) (journaled : List Entry) (p : IsProgress is_appended is_kept is_limit appended kept limit journaled) where
    -- what it covers may be shown
    pub covered : (awaits : Bool) (place number : ℕ) → place ≤ appended → number ≤ limit → (awaits ≡ true → place ≤ kept) → IsShown is_appended is_kept is_limit awaits place number journaled
    covered awaits place number within below behind = record {
      appended = λ some. (journaled, prefix_self journaled, omega (arith, within, p.count), p.appended_is (omega (arith, some, within)));
      kept = λ waits. past_before is_kept place kept journaled (behind waits) p.kept_is;
      within = below_limit p.limit_is;
    }
      where
        below_limit : IsWithin is_limit limit journaled → IsWithin is_limit number journaled
        below_limit (most, known, begins, under, shown) = (most, known, begins, omega (arith, below, under), shown)

    -- more entries were appended
    pub appended_more : (new : List Entry) (places : ℕ) → IsPrefix journaled new → places ≡ length new → is_appended new → IsProgress is_appended is_kept is_limit places kept limit new
    appended_more new places more count known = record {
      count = count;
      appended_is = λ _. known;
      kept_is = past_more is_kept kept journaled new more p.kept_is;
      limit_is = within_more is_limit limit journaled new more p.limit_is;
    }

    -- all that is appended is kept
    pub kept_all : (number : ℕ) → is_kept journaled → is_limit number journaled → IsProgress is_appended is_kept is_limit appended appended number journaled
    kept_all number known shown = record {
      count = p.count;
      appended_is = p.appended_is;
      kept_is = λ _. (journaled, prefix_self journaled, omega (arith, p.count), known);
      limit_is = (number, journaled, prefix_self journaled, omega arith, shown);
    }

-- what sessions know of
module _ {S : Type 0} (entries : List Entry) where
  pub none_journaled : (all : List (Answering S)) → all ≡ [] → AllJournaled entries all
  none_journaled all none = record { each = λ i d within. absurd (omega (arith, within, ap length none)) }

  more_journaled : (rest : List (Answering S)) (first : Answering S) → IsPrefix first.1.1 entries → AllJournaled entries rest → AllJournaled entries (first ∷ rest)
  more_journaled rest first begins all = record { each = at }
    where
      at : (i : ℕ) (d : Answering S) → i < length (first ∷ rest) → IsPrefix ((slice_index_or (first ∷ rest) i d).1.1) entries
      at zero d within = begins
      at (suc i) d within = all.each i d (omega (arith, within))

  -- one session before others
  pub before_journaled : (all rest : List (Answering S)) (first : Answering S) (learned : List Entry) → all ≡ first ∷ rest → learned ≡ first.1.1 → IsPrefix learned entries → AllJournaled entries rest → AllJournaled entries all
  before_journaled all rest first learned all_is learned_is begins others =
      subst (λ (ks : List (Answering S)). AllJournaled entries ks) (sym all_is) (more_journaled rest first (subst (λ (es : List Entry). IsPrefix es entries) learned_is begins) others)

-- entries that go on from those which sessions know of
pub journaled_more : {S : Type 0} (old new : List Entry) (all : List (Answering S)) → IsPrefix old new → AllJournaled old all → AllJournaled new all
journaled_more old new all more journaled = record { each = λ i d within. prefix_trans ((slice_index_or all i d).1.1) old new (journaled.each i d within) more }
