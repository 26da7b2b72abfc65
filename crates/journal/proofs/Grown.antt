-- Dumps that grow.
use Rattle.std.proofs.Common.{◌≡◌, ℕ, ◌≤◌, false, List, [], ◌++◌, length, take, drop, refl, inl, inr, sym, ap, subst, ◌∙◌, arith, length-append}
use Rattle.std.specs.Prelude.{Option, Some, None, Result, Ok, Err, IfSome, IfOk, OnOk}
use Rattle.std.specs.List.{flat_map}
use Rattle.std.proofs.lemmas.List.{append-nil, append_assoc, take-append-drop, take-append-le, take_all}
use Rattle.std.proofs.lemmas.List.Concat.{flat_map-append}
use Rattle.std.proofs.Math.Seq.{drop-append_seam}
use mathlib.Core.List.{IsPrefix}
use Rattle.model.specs.Command.{Entry}
use Rattle.model.specs.Database.{Database}
use Rattle.model.specs.History.{Chronicle, Extends}
use Rattle.history_dump.specs.Dump.{dump_text, entry_line, first_line}
use Rattle.journal.specs.Kept.{Kept}
use Rattle.journal.specs.Files.{TakesAll}
use Rattle.journal.specs.Held.{AreDump, BeginsDump, HoldsDump, begun, up_to}
use Rattle.journal.specs.Appending.{AppendsAll, AppendsSome, Covers, FailsToAppend, lines_above}
use Rattle.journal.specs.declared.fault.JournalFault.{JournalFault}
use Rattle.journal.specs.declared.fault.JournalFault.TheVariants as fault

-- the lines above the last place of a history lead to the dump of one that goes on
pub dump-more : (h v : Chronicle) → Extends v h → dump_text h ++ lines_above (length h.entries) v.entries ≡ dump_text v
dump-more h v on =
    let more : drop (length h.entries) v.entries ≡ on.more = ap (drop (length h.entries)) on.entries ∙ drop-append_seam h.entries on.more in
    let base : h.base ≡ v.base = sym on.base in
    let entries : h.entries ++ on.more ≡ v.entries = sym on.entries in
    ap (λ (es : List Entry). dump_text h ++ flat_map entry_line es) more
    ∙ append_assoc (first_line h.base) (flat_map entry_line h.entries) (flat_map entry_line on.more)
    ∙ ap (λ t. first_line h.base ++ t) (sym (flat_map-append entry_line h.entries on.more))
    ∙ ap (λ (b : Option Database). first_line b ++ flat_map entry_line (h.entries ++ on.more)) base
    ∙ ap (λ (es : List Entry). first_line v.base ++ flat_map entry_line es) entries

-- up to a place that both have, they are the same
up_to-more : (h v : Chronicle) (place : ℕ) → Extends v h → place ≤ length h.entries → up_to v place ≡ up_to h place
up_to-more h v place on low =
    let base = on.base in
    let entries : take place v.entries ≡ take place h.entries = ap (take place) on.entries ∙ take-append-le place h.entries on.more low in
    λ i. record { base = base i; entries = entries i }

-- ---- known bytes that grow

taken-all : (old new : Option (List ℕ)) (bytes before after : List ℕ) → IfSome old (λ text. text ≡ before) → TakesAll old new bytes → before ++ bytes ≡ after
    → IfSome new (λ text. text ≡ after)
taken-all None new bytes before after is taken told = subst (λ (k : Option (List ℕ)). IfSome k (λ text. text ≡ after)) (sym taken) tt
taken-all (Some text) new bytes before after is taken told =
    subst (λ (k : Option (List ℕ)). IfSome k (λ t. t ≡ after)) (sym taken) (ap (λ t. t ++ bytes) is ∙ told)

prefix-all : (old new : Option (List ℕ)) (bytes rest before after : List ℕ) → IfSome old (λ text. text ≡ before) → TakesAll old new bytes → before ++ (bytes ++ rest) ≡ after
    → IfSome new (λ text. IsPrefix text after)
prefix-all None new bytes rest before after is taken told = subst (λ (k : Option (List ℕ)). IfSome k (λ text. IsPrefix text after)) (sym taken) tt
prefix-all (Some text) new bytes rest before after is taken told =
    subst (λ (k : Option (List ℕ)). IfSome k (λ t. IsPrefix t after)) (sym taken)
    (rest, ap (λ t. (t ++ bytes) ++ rest) is ∙ append_assoc before bytes rest ∙ told)

dump-begins : (known : Option (List ℕ)) (text : List ℕ) → IfSome known (λ t. t ≡ text) → IfSome known (λ t. IsPrefix t text)
dump-begins None text is = tt
dump-begins (Some t) text is = ([], append-nil t ∙ is)

-- ---- what an append and a sync leave

module _ (old new : Kept) (h v : Chronicle) (held : HoldsDump old h) (on : Extends v h) where
  told : dump_text h ++ lines_above old.place v.entries ≡ dump_text v
  told = ap (λ n. dump_text h ++ lines_above n v.entries) held.place_is ∙ dump-more h v on

  pub holds_appended : AppendsAll old new (lines_above old.place v.entries) (length v.entries) → HoldsDump new v
  holds_appended all =
      let synced : new.synced ≡ old.synced = ap (λ (k : Kept). k.synced) all.same in
      let place : new.place ≡ length v.entries = ap (λ (k : Kept). k.place) all.same in
      let covered : new.covered ≡ old.covered = ap (λ (k : Kept). k.covered) all.same in
      let broken : new.broken ≡ old.broken = ap (λ (k : Kept). k.broken) all.same in
      let low : old.synced ≤ length h.entries = omega (arith, held.few, held.place_is) in
      let longer : length h.entries ≤ length v.entries = longer-more in
      record {
        place_is = place;
        few = omega (arith, synced, place, low, longer);
        taken_is = taken-all old.taken new.taken (lines_above old.place v.entries) (dump_text h) (dump_text v) held.taken_is all.taken told;
        covered_is = subst (λ (k : Option (List ℕ)). AreDump k (up_to v new.synced)) (sym covered)
            (subst (λ n. AreDump old.covered (up_to v n)) (sym synced) (subst (AreDump old.covered) (sym (up_to-more h v old.synced on low)) held.covered_is));
        sound = broken ∙ held.sound;
      }
    where
      longer-more : length h.entries ≤ length v.entries
      longer-more = omega (arith, ap length on.entries, length-append h.entries on.more)

  pub begins_some : AppendsSome old new (lines_above old.place v.entries) → BeginsDump new v
  begins_some some =
      let bytes = lines_above old.place v.entries in
      let n = some.taken.count in
      prefix-all old.taken new.taken (take n bytes) (drop n bytes) (dump_text h) (dump_text v) held.taken_is some.taken.taken
      (ap (λ t. dump_text h ++ t) (take-append-drop n bytes) ∙ told)

  -- what holds the dump of a history begins that of one that goes on
  pub begins_more : new ≡ old → BeginsDump new v
  begins_more same =
      subst (λ (k : Kept). BeginsDump k v) (sym same) (prefix-none old.taken held.taken_is)
    where
      prefix-none : (known : Option (List ℕ)) → AreDump known h → IfSome known (λ t. IsPrefix t (dump_text v))
      prefix-none None is = tt
      prefix-none (Some t) is = (lines_above old.place v.entries, ap (λ s. s ++ lines_above old.place v.entries) is ∙ told)

pub holds_begins : (k : Kept) (v : Chronicle) → HoldsDump k v → BeginsDump k v
holds_begins k v held = dump-begins k.taken (dump_text v) held.taken_is

pub holds_covered : (old new : Kept) (place : ℕ) (h : Chronicle) → HoldsDump old h → Covers old new place → HoldsDump new h
holds_covered old new place h held covers =
    let at = ap (λ (k : Kept). k.place) covers.same in
    let synced : new.synced ≡ old.place = ap (λ (k : Kept). k.synced) covers.same in
    let covered : new.covered ≡ old.taken = ap (λ (k : Kept). k.covered) covers.same in
    let taken : new.taken ≡ old.taken = ap (λ (k : Kept). k.taken) covers.same in
    let broken : new.broken ≡ old.broken = ap (λ (k : Kept). k.broken) covers.same in
    let all : take new.synced h.entries ≡ h.entries = take_all new.synced h.entries (omega (arith, synced, held.place_is)) in
    record {
      place_is = at ∙ held.place_is;
      few = omega (arith, at, synced);
      taken_is = subst (λ (k : Option (List ℕ)). AreDump k h) (sym taken) held.taken_is;
      covered_is = subst (λ (k : Option (List ℕ)). AreDump k (up_to h new.synced)) (sym covered)
          (subst (λ (es : List Entry). AreDump old.taken (record { base = h.base; entries = es })) (sym all) held.taken_is);
      sound = broken ∙ held.sound;
    }

pub begins_same : (old new : Kept) (h : Chronicle) → new.taken ≡ old.taken → BeginsDump old h → BeginsDump new h
begins_same old new h same begins = subst (λ (k : Option (List ℕ)). IfSome k (λ t. IsPrefix t (dump_text h))) (sym same) begins

-- a file that was empty, and has the first line of a dump, synced
pub holds_begun : (k : Kept) (old : Option (List ℕ)) (base : Option Database) → IfSome old (λ text. text ≡ []) → TakesAll old k.taken (first_line base) → k.covered ≡ k.taken
    → k.place ≡ 0 → k.synced ≡ 0 → k.broken ≡ false → HoldsDump k (begun base)
holds_begun k old base none taken covered place synced sound =
    let is : AreDump k.taken (begun base) = taken-all old k.taken (first_line base) [] (dump_text (begun base)) none taken (sym (append-nil (first_line base))) in
    record {
      place_is = place;
      few = omega (arith, place, synced);
      taken_is = is;
      covered_is = subst (λ n. AreDump k.covered (up_to (begun base) n)) (sym synced) (subst (λ (t : Option (List ℕ)). AreDump t (begun base)) (sym covered) is);
      sound = sound;
    }

-- ---- what follows of the result of a call

module _ (old new : Kept) (v : Chronicle) (result : Result (Unit {0}) JournalFault) (appended : OnOk result (AppendsAll old new (lines_above old.place v.entries) (length v.entries))) where
  pub held_by : (h : Chronicle) → HoldsDump old h → Extends v h → OnOk result (HoldsDump new v)
  held_by h held on = go result appended
    where
      go : (r : Result (Unit {0}) JournalFault) → OnOk r (AppendsAll old new (lines_above old.place v.entries) (length v.entries)) → OnOk r (HoldsDump new v)
      go (Ok done) all = holds_appended old new h v held on all
      go (Err e) all = tt

  pub begins_by : (result ≡ Err fault.Memory → new ≡ old) → (result ≡ Err fault.Failed → FailsToAppend old new (lines_above old.place v.entries))
      → (h : Chronicle) → HoldsDump old h → Extends v h → BeginsDump new v
  begins_by memory failed h held on = go result appended memory failed
    where
      tried : FailsToAppend old new (lines_above old.place v.entries) → BeginsDump new v
      tried (inl some) = begins_some old new h v held on some
      tried (inr stays) = begins_more old new h v held on stays.same

      go : (r : Result (Unit {0}) JournalFault) → OnOk r (AppendsAll old new (lines_above old.place v.entries) (length v.entries)) → (r ≡ Err fault.Memory → new ≡ old)
          → (r ≡ Err fault.Failed → FailsToAppend old new (lines_above old.place v.entries)) → BeginsDump new v
      go (Ok done) all none fails = holds_begins new v (holds_appended old new h v held on all)
      go (Err fault.Memory) all none fails = begins_more old new h v held on (none refl)
      go (Err fault.Failed) all none fails = tried (fails refl)

pub covered_by : (old new : Kept) (result : Result ℕ JournalFault) → IfOk result (Covers old new) → (h : Chronicle) → HoldsDump old h → OnOk result (HoldsDump new h)
covered_by old new (Ok place) covers h held = holds_covered old new place h held covers
covered_by old new (Err e) covers h held = tt
