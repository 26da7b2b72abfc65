-- What a journal keeps of a history that goes on.
use Rattle.std.proofs.Common.{◌≡◌, ◌⊎◌, ◌+◌, ℕ, ◌≤◌, [], ◌++◌, length, true, false, Ok, Err, Some, None, inl, inr, refl, ap, sym, ◌∙◌, subst, arith, append_assoc, length-append}
use Rattle.std.specs.Prelude.{List, IfSome, OnOk, Option, Result, is_some, option_map, ⊤}
use Rattle.std.proofs.lemmas.List.{append-nil, nil_from_length}
use mathlib.Core.List.{IsPrefix}
use Rattle.model.specs.Command.{Entry}
use Rattle.model.specs.Database.{Database}
use Rattle.model.specs.History.{Chronicle, IsLegal, base_of, now, successor}
use Rattle.session_api.specs.Learns.{Learns, Looks}
use Rattle.session_api.specs.SessionCall.{Refreshed}
use Rattle.session_api.specs.Known.{Known, history_of}
use Rattle.session_api.specs.declared.fault.CallFault.{CallFault}
use Rattle.journal.specs.Kept.{Kept}
use Rattle.replay_cli.specs.Successors.{raise}
use Rattle.journal.specs.Held.{AreDump, BeginsDump, HoldsDump}
use Rattle.journal.proofs.Grown.{begins_more}
use Rattle.version_log.proofs.Prefixes.{prefix_self, prefix_trans, prefix_whole}
use Rattle.journal_front.specs.Keeping.{HoldsAll, IsAccounted, IsBehind, IsKeptIn, IsLimitIn, IsRound, Names}

-- what holds after a call that succeeded gives what follows from it
pub on_ok : {A E P Q : Type 0} (r : Result A E) → (P → Q) → OnOk r P → OnOk r Q
on_ok (Ok done) gives holds = gives holds
on_ok (Err why) gives holds = holds

-- and so does what was found
pub on_some : {A : Type 0} {P Q : A → Type 0} (o : Option A) → ((a : A) → P a → Q a) → IfSome o P → IfSome o Q
on_some None gives holds = holds
on_some (Some a) gives holds = gives a holds

pub looked : (old new : Known) (answer : Result ⊤ CallFault) → Learns old (Refreshed answer) new → Looks old new
looked old new (Ok done) learns = learns.0
looked old new (Err why) learns = learns.0

pub same_base : (old new : Known) → Looks old new → new.base ≡ old.base
same_base old new looks = ap (λ (k : Known). k.base) looks.extends

-- what was seen more doesn't change of which history the journal is the dump
pub looks_behind : (k : Kept) (old new : Known) → IsBehind k old → Looks old new → IsBehind k new
looks_behind k old new behind looks =
    let before = behind.extends in
    record {
      history = behind.history;
      holds = behind.holds;
      extends = record {
        base = same_base old new looks ∙ before.base;
        more = before.more ++ looks.more;
        entries = ap (λ (k : Known). k.seen) looks.extends ∙ ap (λ (es : List Entry). es ++ looks.more) before.entries ∙ append_assoc behind.history.entries before.more looks.more;
      };
    }

pub within_seen : (k : Kept) (known : Known) → IsBehind k known → k.place ≤ length known.seen
within_seen k known behind =
    omega (arith, behind.holds.place_is, ap length behind.extends.entries, length-append behind.history.entries behind.extends.more)

-- a journal with as many entries as were seen has all of them
pub holds_all : (k : Kept) (known : Known) → IsBehind k known → k.place ≡ length known.seen → IsLegal (base_of known.base) known.seen → HoldsAll k known
holds_all k known behind full legal =
    let more = behind.extends.more in
    let none : more ≡ [] = nil_from_length more (omega (arith, full, behind.holds.place_is, ap length behind.extends.entries, length-append behind.history.entries more)) in
    let same : behind.history ≡ history_of known =
    λ i. record { base = sym behind.extends.base i; entries = sym (behind.extends.entries ∙ ap (λ (es : List Entry). behind.history.entries ++ es) none ∙ append-nil behind.history.entries) i } in
    record { holds = subst (λ (h : Chronicle). HoldsDump k h) same behind.holds; legal = legal }

-- a journal that is the dump of a history is a beginning of it
pub dump_begins : (k : Kept) (h : Chronicle) → HoldsDump k h → BeginsDump k h
dump_begins k h holds = begins k.taken holds.taken_is
  where
    begins : (known : Option (List ℕ)) → AreDump known h → BeginsDump (record k { taken = known }) h
    begins None is = is
    begins (Some text) is = ([], append-nil text ∙ is)

-- and so is one that is the dump of a beginning of it
pub behind_begins : (k : Kept) (known : Known) → IsBehind k known → BeginsDump k (history_of known)
behind_begins k known behind = begins_more k k behind.history (history_of known) behind.holds behind.extends refl

-- a journal that is the dump of what was seen is that of a beginning
pub holds_behind : (k : Kept) (known : Known) → HoldsDump k (history_of known) → IsBehind k known
holds_behind k known holds = record {
  history = history_of known;
  holds = holds;
  extends = record { base = refl; more = []; entries = sym (append-nil known.seen) };
}

-- what an append or a sync has told, of the dump of all that was seen
pub kept_in : (told : Option (List ℕ) → Type 0) (base : Option Database) (k : Kept) (known : Known) (entries : List Entry) → HoldsAll k known → told k.taken → known.base ≡ base → entries ≡ known.seen → IsKeptIn told base entries
kept_in told base k known entries all told_so base_is entries_is =
    subst (λ (b : Option Database). IsKeptIn told b entries) base_is
    (subst (λ (es : List Entry). IsKeptIn told known.base es) (sym entries_is) (record { kept = k; holds = all.holds; told_so = told_so; legal = all.legal }))

pub limit_in : (told : Option (List ℕ) → Type 0) (base : Option Database) (k : Kept) (known : Known) (limit : ℕ) (entries : List Entry) → HoldsAll k known → told k.taken → known.base ≡ base → entries ≡ known.seen
    → limit ≤ (now (history_of known)).update_seq + raise → IsLimitIn told base limit entries
limit_in told base k known limit entries all told_so base_is entries_is within =
    subst (λ (b : Option Database). IsLimitIn told b limit entries) base_is
    (subst (λ (es : List Entry). IsLimitIn told known.base limit es) (sym entries_is) (inr (record { kept = k; holds = all.holds; told_so = told_so; legal = all.legal }, within)))

-- what is known to be in the journal, of a session that has seen more
pub accounted_more : (base : Option Database) (old new : Known) (journaled : List Entry) → IsAccounted base old journaled → new.base ≡ old.base → IsPrefix old.seen new.seen → IsAccounted base new journaled
accounted_more base old new journaled accounted same more = record {
  base_is = same ∙ accounted.base_is;
  begins = prefix_trans journaled old.seen new.seen accounted.begins more;
}

-- all that a session has seen
pub accounted_all : (base : Option Database) (known : Known) (journaled : List Entry) → known.base ≡ base → journaled ≡ known.seen → IsAccounted base known journaled
accounted_all base known journaled base_is all = record {
  base_is = base_is;
  begins = subst (λ (es : List Entry). IsPrefix es known.seen) (sym all) (prefix_self known.seen);
}

-- as many entries as a session has seen are all of them
pub all_accounted : (base : Option Database) (known : Known) (journaled : List Entry) (places : ℕ) → IsAccounted base known journaled → places ≡ length journaled → places ≡ length known.seen → journaled ≡ known.seen
all_accounted base known journaled places accounted journaled_is seen_is = prefix_whole journaled known.seen accounted.begins (omega (arith, journaled_is, seen_is))

-- what was seen more goes on from what was seen
pub looks_grows : (old new : Known) → Looks old new → IsPrefix old.seen new.seen
looks_grows old new looks = (looks.more, sym (ap (λ (k : Known). k.seen) looks.extends))

-- names by one of two reports
pub names_first : (said told : Option (List ℕ) → Type 0) (one other : Type 0) (is_appended is_kept : List Entry → Type 0) (is_limit : ℕ → List Entry → Type 0) (has_failed : Type 0) (base : Option Database)
    → Names said told (one ⊎ other) is_appended is_kept is_limit has_failed base → Names said told one is_appended is_kept is_limit has_failed base
names_first said told one other is_appended is_kept is_limit has_failed base names =
    record { appended = names.appended; kept = names.kept; limit = names.limit; failed = λ reported. names.failed (inl reported) }

-- what lies under a pen while the journal is whole, once it is broken, and once the next epoch has begun
module _ (has_failed : Type 0) (known : Known) (k : Kept) where
  pub round_behind : (next : Option (Option Database)) → next ≡ None → IsBehind k known → BeginsDump k (history_of known) → IsRound has_failed known k next
  round_behind next none behind begins = record {
    behind = λ _. behind;
    begins = begins;
    failed = λ broken. absurd (cc (broken, behind.holds.sound));
    next_is = subst (λ (n : Option (Option Database)). IfSome n (λ base. base ≡ Some (successor (now (history_of known))))) (sym none) tt;
  }

  pub round_broken : (next : Option (Option Database)) → next ≡ None → k.broken ≡ true → has_failed → BeginsDump k (history_of known) → IsRound has_failed known k next
  round_broken next none broken failed begins = record {
    behind = λ sound. absurd (cc (broken, sound));
    begins = begins;
    failed = λ _. failed;
    next_is = subst (λ (n : Option (Option Database)). IfSome n (λ base. base ≡ Some (successor (now (history_of known))))) (sym none) tt;
  }

  pub round_next : (next : Option (Option Database)) → IfSome next (λ base. base ≡ Some (successor (now (history_of known)))) → HoldsAll k known → BeginsDump k (history_of known) → IsRound has_failed known k next
  round_next next next_is all begins = record {
    behind = λ _. holds_behind k known all.holds;
    begins = begins;
    failed = λ broken. absurd (cc (broken, all.holds.sound));
    next_is = next_is;
  }

-- no next epoch has begun
pub none_of : {A B : Type 0} (f : A → B) (o : Option A) → is_some o ≡ false → option_map f o ≡ None
none_of f None none = refl
none_of f (Some a) none = absurd (cc none)
