-- What a service took, apart from what was answered for it.
use Rattle.std.proofs.Common.{◌≡◌, ℕ, ◌+◌, min, Bool, true, false, List, [], ◌∷◌, ◌++◌, None, refl, ap, sym, subst, append-nil}
use Rattle.std.specs.Prelude.{IsTrue, IsFalse}
use Rattle.std.proofs.lemmas.List.Elements.{filter_map-append}
use Rattle.streams.specs.Counts.{last_count}
use Rattle.streams.specs.Streams.{Streams}
use Rattle.httparse.specs.Grammar.{print_request}
use Rattle.http_framing.specs.Input.{Item, Requested, Refused, Begins}
use Rattle.http_connection.specs.Turn.{Turn, TakesTurn}
use Rattle.http_connection.specs.declared.outcome.Cause.TheVariants as cause
use Rattle.http_connection.proofs.Going.{Going, going-start, going-on, going-more, served-at_end, served-closed, served-cut}
use Rattle.origin_policy.specs.Verdict.{Decision}
use Rattle.origin_policy.specs.declared.policy.Policy.{Policy}
use Rattle.http_guard.specs.Guarded.{ServedAlone}
use Rattle.http_guard.specs.Passage.{Passage, Passed, PassedTo, Questioned, Forbade, Becomes, IsCutOfSome, IsDecided, taken_of, turn_of, turns_taken}

-- a reader and a writer of which nothing is known
abbrev silent : Streams
silent = record { left = None; failed_reads = 0; taken = None; failed_writes = 0 }

-- whose writer failed
abbrev failing : Streams
failing = record { left = None; failed_reads = 0; taken = None; failed_writes = min (0 + 1) last_count }

-- the bytes of an item begin with it, and nothing is behind it
item-alone : (policy : Policy) (bytes : List ℕ) (item : Item) (decision : Decision) (after : List ℕ) → IsDecided policy bytes item decision after → (piece : List ℕ) × Begins piece item []
item-alone policy bytes (Requested request) decision after (head, begins, asked, is) = (
  print_request head ++ request.body,
  (
    head,
    record {
      reads = (begins.reads.0, ap (λ (xs : List ℕ). print_request head ++ xs) (sym (append-nil request.body)));
      size = begins.size;
      headers = begins.headers;
    },
    asked,
  ),
)
item-alone policy bytes (Refused fault) decision after (refused, none, is) = (bytes, (refused, refl))

taken-more : (passages : List Passage) (passage : Passage) → turns_taken (passages ++ passage ∷ []) ≡ turns_taken passages ++ turns_taken (passage ∷ [])
taken-more passages passage = filter_map-append taken_of passages (passage ∷ [])

-- a service took these turns, and the connection goes on after each
pub record Own {T : Type 0} (answers : T → Turn → T → Type 0) (old state : T) (turns : List Turn) : Type 0 where
  pub count : ℕ
  pub going : Going answers silent silent old state count turns []

module _ {T : Type 0} {answers : T → Turn → T → Type 0} where
  pub own-start : (state : T) → Own answers state state []
  own-start state = record { count = 0; going = going-start refl }

  -- one turn more
  on : {old state new : T} {turns : List Turn} (turn : Turn) → Own answers old state turns → ((piece : List ℕ) × Begins piece turn.item []) → TakesTurn answers state new turn.item turn
      → IsFalse turn.closes → IsTrue turn.whole → Own answers old new (turns ++ turn ∷ [])
  on turn own (piece, begins) takes goes_on whole =
      record { count = own.count + 1; going = going-on {later = silent} (going-more {later = silent} piece own.going refl tt refl refl refl) takes begins goes_on whole refl refl tt refl }

  -- nothing more comes
  pub alone-now : {old state : T} {turns : List Turn} → Own answers old state turns → ServedAlone answers turns old state
  unfolding served-at_end
  alone-now own = record {
    before = silent;
    after = silent;
    ended = record { answered = own.count; cause = cause.AtEnd };
    served = served-at_end cause.AtEnd own.going (own.going.goes_on, refl, refl, tt) refl refl;
    turns_are = refl;
  }

  -- a last turn
  last : {old state new : T} {turns : List Turn} (turn : Turn) (closes whole : Bool) → turn.closes ≡ closes → turn.whole ≡ whole → Own answers old state turns
      → ((piece : List ℕ) × Begins piece turn.item []) → TakesTurn answers state new turn.item turn → IsCutOfSome turn → ServedAlone answers (turns ++ turn ∷ []) old new
  unfolding served-closed served-cut
  last turn closes false closes_is whole_is own (piece, begins) takes some = record {
    before = silent;
    after = failing;
    ended = record { answered = own.count; cause = cause.WriteFault };
    served = served-cut {later = failing} [] (going-more {later = silent} piece own.going refl tt refl refl refl) takes begins whole_is refl refl (0, some whole_is, tt) refl;
    turns_are = refl;
  }
  last turn true true closes_is whole_is own (piece, begins) takes some = record {
    before = silent;
    after = silent;
    ended = record { answered = own.count + 1; cause = cause.Closed };
    served = served-closed {later = silent} [] (going-more {later = silent} piece own.going refl tt refl refl refl) takes begins closes_is whole_is refl refl tt refl;
    turns_are = refl;
  }
  last turn false true closes_is whole_is own begins takes some = alone-now (on turn own begins takes closes_is whole_is)

  module _ {policy : Policy} where
    -- the turn that a service took of an item
    takes-passed : {state new : T} (turn : Turn) (bytes after : List ℕ) → Becomes policy answers bytes after state new (Passed turn) → TakesTurn answers state new turn.item turn
    takes-passed {state = state} turn bytes after becomes =
        record { of_item = refl; answered = subst (λ (s : T). answers state turn s) becomes.goes.2 becomes.goes.1; closes = becomes.closes }

    takes-passed_to : {state new : T} (turn : Turn) (origin : List ℕ) (whole : Bool) (bytes after : List ℕ) → Becomes policy answers bytes after state new (PassedTo origin turn whole)
        → TakesTurn answers state new turn.item turn
    takes-passed_to {state = state} turn origin whole bytes after becomes =
        record { of_item = refl; answered = subst (λ (s : T). answers state turn s) becomes.goes.2 becomes.goes.1; closes = becomes.closes }

    goes-on : {old state new : T} (passages : List Passage) (passage : Passage) (bytes after : List ℕ) → Own answers old state (turns_taken passages) → Becomes policy answers bytes after state new passage
        → IsFalse (turn_of passage).closes → IsTrue (turn_of passage).whole → Own answers old new (turns_taken passages ++ turns_taken (passage ∷ []))
    goes-on passages (Passed turn) bytes after own becomes goes_on whole =
        on turn own (item-alone policy bytes turn.item _ after becomes.decided) (takes-passed turn bytes after becomes) goes_on whole
    goes-on passages (PassedTo origin turn w) bytes after own becomes goes_on whole =
        on turn own (item-alone policy bytes turn.item _ after becomes.decided) (takes-passed_to turn origin w bytes after becomes) goes_on (becomes.keeps_whole.0 whole)
    goes-on {old = old} {new = new} passages (Questioned request origin w) bytes after own becomes goes_on whole =
        subst (λ (turns : List Turn). Own answers old new turns) (sym (append-nil (turns_taken passages))) (subst (λ (s : T). Own answers old s (turns_taken passages)) becomes.goes own)
    goes-on {old = old} {new = new} passages (Forbade request reason w) bytes after own becomes goes_on whole =
        subst (λ (turns : List Turn). Own answers old new turns) (sym (append-nil (turns_taken passages))) (subst (λ (s : T). Own answers old s (turns_taken passages)) becomes.goes own)

    ends : {old state new : T} (passages : List Passage) (passage : Passage) (bytes after : List ℕ) → Own answers old state (turns_taken passages) → Becomes policy answers bytes after state new passage
        → ServedAlone answers (turns_taken passages ++ turns_taken (passage ∷ [])) old new
    ends passages (Passed turn) bytes after own becomes =
        last turn turn.closes turn.whole refl refl own (item-alone policy bytes turn.item _ after becomes.decided) (takes-passed turn bytes after becomes) becomes.keeps_whole
    ends passages (PassedTo origin turn w) bytes after own becomes =
        last turn turn.closes turn.whole refl refl own (item-alone policy bytes turn.item _ after becomes.decided) (takes-passed_to turn origin w bytes after becomes) becomes.keeps_whole.1
    ends {old = old} {new = new} passages (Questioned request origin w) bytes after own becomes =
        subst (λ (turns : List Turn). ServedAlone answers turns old new) (sym (append-nil (turns_taken passages))) (subst (λ (s : T). ServedAlone answers (turns_taken passages) old s) becomes.goes (alone-now own))
    ends {old = old} {new = new} passages (Forbade request reason w) bytes after own becomes =
        subst (λ (turns : List Turn). ServedAlone answers turns old new) (sym (append-nil (turns_taken passages))) (subst (λ (s : T). ServedAlone answers (turns_taken passages) old s) becomes.goes (alone-now own))

    -- this became of one item more, and the connection goes on after it
    pub own-on : {old state new : T} (passages : List Passage) (passage : Passage) (bytes after : List ℕ) → Own answers old state (turns_taken passages) → Becomes policy answers bytes after state new passage
        → IsFalse (turn_of passage).closes → IsTrue (turn_of passage).whole → Own answers old new (turns_taken (passages ++ passage ∷ []))
    own-on {old = old} {new = new} passages passage bytes after own becomes goes_on whole =
        subst (λ (turns : List Turn). Own answers old new turns) (sym (taken-more passages passage)) (goes-on passages passage bytes after own becomes goes_on whole)

    -- this became of the last one
    pub alone-last : {old state new : T} (passages : List Passage) (passage : Passage) (bytes after : List ℕ) → Own answers old state (turns_taken passages) → Becomes policy answers bytes after state new passage
        → ServedAlone answers (turns_taken (passages ++ passage ∷ [])) old new
    alone-last {old = old} {new = new} passages passage bytes after own becomes =
        subst (λ (turns : List Turn). ServedAlone answers turns old new) (sym (taken-more passages passage)) (ends passages passage bytes after own becomes)
