-- A connection between two turns, whose requests a policy decides, and its end.
use Rattle.std.proofs.Common.{◌≡◌, ℕ, ◌+◌, ◌<◌, Bool, true, false, List, [], ◌∷◌, ◌++◌, length, take, drop, map, refl, ap, sym, ◌∙◌, subst}
use Rattle.std.specs.Prelude.{All, IsTrue, IsFalse}
use Rattle.std.specs.List.{FoldsTo}
use Rattle.std.specs.Io.KnownBytes.{Consumes, Appends, IsAtEnd}
use Rattle.std.proofs.lemmas.List.{map-append}
use Rattle.std.proofs.lemmas.List.Elements.{All-nil, All-push, filter_map-append}
use Rattle.streams.specs.Counts.{CountRose}
use Rattle.streams.specs.Streams.{Streams}
use Rattle.httparse.specs.Grammar.{RequestHead}
use Rattle.http_framing.specs.Headers.{headers_of}
use Rattle.http_framing.specs.Request.{Request, BeginsWithHead, IsAskedBy}
use Rattle.http_framing.specs.Refusal.{IsRefused}
use Rattle.http_framing.specs.Input.{Item, Requested, Refused, closes_connection, IsUnfinished}
use Rattle.http_framing.specs.declared.FramingFault.{FramingFault}
use Rattle.http_connection.specs.Turn.{Turn, TakesTurn}
use Rattle.http_connection.specs.Served.{EndsInput}
use Rattle.http_connection.specs.declared.outcome.Cause.{Cause}
use Rattle.http_connection.specs.declared.outcome.Cause.TheVariants as cause
use Rattle.http_connection.proofs.Going.{Going, going-start, going-on, going-more, served-closed, served-cut, served-at_end, served-ended, served-read_fault}
use Rattle.origin_policy.specs.Verdict.{Passes, PassesTo, Preflight, IsForbidden, decide}
use Rattle.origin_policy.specs.declared.judging.Forbidden.{Forbidden}
use Rattle.origin_policy.specs.declared.policy.Policy.{Policy}
use Rattle.http_guard.specs.Passage.{IsCutOfSome, KeepsWhole, Passage, Passed, PassedTo, Questioned, Forbade, Becomes, Goes, IsDecided, SplitsDecided, decision_by, taken_of, turn_of, turns_taken}
use Rattle.http_guard.specs.Guarded.{Guarded, AnyTurn}
use Rattle.http_guard.proofs.Alone.{Own, alone-last, alone-now, own-on, own-start}
use Rattle.http_guard.proofs.Decided.{AreOpen, IsOpen, begins-decided, FoldsTo-append, SplitsDecided-append, SplitsDecided-push}

-- this became of what was read so far, and the connection goes on
pub record Passing {T : Type 0} (policy : Policy) (answers : T → Turn → T → Type 0) (before now : Streams) (old state : T) (answered : ℕ) (passages : List Passage) (rest : List ℕ) : Type 0 where
  pub turns : List Turn
  pub going : Going AnyTurn before now tt tt answered turns rest
  pub turns_are : turns ≡ map turn_of passages
  pub decided : SplitsDecided policy going.read passages rest
  pub are_open : AreOpen passages
  pub runs : FoldsTo answers old (turns_taken passages) state
  pub keep_whole : All KeepsWhole passages
  pub own : Own answers old state (turns_taken passages)

-- an item of which this became is a turn
takes : (passage : Passage) → (IsTrue (closes_connection (turn_of passage).item) → IsTrue (turn_of passage).closes) → TakesTurn AnyTurn tt tt (turn_of passage).item (turn_of passage)
takes passage closes = record { of_item = refl; answered = tt; closes = closes }

is_open : (item closes : Bool) → (IsTrue item → IsTrue closes) → IsFalse closes → IsFalse item
is_open false closes h open_turn = refl
is_open true closes h open_turn = let closed = h refl in cc

runs-on : {T : Type 0} (answers : T → Turn → T → Type 0) (old state new : T) (passages : List Passage) (passage : Passage) → FoldsTo answers old (turns_taken passages) state → Goes answers state passage new
    → FoldsTo answers old (turns_taken (passages ++ passage ∷ [])) new
runs-on answers old state new passages passage runs goes =
    subst (λ (turns : List Turn). FoldsTo answers old turns new) (sym (filter_map-append taken_of passages (passage ∷ [])))
    (FoldsTo-append answers (turns_taken passages) (turns_taken (passage ∷ [])) old state new runs goes)

more-turns : (passages : List Passage) (passage : Passage) (turns : List Turn) → turns ≡ map turn_of passages → turns ++ turn_of passage ∷ [] ≡ map turn_of (passages ++ passage ∷ [])
more-turns passages passage turns is = ap (λ (ts : List Turn). ts ++ turn_of passage ∷ []) is ∙ sym (map-append turn_of passages (passage ∷ []))

module _ {T : Type 0} {policy : Policy} {answers : T → Turn → T → Type 0} where
  -- what became of the front of the window, by two looks at it
  pub becomes-at : {old new : T} {passage : Passage} {bytes : List ℕ} (end : ℕ) (window after : List ℕ) → bytes ≡ window → after ≡ drop end window
      → Becomes policy answers bytes (drop end bytes) old new passage → Becomes policy answers window after old new passage
  becomes-at {old = old} {new = new} {passage = passage} end window after is rest becomes =
      subst (λ (x : List ℕ). Becomes policy answers window x old new passage) (sym rest)
      (subst (λ (x : List ℕ). Becomes policy answers x (drop end x) old new passage) is becomes)

  -- what is no request is the service's
  pub becomes-refused : {old new : T} {turn : Turn} (window : List ℕ) (fault : FramingFault) → IsRefused window fault → TakesTurn answers old new (Refused fault) turn → IsCutOfSome turn
      → Becomes policy answers window [] old new (Passed turn)
  becomes-refused {new = new} window fault refused takes keeps = record {
    decided = subst (λ (item : Item). IsDecided policy window item Passes []) (sym takes.of_item) (refused, refl, refl);
    goes = (new, takes.answered, refl);
    closes = λ closed. takes.closes (subst (λ (item : Item). IsTrue (closes_connection item)) takes.of_item closed);
    keeps_whole = keeps;
  }

  -- a request that passes is the service's
  pub becomes-passed : {old new : T} {turn : Turn} (bytes after : List ℕ) (request : Request) (head : RequestHead) → BeginsWithHead bytes head (request.body ++ after) → IsAskedBy head request
      → Passes ≡ decide policy head.method (headers_of head) → TakesTurn answers old new (Requested request) turn → IsCutOfSome turn
      → Becomes policy answers bytes after old new (Passed turn)
  becomes-passed {new = new} bytes after request head begins asked is takes keeps = record {
    decided = subst (λ (item : Item). IsDecided policy bytes item Passes after) (sym takes.of_item) (head, begins, asked, is);
    goes = (new, takes.answered, refl);
    closes = λ closed. takes.closes (subst (λ (item : Item). IsTrue (closes_connection item)) takes.of_item closed);
    keeps_whole = keeps;
  }

  -- and so is one of a page that may read the response
  pub becomes-passed_to : {old new : T} {turn : Turn} (bytes after origin : List ℕ) (whole : Bool) (request : Request) (head : RequestHead) → BeginsWithHead bytes head (request.body ++ after)
      → IsAskedBy head request → PassesTo origin ≡ decide policy head.method (headers_of head) → TakesTurn answers old new (Requested request) turn
      → (IsTrue whole → IsTrue turn.whole) × IsCutOfSome turn → Becomes policy answers bytes after old new (PassedTo origin turn whole)
  becomes-passed_to {new = new} bytes after origin whole request head begins asked is takes keeps = record {
    decided = subst (λ (item : Item). IsDecided policy bytes item (PassesTo origin) after) (sym takes.of_item) (head, begins, asked, is);
    goes = (new, takes.answered, refl);
    closes = λ closed. takes.closes (subst (λ (item : Item). IsTrue (closes_connection item)) takes.of_item closed);
    keeps_whole = keeps;
  }

  -- the others are answered here, and the service stays as it is
  pub becomes-questioned : {state : T} (bytes after origin : List ℕ) (whole : Bool) (request : Request) (head : RequestHead) → BeginsWithHead bytes head (request.body ++ after)
      → IsAskedBy head request → Preflight origin ≡ decide policy head.method (headers_of head) → Becomes policy answers bytes after state state (Questioned request origin whole)
  becomes-questioned bytes after origin whole request head begins asked is = record { decided = (head, begins, asked, is); goes = refl; closes = λ closed. closed; keeps_whole = tt }

  pub becomes-forbidden : {state : T} (bytes after : List ℕ) (reason : Forbidden) (whole : Bool) (request : Request) (head : RequestHead) → BeginsWithHead bytes head (request.body ++ after)
      → IsAskedBy head request → IsForbidden reason ≡ decide policy head.method (headers_of head) → Becomes policy answers bytes after state state (Forbade request reason whole)
  becomes-forbidden bytes after reason whole request head begins asked is = record { decided = (head, begins, asked, is); goes = refl; closes = λ closed. closed; keeps_whole = tt }

  pub passing-start : {streams : Streams} {state : T} {rest : List ℕ} → rest ≡ [] → Passing policy answers streams streams state state 0 [] rest
  unfolding going-start
  passing-start {state = state} none = record { turns = []; going = going-start none; turns_are = refl; decided = sym none; are_open = All-nil IsOpen; runs = refl; keep_whole = All-nil KeepsWhole; own = own-start state }

  pub passing-on : {before now later : Streams} {old state new : T} {n : ℕ} {passages : List Passage} {rest after : List ℕ} (passage : Passage)
      → Passing policy answers before now old state n passages rest → Becomes policy answers rest after state new passage
      → IsFalse (turn_of passage).closes → IsTrue (turn_of passage).whole
      → later.left ≡ now.left → later.failed_reads ≡ now.failed_reads → Appends now.taken later.taken (turn_of passage).text → later.failed_writes ≡ now.failed_writes
      → Passing policy answers before later old new (n + 1) (passages ++ passage ∷ []) after
  unfolding going-on
  passing-on {before = before} {later = later} {old = old} {state = state} {new = new} {n = n} {passages = passages} {rest = rest} {after = after} passage passing becomes goes_on whole left reads appends writes =
      let turn = turn_of passage in
      record {
        turns = passing.turns ++ turn ∷ [];
        going = going-on passing.going (takes passage becomes.closes) (begins-decided policy rest turn.item (decision_by passage) after becomes.decided) goes_on whole left reads appends writes;
        turns_are = more-turns passages passage passing.turns passing.turns_are;
        decided = SplitsDecided-push policy passing.going.read passages rest passage after passing.are_open passing.decided becomes.decided;
        are_open = All-push IsOpen passages passage passing.are_open (is_open (closes_connection turn.item) turn.closes becomes.closes goes_on);
        runs = runs-on answers old state new passages passage passing.runs becomes.goes;
        keep_whole = All-push KeepsWhole passages passage passing.keep_whole becomes.keeps_whole;
        own = own-on passages passage rest after passing.own becomes goes_on whole;
      }

  pub guarded-closed : {before now later : Streams} {old state new : T} {n : ℕ} {passages : List Passage} {rest : List ℕ} (passage : Passage) (after : List ℕ)
      → Passing policy answers before now old state n passages rest → Becomes policy answers rest after state new passage
      → IsTrue (turn_of passage).closes → IsTrue (turn_of passage).whole
      → later.left ≡ now.left → later.failed_reads ≡ now.failed_reads → Appends now.taken later.taken (turn_of passage).text → later.failed_writes ≡ now.failed_writes
      → Guarded policy answers before later old new (record { answered = n + 1; cause = cause.Closed })
  unfolding served-closed
  guarded-closed {old = old} {state = state} {new = new} {passages = passages} {rest = rest} passage after passing becomes closed whole left reads appends writes = record {
    passages = passages ++ passage ∷ [];
    served = served-closed after passing.going (takes passage becomes.closes) (begins-decided policy rest (turn_of passage).item (decision_by passage) after becomes.decided) closed whole left reads appends writes;
    turns_are = more-turns passages passage passing.turns passing.turns_are;
    decided = SplitsDecided-push policy passing.going.read passages rest passage after passing.are_open passing.decided becomes.decided;
    runs = runs-on answers old state new passages passage passing.runs becomes.goes;
    keep_whole = All-push KeepsWhole passages passage passing.keep_whole becomes.keeps_whole;
    alone = alone-last passages passage rest after passing.own becomes;
  }

  pub guarded-cut : {before now later : Streams} {old state new : T} {n : ℕ} {passages : List Passage} {rest : List ℕ} (passage : Passage) (after : List ℕ)
      → Passing policy answers before now old state n passages rest → Becomes policy answers rest after state new passage
      → IsFalse (turn_of passage).whole → later.left ≡ now.left → later.failed_reads ≡ now.failed_reads
      → ((sent : ℕ) × (sent < length (turn_of passage).text) × Appends now.taken later.taken (take sent (turn_of passage).text)) → CountRose now.failed_writes later.failed_writes
      → Guarded policy answers before later old new (record { answered = n; cause = cause.WriteFault })
  unfolding served-cut
  guarded-cut {old = old} {state = state} {new = new} {passages = passages} {rest = rest} passage after passing becomes cut left reads part rose = record {
    passages = passages ++ passage ∷ [];
    served = served-cut after passing.going (takes passage becomes.closes) (begins-decided policy rest (turn_of passage).item (decision_by passage) after becomes.decided) cut left reads part rose;
    turns_are = more-turns passages passage passing.turns passing.turns_are;
    decided = SplitsDecided-push policy passing.going.read passages rest passage after passing.are_open passing.decided becomes.decided;
    runs = runs-on answers old state new passages passage passing.runs becomes.goes;
    keep_whole = All-push KeepsWhole passages passage passing.keep_whole becomes.keeps_whole;
    alone = alone-last passages passage rest after passing.own becomes;
  }

  -- ---- more input, and its end

  pub passing-more : {before now later : Streams} {old state : T} {n : ℕ} {passages : List Passage} {rest more : List ℕ} (piece : List ℕ)
      → Passing policy answers before now old state n passages rest → more ≡ rest ++ piece → Consumes now.left later.left piece
      → later.failed_reads ≡ now.failed_reads → later.taken ≡ now.taken → later.failed_writes ≡ now.failed_writes
      → Passing policy answers before later old state n passages more
  unfolding going-more
  passing-more {passages = passages} {rest = rest} piece passing is consumes reads taken writes = record {
    turns = passing.turns;
    going = going-more piece passing.going is consumes reads taken writes;
    turns_are = passing.turns_are;
    decided = subst (SplitsDecided policy (passing.going.read ++ piece) passages) (sym is) (SplitsDecided-append policy passing.going.read piece passages rest passing.are_open passing.decided);
    are_open = passing.are_open;
    runs = passing.runs;
    keep_whole = passing.keep_whole;
    own = passing.own;
  }

  pub guarded-read_fault : {before now later : Streams} {old state : T} {n : ℕ} {passages : List Passage} {rest : List ℕ} (piece : List ℕ)
      → Passing policy answers before now old state n passages rest → Consumes now.left later.left piece
      → CountRose now.failed_reads later.failed_reads → later.taken ≡ now.taken → later.failed_writes ≡ now.failed_writes → IsUnfinished (rest ++ piece)
      → Guarded policy answers before later old state (record { answered = n; cause = cause.ReadFault })
  unfolding served-read_fault
  guarded-read_fault {passages = passages} {rest = rest} piece passing consumes rose taken writes part = record {
    passages = passages;
    served = served-read_fault piece passing.going consumes rose taken writes part;
    turns_are = passing.turns_are;
    decided = SplitsDecided-append policy passing.going.read piece passages rest passing.are_open passing.decided;
    runs = passing.runs;
    keep_whole = passing.keep_whole;
    alone = alone-now passing.own;
  }

  pub guarded-ended : {before now : Streams} {old state : T} {n : ℕ} {passages : List Passage} {rest : List ℕ} (cause : Cause)
      → Passing policy answers before now old state n passages rest → EndsInput cause rest → IsUnfinished rest → IsAtEnd now.left
      → Guarded policy answers before now old state (record { answered = n; cause = cause })
  unfolding served-ended served-at_end
  guarded-ended cause.AtEnd passing ends unfinished at_end = record {
    passages = _;
    served = served-ended cause.AtEnd passing.going ends unfinished at_end;
    turns_are = passing.turns_are;
    decided = passing.decided;
    runs = passing.runs;
    keep_whole = passing.keep_whole;
    alone = alone-now passing.own;
  }
  guarded-ended cause.InRequest passing ends unfinished at_end = record {
    passages = _;
    served = served-ended cause.InRequest passing.going ends unfinished at_end;
    turns_are = passing.turns_are;
    decided = passing.decided;
    runs = passing.runs;
    keep_whole = passing.keep_whole;
    alone = alone-now passing.own;
  }
  guarded-ended cause.Closed passing ends unfinished at_end = absurd ends
  guarded-ended cause.ReadFault passing ends unfinished at_end = absurd ends
  guarded-ended cause.WriteFault passing ends unfinished at_end = absurd ends
  guarded-ended cause.Memory passing ends unfinished at_end = absurd ends
