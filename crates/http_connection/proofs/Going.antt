-- A connection between two turns, and its end.
use Rattle.std.proofs.Common.{◌≡◌, ℕ, ◌+◌, ◌<◌, List, [], ◌∷◌, ◌++◌, length, take, Bool, true, false, Option, None, Some, refl, ap, sym, ◌∙◌, subst, arith, length-append}
use Rattle.std.specs.Prelude.{IsTrue, IsFalse}
use Rattle.std.specs.List.{FoldsTo}
use Rattle.std.specs.Io.KnownBytes.{Consumes, Appends, IsAtEnd}
use Rattle.std.proofs.KnownBytes.{Consumes-nil, Consumes-trans, Appends-nil, Appends-trans}
use Rattle.std.proofs.lemmas.List.{append-nil, map-append}
use Rattle.std.proofs.lemmas.List.Elements.{All-nil, All-push}
use Rattle.std.proofs.lemmas.Grind.{flat_map-append}
use Rattle.std.proofs.lemmas.Fn.{FoldsTo-push}
use Rattle.streams.specs.Counts.{CountRose}
use Rattle.http_framing.specs.Input.{Item, Begins, Splits, AreOpen, IsUnfinished, closes_connection}
use Rattle.http_framing.proofs.More.{Splits-append, Splits-push}
use Rattle.http_connection.specs.Turn.{Turn, TakesTurn, items_of, responses_of, AreWhole, GoesOn}
use Rattle.streams.specs.Streams.{Streams}
use Rattle.http_connection.specs.Served.{Served, EndsInput, EndsBy, CountsReads, CountsWrites}
use Rattle.http_connection.specs.declared.outcome.Cause.{Cause}
use Rattle.http_connection.specs.declared.outcome.Cause.TheVariants as cause

pub is_open : (item closes : Bool) → (IsTrue item → IsTrue closes) → IsFalse closes → IsFalse item
is_open false closes h open_turn = refl
is_open true closes h open_turn = let closed = h refl in cc

responses-push : (turns : List Turn) (turn : Turn) → responses_of (turns ++ turn ∷ []) ≡ responses_of turns ++ turn.text
responses-push turns turn = flat_map-append (λ (t : Turn). t.text) turns (turn ∷ []) ∙ ap (λ (x : List ℕ). responses_of turns ++ x) (append-nil turn.text)

-- what was read is the items of these turns and a rest, their responses were written, and the connection goes on
pub record Going {T : Type 0} (answers : T → Turn → T → Type 0) (before now : Streams) (old state : T) (answered : ℕ) (turns : List Turn) (rest : List ℕ) : Type 0 where
  pub read : List ℕ
  pub reads : Consumes before.left now.left read
  pub splits : Splits read (items_of turns) rest
  pub runs : FoldsTo answers old turns state
  pub writes : Appends before.taken now.taken (responses_of turns)
  pub count : answered ≡ length turns
  pub goes_on : GoesOn turns
  pub whole : AreWhole turns
  pub are_open : AreOpen (items_of turns)
  pub failed_reads : now.failed_reads ≡ before.failed_reads
  pub failed_writes : now.failed_writes ≡ before.failed_writes

module _ {T : Type 0} {answers : T → Turn → T → Type 0} where
  unfoldable pub going-start : {streams : Streams} {state : T} {rest : List ℕ} → rest ≡ [] → Going answers streams streams state state 0 [] rest
  going-start {streams = streams} none = record {
    read = [];
    reads = Consumes-nil streams.left;
    splits = sym none;
    runs = refl;
    writes = Appends-nil streams.taken;
    count = refl;
    goes_on = All-nil (λ (turn : Turn). IsFalse turn.closes);
    whole = All-nil (λ (turn : Turn). IsTrue turn.whole);
    are_open = All-nil (λ (item : Item). IsFalse (closes_connection item));
    failed_reads = refl;
    failed_writes = refl;
  }

  -- ---- one more item

  -- what a service has taken: one more item was read
  pub splits-taken : {before now : Streams} {old state new : T} {n : ℕ} {turns : List Turn} {rest : List ℕ} {item : Item} {turn : Turn} (after : List ℕ)
      → (going : Going answers before now old state n turns rest) → TakesTurn answers state new item turn → Begins rest item after
      → Splits going.read (items_of (turns ++ turn ∷ [])) after
  splits-taken {turns = turns} {rest = rest} {item = item} {turn = turn} after going takes begins =
      let items : items_of (turns ++ turn ∷ []) ≡ items_of turns ++ item ∷ [] =
      map-append (λ (t : Turn). t.item) turns (turn ∷ []) ∙ ap (λ (i : Item). items_of turns ++ i ∷ []) takes.of_item in
      subst (λ (is : List Item). Splits going.read is after) (sym items)
      (Splits-push going.read (items_of turns) rest item after going.are_open going.splits begins)

  -- and its response was written
  pub writes-taken : {before now : Streams} {old state : T} {n : ℕ} {turns : List Turn} {rest : List ℕ} (turn : Turn) (taken : Option (List ℕ))
      → Going answers before now old state n turns rest → Appends now.taken taken turn.text
      → Appends before.taken taken (responses_of (turns ++ turn ∷ []))
  writes-taken {before = before} {now = now} {turns = turns} turn taken going appends =
      subst (Appends before.taken taken) (sym (responses-push turns turn)) (Appends-trans before.taken now.taken taken _ _ going.writes appends)

  -- the connection goes on after the turn
  unfoldable pub going-on : {before now later : Streams} {old state new : T} {n : ℕ} {turns : List Turn} {rest : List ℕ} {item : Item} {turn : Turn} {after : List ℕ}
      → Going answers before now old state n turns rest → TakesTurn answers state new item turn → Begins rest item after → IsFalse turn.closes → IsTrue turn.whole
      → later.left ≡ now.left → later.failed_reads ≡ now.failed_reads → Appends now.taken later.taken turn.text → later.failed_writes ≡ now.failed_writes
      → Going answers before later old new (n + 1) (turns ++ turn ∷ []) after
  going-on {before = before} {later = later} {turns = turns} {item = item} {turn = turn} {after = after} going takes begins goes_on whole left reads appends writes =
      let opens = is_open (closes_connection item) turn.closes takes.closes goes_on in
      let opens_turn : IsFalse (closes_connection turn.item) = subst (λ (i : Item). IsFalse (closes_connection i)) (sym takes.of_item) opens in
      let items = map-append (λ (t : Turn). t.item) turns (turn ∷ []) in
      record {
        read = going.read;
        reads = subst (λ (l : Option (List ℕ)). Consumes before.left l going.read) (sym left) going.reads;
        splits = splits-taken after going takes begins;
        runs = FoldsTo-push answers _ turns _ turn _ going.runs takes.answered;
        writes = writes-taken turn later.taken going appends;
        count = omega (arith, going.count, length-append turns (turn ∷ []));
        goes_on = All-push (λ (t : Turn). IsFalse t.closes) turns turn going.goes_on goes_on;
        whole = All-push (λ (t : Turn). IsTrue t.whole) turns turn going.whole whole;
        are_open = subst AreOpen (sym items) (All-push (λ (i : Item). IsFalse (closes_connection i)) (items_of turns) turn.item going.are_open opens_turn);
        failed_reads = reads ∙ going.failed_reads;
        failed_writes = writes ∙ going.failed_writes;
      }

  -- the connection closes after the turn
  unfoldable pub served-closed : {before now later : Streams} {old state new : T} {n : ℕ} {turns : List Turn} {rest : List ℕ} {item : Item} {turn : Turn} (after : List ℕ)
      → Going answers before now old state n turns rest → TakesTurn answers state new item turn → Begins rest item after → IsTrue turn.closes → IsTrue turn.whole
      → later.left ≡ now.left → later.failed_reads ≡ now.failed_reads → Appends now.taken later.taken turn.text → later.failed_writes ≡ now.failed_writes
      → Served answers before later old new (record { answered = n + 1; cause = cause.Closed })
  served-closed {before = before} {later = later} {turns = turns} {turn = turn} after going takes begins closes whole left reads appends writes = record {
    read = going.read;
    turns = turns ++ turn ∷ [];
    cut = None;
    rest = after;
    part = [];
    reads = subst (λ (l : Option (List ℕ)). Consumes before.left l going.read) (sym left) going.reads;
    splits = splits-taken after going takes begins;
    runs = FoldsTo-push answers _ turns _ turn _ going.runs takes.answered;
    whole = All-push (λ (t : Turn). IsTrue t.whole) turns turn going.whole whole;
    not_whole = tt;
    writes = subst (Appends before.taken later.taken) (sym (append-nil _)) (writes-taken turn later.taken going appends);
    is_part = refl;
    answered = omega (arith, going.count, length-append turns (turn ∷ []));
    ends = ((turns, turn, refl, going.goes_on, closes), refl);
    failed_reads = reads ∙ going.failed_reads;
    failed_writes = writes ∙ going.failed_writes;
  }

  -- the response of the turn was cut
  unfoldable pub served-cut : {before now later : Streams} {old state new : T} {n : ℕ} {turns : List Turn} {rest : List ℕ} {item : Item} {turn : Turn} (after : List ℕ)
      → Going answers before now old state n turns rest → TakesTurn answers state new item turn → Begins rest item after → IsFalse turn.whole
      → later.left ≡ now.left → later.failed_reads ≡ now.failed_reads → ((sent : ℕ) × (sent < length turn.text) × Appends now.taken later.taken (take sent turn.text)) → CountRose now.failed_writes later.failed_writes
      → Served answers before later old new (record { answered = n; cause = cause.WriteFault })
  served-cut {before = before} {now = now} {later = later} {turns = turns} {turn = turn} after going takes begins not_whole left reads (sent, less, appends) rose = record {
    read = going.read;
    turns = turns;
    cut = Some turn;
    rest = after;
    part = take sent turn.text;
    reads = subst (λ (l : Option (List ℕ)). Consumes before.left l going.read) (sym left) going.reads;
    splits = splits-taken after going takes begins;
    runs = FoldsTo-push answers _ turns _ turn _ going.runs takes.answered;
    whole = going.whole;
    not_whole = not_whole;
    writes = Appends-trans before.taken now.taken later.taken _ _ going.writes appends;
    is_part = (sent, less, refl);
    answered = going.count;
    ends = (going.goes_on, refl);
    failed_reads = reads ∙ going.failed_reads;
    failed_writes = subst (λ (k : ℕ). CountRose k later.failed_writes) going.failed_writes rose;
  }

  -- ---- more input, and its end

  unfoldable pub going-more : {before now later : Streams} {old state : T} {n : ℕ} {turns : List Turn} {rest more : List ℕ} (piece : List ℕ)
      → Going answers before now old state n turns rest → more ≡ rest ++ piece → Consumes now.left later.left piece
      → later.failed_reads ≡ now.failed_reads → later.taken ≡ now.taken → later.failed_writes ≡ now.failed_writes
      → Going answers before later old state n turns more
  going-more {before = before} {now = now} {later = later} {turns = turns} {rest = rest} piece going is consumes reads taken writes = record {
    read = going.read ++ piece;
    reads = Consumes-trans before.left now.left later.left going.read piece going.reads consumes;
    splits = subst (Splits (going.read ++ piece) (items_of turns)) (sym is) (Splits-append going.read piece (items_of turns) rest going.are_open going.splits);
    runs = going.runs;
    writes = subst (λ (t : Option (List ℕ)). Appends before.taken t (responses_of turns)) (sym taken) going.writes;
    count = going.count;
    goes_on = going.goes_on;
    whole = going.whole;
    are_open = going.are_open;
    failed_reads = reads ∙ going.failed_reads;
    failed_writes = writes ∙ going.failed_writes;
  }

  -- a read failed, after some more had come
  unfoldable pub served-read_fault : {before now later : Streams} {old state : T} {n : ℕ} {turns : List Turn} {rest : List ℕ} (piece : List ℕ)
      → Going answers before now old state n turns rest → Consumes now.left later.left piece
      → CountRose now.failed_reads later.failed_reads → later.taken ≡ now.taken → later.failed_writes ≡ now.failed_writes
      → IsUnfinished (rest ++ piece)
      → Served answers before later old state (record { answered = n; cause = cause.ReadFault })
  served-read_fault {before = before} {now = now} {later = later} {turns = turns} {rest = rest} piece going consumes rose taken writes part = record {
    read = going.read ++ piece;
    turns = turns;
    cut = None;
    rest = rest ++ piece;
    part = [];
    reads = Consumes-trans before.left now.left later.left going.read piece going.reads consumes;
    splits = Splits-append going.read piece (items_of turns) rest going.are_open going.splits;
    runs = going.runs;
    whole = going.whole;
    not_whole = tt;
    writes = subst (λ (t : Option (List ℕ)). Appends before.taken t (responses_of turns ++ [])) (sym taken) (subst (Appends before.taken now.taken) (sym (append-nil _)) going.writes);
    is_part = refl;
    answered = going.count;
    ends = (going.goes_on, refl, part);
    failed_reads = subst (λ (k : ℕ). CountRose k later.failed_reads) going.failed_reads rose;
    failed_writes = writes ∙ going.failed_writes;
  }

  -- nothing failed, and no more is read
  unfoldable pub served-at_end : {before now : Streams} {old state : T} {n : ℕ} {turns : List Turn} {rest : List ℕ} (cause : Cause)
      → Going answers before now old state n turns rest → EndsBy cause turns None rest now.left
      → CountsReads cause before.failed_reads now.failed_reads → CountsWrites cause before.failed_writes now.failed_writes
      → Served answers before now old state (record { answered = n; cause = cause })
  served-at_end {before = before} {now = now} {turns = turns} {rest = rest} cause going ends reads writes = record {
    read = going.read;
    turns = turns;
    cut = None;
    rest = rest;
    part = [];
    reads = going.reads;
    splits = going.splits;
    runs = going.runs;
    whole = going.whole;
    not_whole = tt;
    writes = subst (Appends before.taken now.taken) (sym (append-nil _)) going.writes;
    is_part = refl;
    answered = going.count;
    ends = ends;
    failed_reads = reads;
    failed_writes = writes;
  }

  -- the input ended with this rest
  unfoldable pub served-ended : {before now : Streams} {old state : T} {n : ℕ} {turns : List Turn} {rest : List ℕ} (cause : Cause)
      → Going answers before now old state n turns rest → EndsInput cause rest → IsUnfinished rest → IsAtEnd now.left
      → Served answers before now old state (record { answered = n; cause = cause })
  served-ended cause.AtEnd going none unfinished at_end =
      served-at_end cause.AtEnd going (going.goes_on, refl, none, at_end) going.failed_reads going.failed_writes
  served-ended cause.InRequest going some unfinished at_end =
      served-at_end cause.InRequest going (going.goes_on, refl, some, unfinished, at_end) going.failed_reads going.failed_writes
  served-ended cause.Closed going ends unfinished at_end = absurd ends
  served-ended cause.ReadFault going ends unfinished at_end = absurd ends
  served-ended cause.WriteFault going ends unfinished at_end = absurd ends
  served-ended cause.Memory going ends unfinished at_end = absurd ends

  -- nothing was done, since memory was refused
  pub served-nothing : {streams : Streams} {state : T} → Served answers streams streams state state (record { answered = 0; cause = cause.Memory })
  served-nothing = served-at_end cause.Memory (going-start refl) (refl, refl, refl) refl refl
