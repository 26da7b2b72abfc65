-- How a request is asked, and what happens before.
use Rattle.std.proofs.Common.{◌≡◌, ◌⊎◌, ℕ, ◌+◌, ◌<◌, List, [], ◌∷◌, ◌++◌, length, refl, ap, sym, subst, ◌∙◌, inl, inr, Ok, Err, arith}
use Rattle.std.specs.Prelude.{All, IfErr, IfOk, OnErr, OnOk, Result, drop, ⊤}
use Rattle.std.specs.List.{FoldsTo, concat}
use Rattle.std.specs.Io.KnownBytes.{Appends, Consumes}
use Rattle.std.proofs.lemmas.Fn.{FoldsTo-push}
use Rattle.http_client.specs.Front.{response_at}
use Rattle.http_client.specs.Incoming.{CountsReads}
use Rattle.http_client.specs.Response.{IsUnfinished}
use Rattle.http_client.specs.declared.front.ResponseSpans.{ResponseSpans}
use Rattle.http_client.specs.declared.incoming.ResponseFault.{ResponseFault}
use Rattle.replicator.specs.declared.fault.PeerFault.{PeerFault}
use Rattle.replicator.specs.declared.fault.PeerFault.TheVariants as fault
use Rattle.replicator_http.specs.Ahead.{AfterEvents, AsksRevisions, CutAhead, Dropped, Event, Happens, IsSentAhead, IsWithin, Sent}
use Rattle.replicator_http.specs.Asked.{Fails, HasCome, HasWritten, IsPut, Reads, after, fault_of}
use Rattle.replicator_http.specs.Connection.{Connection, Exchange, Cut, Answered, Unanswered, Exchanges, IsCut, IsSent, IsUnanswered, IsWritten}
use Rattle.replicator_http.specs.declared.state.State.TheVariants as state
use Rattle.replicator_http.proofs.Calls.{taken_away}

-- ---- a request that has its turn

-- the next that was written ahead
pub put_ahead : (request : List ℕ) (rest : List (List ℕ)) (old new : Connection) → old.ahead ≡ request ∷ rest
    → new ≡ record old { ahead = drop 1 old.ahead } → IsPut request old new
put_ahead request rest old new next is =
    let behind : new.ahead ≡ rest = ap (λ (c : Connection). c.ahead) is ∙ ap (λ (a : List (List ℕ)). drop 1 a) next in
    record {
      sent = inr (next ∙ ap (λ (a : List (List ℕ)). request ∷ a) (sym behind), ap (λ (c : Connection). c.taken) is);
      failed_writes = ap (λ (c : Connection). c.failed_writes) is;
      left = ap (λ (c : Connection). c.left) is;
      failed_reads = ap (λ (c : Connection). c.failed_reads) is;
      come = ap (λ (c : Connection). c.come) is;
      state = ap (λ (c : Connection). c.state) is;
      terms = ap (λ (c : Connection). c.terms) is;
    }

-- it is written, and none is ahead
pub put_now : (request : List ℕ) (old new : Connection) → old.ahead ≡ [] → HasWritten request old new → IsPut request old new
put_now request old new none written = record {
  sent = inl (none, written.ahead ∙ none, written.written);
  failed_writes = written.failed_writes;
  left = written.left;
  failed_reads = written.failed_reads;
  come = written.come;
  state = written.state;
  terms = written.terms;
}

sent_then : (request : List ℕ) (old mid new : Connection) (result : Result ResponseSpans ResponseFault) → IsSent request old mid
    → Reads mid new result → IsSent request old new
sent_then request old mid new result (inl (none, also, written)) reads =
    inl (none, reads.ahead ∙ also, subst (λ t. Appends old.taken t request) (sym reads.taken) written)
sent_then request old mid new result (inr (next, same)) reads =
    inr (next ∙ ap (λ (a : List (List ℕ)). request ∷ a) (sym reads.ahead), reads.taken ∙ same)

needed_then : (old mid new : Connection) → mid.come ≡ old.come → mid.left ≡ old.left
    → IsUnfinished mid.come ⊎ ((new.come ≡ mid.come) × (new.left ≡ mid.left)) → IsUnfinished old.come ⊎ ((new.come ≡ old.come) × (new.left ≡ old.left))
needed_then old mid new come left (inl unfinished) = inl (subst (λ (b : List ℕ). IsUnfinished b) come unfinished)
needed_then old mid new come left (inr (same, also)) = inr (same ∙ come, also ∙ left)

written_then : (request : List ℕ) (old mid new : Connection) (result : Result ResponseSpans ResponseFault) → old.state ≡ state.Open
    → IsPut request old mid → Reads mid new result → IsWritten request new.come old new
written_then request old mid new result is_open put reads = record {
  was_open = is_open;
  written = sent_then request old mid new result put.sent reads;
  failed_writes = reads.failed_writes ∙ put.failed_writes;
  read = (
    reads.read.0,
    reads.read.1 ∙ ap (λ (b : List ℕ). b ++ reads.read.0) put.come,
    subst (λ l. Consumes l new.left reads.read.0) put.left reads.read.2,
  );
  needed = needed_then old mid new put.come put.left reads.needed;
  terms = reads.terms ∙ put.terms;
}

pub come_then : (request : List ℕ) (old mid new : Connection) (spans : ResponseSpans) → old.state ≡ state.Open
    → IsPut request old mid → Reads mid new (Ok spans) → HasCome request old new spans
come_then request old mid new spans is_open put reads = record {
  is_written = written_then request old mid new (Ok spans) is_open put reads;
  is_response = reads.response;
  failed_reads = reads.failed_reads ∙ put.failed_reads;
  goes_on = reads.state ∙ put.state ∙ is_open;
}

pub unanswered_then : (request : List ℕ) (old mid new : Connection) (why : ResponseFault) → old.state ≡ state.Open
    → IsPut request old mid → Reads mid new (Err why) → Exchanges request old (Unanswered new.come why) new
unanswered_then request old mid new why is_open put reads = record {
  is_written = written_then request old mid new (Err why) is_open put reads;
  reads = reads.response;
  failed_reads = subst (λ (n : ℕ). CountsReads {A = ResponseSpans} n new.failed_reads (Err why)) put.failed_reads reads.failed_reads;
  come_stays = refl;
  given_up = reads.state;
}

-- ---- why it has no response

counted : (P : Connection → Type 0) (mid new : Connection) → new ≡ record mid { failed_calls = new.failed_calls } → P (record mid { failed_calls = new.failed_calls }) → P new
counted P mid new is holds = subst (λ (c : Connection). P c) (sym is) holds

pub fails_cut : (request : List ℕ) (old mid new : Connection) (why : PeerFault) → old.ahead ≡ [] → IsCut request old mid
    → new ≡ record mid { failed_calls = new.failed_calls } → why ≡ fault.Failed → Fails request old new why
fails_cut request old mid new why none cut is failed =
    let made : IsCut request old (record mid { failed_calls = new.failed_calls }) = record {
      was_open = cut.was_open;
      written = cut.written;
      failed_writes = cut.failed_writes;
      left = cut.left;
      failed_reads = cut.failed_reads;
      come = cut.come;
      given_up = cut.given_up;
      terms = cut.terms;
    } in
    (Cut, (none, counted (λ c. IsCut request old c) mid new is made), failed)

pub fails_unread : (request : List ℕ) (old mid read new : Connection) (because : ResponseFault) (why : PeerFault) → old.state ≡ state.Open
    → IsPut request old mid → Reads mid read (Err because) → new ≡ record read { failed_calls = new.failed_calls } → why ≡ fault_of because
    → Fails request old new why
fails_unread request old mid read new because why is_open put reads is failed =
    let un = unanswered_then request old mid read because is_open put reads in
    let made : IsUnanswered request read.come because old (record read { failed_calls = new.failed_calls }) = record {
      is_written = record {
        was_open = un.is_written.was_open;
        written = un.is_written.written;
        failed_writes = un.is_written.failed_writes;
        read = un.is_written.read;
        needed = un.is_written.needed;
        terms = un.is_written.terms;
      };
      reads = un.reads;
      failed_reads = un.failed_reads;
      come_stays = un.come_stays;
      given_up = un.given_up;
    } in
    (Unanswered read.come because, counted (λ c. IsUnanswered request read.come because old c) read new is made, failed)

-- ---- before it has its turn

pub none_of : (xs : List (List ℕ)) → length xs ≡ 0 → xs ≡ []
none_of [] is = refl
none_of (x ∷ xs) is = absurd (omega arith)

-- one less is ahead
pub one_less : (now new : List (List ℕ)) (dropped len : ℕ) → new ≡ drop 1 now → length now + dropped ≡ len → dropped < len
    → length new + (dropped + 1) ≡ len
one_less [] new dropped len is count below = absurd (omega arith)
one_less (x ∷ rest) new dropped len is count below = let same : length new ≡ length rest = ap (λ (l : List (List ℕ)). length l) is in omega arith

cons_of : (xs : List (List ℕ)) → 0 < length xs → (x : List ℕ) × (rest : List (List ℕ)) × (xs ≡ x ∷ rest)
cons_of [] some = absurd (omega arith)
cons_of (x ∷ rest) some = (x, rest, refl)

pub dropped_read : (old popped read new : Connection) (spans : ResponseSpans) → old.state ≡ state.Open → 0 < length old.ahead
    → popped ≡ record old { ahead = drop 1 old.ahead } → Reads popped read (Ok spans) → new ≡ after read spans → (event : Event) × Happens old event new
dropped_read old popped read new spans is_open some is reads away =
    let next = cons_of old.ahead some in
    let come = come_then next.0 old popped read spans is_open (put_ahead next.0 next.1 old popped next.2 is) reads in
    let exchange : Exchange = Answered (response_at read.come spans) (drop spans.body.end read.come) in (
      Dropped next.0 exchange,
      ((next.1, next.2), tt, subst (λ (c : Connection). Exchanges next.0 old exchange c) (sym away) (taken_away next.0 old read spans come read.failed_calls)),
    )

pub dropped_unread : (old popped new : Connection) (why : ResponseFault) → old.state ≡ state.Open → 0 < length old.ahead
    → popped ≡ record old { ahead = drop 1 old.ahead } → Reads popped new (Err why) → (event : Event) × Happens old event new
dropped_unread old popped new why is_open some is reads =
    let next = cons_of old.ahead some in (
      Dropped next.0 (Unanswered new.come why),
      ((next.1, next.2), tt, unanswered_then next.0 old popped new why is_open (put_ahead next.0 next.1 old popped next.2 is) reads),
    )

-- requests were written ahead
pub sent_ahead : (old added new : Connection) (more : List (List ℕ)) (text : List ℕ) → old.state ≡ state.Open
    → added ≡ record old { ahead = old.ahead ++ more } → All (AsksRevisions old.terms.host) more → text ≡ concat more → IsWithin added.ahead
    → HasWritten text added new → (events : List Event) × FoldsTo Happens old events new
sent_ahead old added new more text is_open is asks same within written =
    let sent : IsSentAhead more old new = record {
      was_open = is_open;
      revisions = asks;
      written = subst (λ (b : List ℕ). Appends old.taken new.taken b) same
          (subst (λ t. Appends t new.taken text) (ap (λ (c : Connection). c.taken) is) written.written);
      ahead = written.ahead ∙ ap (λ (c : Connection). c.ahead) is;
      within = subst (λ (a : List (List ℕ)). IsWithin a) (sym written.ahead) within;
      left = written.left ∙ ap (λ (c : Connection). c.left) is;
      failed_reads = written.failed_reads ∙ ap (λ (c : Connection). c.failed_reads) is;
      failed_writes = written.failed_writes ∙ ap (λ (c : Connection). c.failed_writes) is;
      come = written.come ∙ ap (λ (c : Connection). c.come) is;
      state = written.state ∙ ap (λ (c : Connection). c.state) is;
      terms = written.terms ∙ ap (λ (c : Connection). c.terms) is;
    } in
    (Sent more ∷ [], (new, sent, refl))

pub cut_ahead : (old added new : Connection) (more : List (List ℕ)) (text : List ℕ) → added ≡ record old { ahead = old.ahead ++ more }
    → All (AsksRevisions old.terms.host) more → text ≡ concat more → IsCut text added new → (events : List Event) × FoldsTo Happens old events new
cut_ahead old added new more text is asks same cut =
    let cut_all : IsCut (concat more) added new = subst (λ (b : List ℕ). IsCut b added new) same cut in
    let base : Connection = record old { ahead = old.ahead ++ more } in
    let from : IsCut (concat more) base new = subst (λ (c : Connection). IsCut (concat more) c new) is cut_all in
    let whole : IsCut (concat more) old new = record {
      was_open = from.was_open;
      written = from.written;
      failed_writes = from.failed_writes;
      left = from.left;
      failed_reads = from.failed_reads;
      come = from.come;
      given_up = from.given_up;
      terms = from.terms;
    } in
    (CutAhead more ∷ [], (new, (asks, whole), refl))

pub wrote_ahead : {E : Type 0} (old added new : Connection) (text bytes : List ℕ) (result : Result ⊤ E) → old.state ≡ state.Open
    → (more : List (List ℕ)) × (added ≡ record old { ahead = old.ahead ++ more }) × All (AsksRevisions old.terms.host) more × (text ≡ concat more)
    → IsWithin added.ahead → bytes ≡ text → OnOk result (HasWritten bytes added new) → OnErr result (IsCut bytes added new)
    → (events : List Event) × FoldsTo Happens old events new
wrote_ahead old added new text bytes (Ok x) is_open (more, is, asks, same) within all written cut =
    sent_ahead old added new more bytes is_open is asks (all ∙ same) within written
wrote_ahead old added new text bytes (Err f) is_open (more, is, asks, same) within all written cut =
    cut_ahead old added new more bytes is asks (all ∙ same) cut

-- nothing happened
pub nothing : (c : Connection) → (events : List Event) × FoldsTo Happens c events c
nothing c = ([], refl)

-- one more event
pub and_then : (old mid new : Connection) → (events : List Event) × FoldsTo Happens old events mid → (event : Event) × Happens mid event new
    → (events : List Event) × FoldsTo Happens old events new
and_then old mid new before one = (before.0 ++ one.0 ∷ [], FoldsTo-push Happens old before.0 mid one.0 new before.1 one.1)

-- ---- a call after what happened before it

append_folds : (old mid new : Connection) (first more : List Event) → FoldsTo Happens old first mid → FoldsTo Happens mid more new
    → FoldsTo Happens old (first ++ more) new
append_folds old mid new [] more same folds = subst (λ (c : Connection). FoldsTo Happens c more new) (sym same) folds
append_folds old mid new (event ∷ first) more (next, one, rest) folds = (next, one, append_folds next mid new first more rest folds)

pub after_both : (P : Connection → Type 0) (old mid : Connection) → (events : List Event) × FoldsTo Happens old events mid → AfterEvents mid P → AfterEvents old P
after_both P old mid before (more, now, went, holds) = (before.0 ++ more, now, append_folds old mid now before.0 more before.1 went, holds)

pub ok_after : {A : Type 0} (P : Connection → A → Type 0) (old mid : Connection) (result : Result A PeerFault)
    → (events : List Event) × FoldsTo Happens old events mid → IfOk result (λ x. P mid x) → IfOk result (λ x. AfterEvents old (λ m. P m x))
ok_after P old mid (Ok x) before holds = (before.0, mid, before.1, holds)
ok_after P old mid (Err f) before holds = tt

pub err_after : {A : Type 0} (P : Connection → PeerFault → Type 0) (old mid : Connection) (result : Result A PeerFault)
    → (events : List Event) × FoldsTo Happens old events mid → IfErr result (λ f. P mid f) → IfErr result (λ f. AfterEvents old (λ m. P m f))
err_after P old mid (Ok x) before holds = tt
err_after P old mid (Err f) before holds = (before.0, mid, before.1, holds)
