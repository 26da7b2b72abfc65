-- That responses come in the order of their requests.
use Rattle.std.proofs.Common.{◌≡◌, ℕ, List, [], ◌∷◌, ◌++◌, map, refl, ap, sym, subst, ◌∙◌, inl, inr, append_assoc, append-nil}
use Rattle.std.proofs.lemmas.List.{map-append}
use Rattle.std.proofs.lemmas.List.Folds.{concat-append}
use Rattle.std.proofs.KnownBytes.{Appends-nil, Appends-trans}
use Rattle.std.specs.Prelude.{Option}
use Rattle.std.specs.Io.KnownBytes.{Appends, prepend_known}
use Rattle.std.specs.List.{FoldsTo, concat}
use Rattle.http_client.specs.Response.{BeginsWithResponse, Response}
use Rattle.http_client.specs.declared.incoming.ResponseFault.{ResponseFault}
use Rattle.http_client.specs.declared.incoming.ResponseFault.TheVariants as response
use Rattle.replicator.specs.Call.{Call}
use Rattle.replicator.specs.declared.fault.PeerFault.{PeerFault}
use Rattle.replicator_http.specs.Ahead.{CutAhead, Dropped, Event, Happens, Sent}
use Rattle.replicator_http.specs.Connection.{Connection, Exchange, Unmade, GivenUp, Cut, Unanswered, Answered, Exchanges, IsGivenUp, IsSent, state_after}
use Rattle.replicator_http.specs.Goes.{Goes, request_of}
use Rattle.replicator_http.specs.Passed.{BeginsWithAll, HasPassed}
use Rattle.replicator_http.specs.declared.state.State.{State}
use Rattle.replicator_http.specs.declared.state.State.TheVariants as state
use Rattle.replicator_http.proofs.Inputs.{Laws, decides}

abbrev Pair : Type 0
Pair = List ℕ × Response

one_more : (input : List ℕ) (all : List Response) (rest : List ℕ) (response : Response) (behind : List ℕ) → BeginsWithAll input all rest
    → BeginsWithResponse rest response behind → BeginsWithAll input (all ++ response ∷ []) behind
one_more input [] rest response behind same begins =
    (behind, subst (λ (b : List ℕ). BeginsWithResponse b response behind) (sym same) begins, refl)
one_more input (first ∷ more) rest response behind (next, one, all) begins = (next, one, one_more next more rest response behind all begins)

-- the bytes of the requests up to one that is written now
written_now : (pairs : List Pair) (request : List ℕ) (response : Response) (before after : List (List ℕ)) → before ≡ [] → after ≡ []
    → concat (map (λ p. p.0) pairs ++ before) ++ request ≡ concat (map (λ p. p.0) (pairs ++ (request, response) ∷ []) ++ after)
written_now pairs request response before after none also =
    let first : Pair → List ℕ = λ p. p.0 in
    let firsts = map first pairs in
    let left : concat (firsts ++ before) ≡ concat firsts =
    ap (λ (b : List (List ℕ)). concat (firsts ++ b)) none ∙ ap (λ (r : List (List ℕ)). concat r) (append-nil firsts) in
    let right : map first (pairs ++ (request, response) ∷ []) ++ after ≡ firsts ++ request ∷ [] =
    ap (λ (b : List (List ℕ)). map first (pairs ++ (request, response) ∷ []) ++ b) also
    ∙ append-nil (map first (pairs ++ (request, response) ∷ [])) ∙ map-append first pairs ((request, response) ∷ []) in
    ap (λ (b : List ℕ). b ++ request) left
    ∙ sym (ap (λ (r : List (List ℕ)). concat r) right ∙ concat-append firsts (request ∷ []) ∙ ap (λ (b : List ℕ). concat firsts ++ b) (append-nil request))

-- and up to one that was written ahead
written_before : (pairs : List Pair) (request : List ℕ) (response : Response) (before after : List (List ℕ)) → before ≡ request ∷ after
    → concat (map (λ p. p.0) pairs ++ before) ≡ concat (map (λ p. p.0) (pairs ++ (request, response) ∷ []) ++ after)
written_before pairs request response before after next =
    let first : Pair → List ℕ = λ p. p.0 in
    let firsts = map first pairs in
    ap (λ (b : List (List ℕ)). concat (firsts ++ b)) next
    ∙ ap (λ (r : List (List ℕ)). concat r)
    (sym (ap (λ (m : List (List ℕ)). m ++ after) (map-append first pairs ((request, response) ∷ [])) ∙ append_assoc firsts (request ∷ []) after))

written_more : (fresh old new : Connection) (pairs : List Pair) (request : List ℕ) (response : Response)
    → Appends fresh.taken old.taken (concat (map (λ p. p.0) pairs ++ old.ahead)) → IsSent request old new
    → Appends fresh.taken new.taken (concat (map (λ p. p.0) (pairs ++ (request, response) ∷ []) ++ new.ahead))
written_more fresh old new pairs request response written (inl (none, also, more)) =
    subst (λ (b : List ℕ). Appends fresh.taken new.taken b) (written_now pairs request response old.ahead new.ahead none also)
    (Appends-trans fresh.taken old.taken new.taken (concat (map (λ p. p.0) pairs ++ old.ahead)) request written more)
written_more fresh old new pairs request response written (inr (next, same)) =
    subst (λ (b : List ℕ). Appends fresh.taken new.taken b) (written_before pairs request response old.ahead new.ahead next)
    (subst (λ t. Appends fresh.taken t (concat (map (λ p. p.0) pairs ++ old.ahead))) (sym same) written)

-- while the connection is open, each response that was read belongs to the request of its number
abbrev pub Keeps : Connection → Connection → Type 0
Keeps fresh c = c.state ≡ state.Open → (pairs : List Pair) × HasPassed fresh c pairs

module _ (laws : Laws) where
  pub answered_more : (fresh old new : Connection) (request : List ℕ) (response : Response) (behind : List ℕ) → Keeps fresh old
      → Exchanges request old (Answered response behind) new → (pairs : List Pair) × HasPassed fresh new (pairs ++ (request, response) ∷ [])
  answered_more fresh old new request response behind keeps made =
      let before = keeps made.is_written.was_open in (
        before.0,
        record {
          written = written_more fresh old new before.0 request response before.1.written made.is_written.written;
          read = λ input is.
              let so_far = before.1.read input is in
              let next = decides laws request so_far.0 old new (Answered response behind) so_far.2 made in (
                next.0,
                subst (λ (all : List Response). BeginsWithAll input all next.0) (sym (map-append (λ p. p.1) before.0 ((request, response) ∷ [])))
                    (one_more input (map (λ p. p.1) before.0) so_far.0 response next.0 so_far.1 next.1),
                next.2,
              );
        },
      )

  never_open : (why : ResponseFault) → state_after why ≡ state.Open → ⊥
  never_open response.Ended is = absurd (cc)
  never_open response.ReadFailed is = absurd (cc)
  never_open response.Unreadable is = absurd (cc)
  never_open response.Memory is = absurd (cc)

  failed_open : state.Failed ≡ state.Open → ⊥
  failed_open is = absurd (cc)

  given_up_open : (s : State) (why : PeerFault) → IsGivenUp s why → s ≡ state.Open → ⊥
  given_up_open state.Open why given is = given
  given_up_open state.Failed why given is = absurd (cc)
  given_up_open state.Unreadable why given is = absurd (cc)

  keeps_exchange : (fresh old new : Connection) (request : List ℕ) (exchange : Exchange) → Keeps fresh old → Exchanges request old exchange new
      → Keeps fresh new
  keeps_exchange fresh old new request Unmade keeps made = subst (λ (c : Connection). Keeps fresh c) (sym made) keeps
  keeps_exchange fresh old new request (GivenUp why) keeps (given, made) =
      λ is. absurd (given_up_open old.state why given (sym (ap (λ (c : Connection). c.state) made) ∙ is))
  keeps_exchange fresh old new request Cut keeps (none, made) = λ is. absurd (failed_open (sym made.given_up ∙ is))
  keeps_exchange fresh old new request (Unanswered come why) keeps made = λ is. absurd (never_open why (sym made.given_up ∙ is))
  keeps_exchange fresh old new request (Answered response behind) keeps made =
      λ is. let more = answered_more fresh old new request response behind keeps made in (more.0 ++ (request, response) ∷ [], more.1)

  keeps_event : (fresh old new : Connection) (event : Event) → Keeps fresh old → Happens old event new → Keeps fresh new
  keeps_event fresh old new (Sent requests) keeps sent =
      λ is. let before = keeps sent.was_open in
      let firsts = map (λ (p : Pair). p.0) before.0 in (
        before.0,
        record {
          written = subst (λ (b : List ℕ). Appends fresh.taken new.taken b)
              (sym (concat-append (firsts ++ old.ahead) requests)
              ∙ ap (λ (r : List (List ℕ)). concat r) (append_assoc firsts old.ahead requests ∙ ap (λ (a : List (List ℕ)). firsts ++ a) (sym sent.ahead)))
              (Appends-trans fresh.taken old.taken new.taken (concat (firsts ++ old.ahead)) (concat requests) before.1.written sent.written);
          read = λ input from.
              let so_far = before.1.read input from in (
                so_far.0,
                so_far.1,
                ap (λ (b : List ℕ). prepend_known b new.left) sent.come ∙ ap (λ (l : Option (List ℕ)). prepend_known old.come l) sent.left ∙ so_far.2,
              );
        },
      )
  keeps_event fresh old new (CutAhead requests) keeps (asks, cut) = λ is. absurd (failed_open (sym cut.given_up ∙ is))
  keeps_event fresh old new (Dropped request exchange) keeps (next, read, made) = keeps_exchange fresh old new request exchange keeps made

  keeps_events : (fresh old new : Connection) (events : List Event) → Keeps fresh old → FoldsTo Happens old events new → Keeps fresh new
  keeps_events fresh old new [] keeps same = subst (λ (c : Connection). Keeps fresh c) same keeps
  keeps_events fresh old new (event ∷ events) keeps (mid, one, rest) =
      keeps_events fresh mid new events (keeps_event fresh old mid event keeps one) rest

  keeps_call : (fresh old new : Connection) (call : Call) → Keeps fresh old → Goes old call new → Keeps fresh new
  keeps_call fresh old new call keeps (events, mid, folds, (exchange, made, tells)) =
      keeps_exchange fresh mid new (request_of mid.terms call) exchange (keeps_events fresh old mid events keeps folds) made

  keeps_calls : (fresh old new : Connection) (calls : List Call) → Keeps fresh old → FoldsTo Goes old calls new → Keeps fresh new
  keeps_calls fresh old new [] keeps same = subst (λ (c : Connection). Keeps fresh c) same keeps
  keeps_calls fresh old new (call ∷ calls) keeps (mid, one, rest) = keeps_calls fresh mid new calls (keeps_call fresh old mid call keeps one) rest

  keeps_fresh : (fresh : Connection) → fresh.ahead ≡ [] → Keeps fresh fresh
  keeps_fresh fresh none = λ is. (
    [],
    record {
      written = subst (λ (b : List (List ℕ)). Appends fresh.taken fresh.taken (concat b)) (sym none) (Appends-nil fresh.taken);
      read = λ input from. (input, refl, from);
    },
  )

  pub in_order : (fresh now mid new : Connection) (calls : List Call) (events : List Event) (request : List ℕ) (response : Response) (behind : List ℕ)
      → fresh.ahead ≡ [] → FoldsTo Goes fresh calls now → FoldsTo Happens now events mid → Exchanges request mid (Answered response behind) new
      → (before : List Pair) × HasPassed fresh new (before ++ (request, response) ∷ [])
  in_order fresh now mid new calls events request response behind none went happened made =
      answered_more fresh mid new request response behind
      (keeps_events fresh now mid events (keeps_calls fresh fresh now calls (keeps_fresh fresh none) went) happened) made
