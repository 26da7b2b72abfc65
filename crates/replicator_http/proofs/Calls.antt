-- The answer of a call, after a fault and after a response.
use Rattle.std.proofs.Common.{◌≡◌, ◌⊎◌, ℕ, ◌∙◌, ap, sym, subst, refl, inl, inr, List, [], Option, Ok, Err}
use Rattle.http_client.specs.Incoming.{ReadsIfUnfinished}
use Rattle.http_client.specs.Response.{IsUnfinished, Response}
use Rattle.http_client.specs.Front.{response_at}
use Rattle.http_client.specs.declared.front.ResponseSpans.{ResponseSpans}
use Rattle.replicator.specs.declared.fault.PeerFault.{PeerFault}
use Rattle.replicator.specs.declared.fault.PeerFault.TheVariants as fault
use Rattle.std.specs.Prelude.{drop, IsErrAnd}
use Rattle.replicator_http.specs.Ahead.{AfterEvents}
use Rattle.replicator_http.specs.Asked.{Fails, HasCome, IsFaultOf, after}
use Rattle.replicator_http.specs.Connection.{Connection, Terms, Exchange, Unmade, GivenUp, Cut, Unanswered, Answered, Exchanges}
use Rattle.replicator_http.specs.Goes.{IsAnswerTo}
use Rattle.replicator_http.specs.Told.{Answers, Told}
use Rattle.replicator_http.proofs.Kept.{terms-events}

-- what a reader was not asked for leaves what is left of its input
pub not_needed : {R : Type 0} (left : R → Option (List ℕ)) (old new : List ℕ) (reader reader' : R) → ReadsIfUnfinished old new reader reader'
    → IsUnfinished old ⊎ ((new ≡ old) × (left reader' ≡ left reader))
not_needed left old new reader reader' (inl unfinished) = inl unfinished
not_needed left old new reader reader' (inr (same, asked)) = inr (same, ap left asked)

-- a request is exchanged, and the answer is reported by that
abbrev pub IsAnsweredNow : {A : Type 0} → List ℕ → (Response → Told A) → Connection → Told A → Connection → Type 0
IsAnsweredNow request told old answer new = (exchange : Exchange) × Exchanges request old exchange new × IsAnswerTo exchange told answer

-- so it is after what happened before
abbrev pub IsAnsweredCall : {A : Type 0} → (Terms → List ℕ) → (Response → Told A) → Connection → Told A → Connection → Type 0
IsAnsweredCall request told old answer new = AfterEvents old (λ mid. IsAnsweredNow (request mid.terms) told mid answer new)

fault_answer : {A : Type 0} (told : Response → Told A) (exchange : Exchange) (why : PeerFault) (answer : Told A)
    → answer ≡ Err why → IsFaultOf exchange why → IsAnswerTo exchange told answer
fault_answer told Unmade why answer is of = absurd of
fault_answer {A} told (GivenUp given) why answer is of = is ∙ ap (λ f. Err f) of
fault_answer {A} told Cut why answer is of = is ∙ ap (λ f. Err f) of
fault_answer {A} told (Unanswered come because) why answer is of = is ∙ ap (λ f. Err f) of
fault_answer told (Answered response behind) why answer is of = absurd of

pub passed : {A : Type 0} (answer : Told A) (why : PeerFault) → IsErrAnd answer (λ f. f ≡ why) → answer ≡ Err why
passed (Ok x) why is = absurd is
passed (Err f) why is = ap (λ f. Err f) is

failed_now : {A : Type 0} (told : Response → Told A) (asked request : List ℕ) (old new : Connection) (why : PeerFault) (answer : Told A)
    → asked ≡ request → IsErrAnd answer (λ f. f ≡ why) → Fails asked old new why → IsAnsweredNow request told old answer new
failed_now told asked request old new why answer same is fails = (
  fails.0,
  subst (λ (text : List ℕ). Exchanges text old fails.0 new) same fails.1,
  fault_answer told fails.0 why answer (passed answer why is) fails.2,
)

pub failed : {A : Type 0} (told : Response → Told A) (asked : List ℕ) (request : Terms → List ℕ) (old new : Connection) (why : PeerFault) (answer : Told A)
    → asked ≡ request old.terms → IsErrAnd answer (λ f. f ≡ why) → AfterEvents old (λ mid. Fails asked mid new why) → IsAnsweredCall request told old answer new
failed told asked request old new why answer same is (events, mid, went, fails) =
    (events, mid, went, failed_now told asked (request mid.terms) mid new why answer (same ∙ ap request (sym (terms-events old mid events went))) is fails)

-- the response that has come is taken away
pub taken_away : (request : List ℕ) (old mid : Connection) (spans : ResponseSpans) → HasCome request old mid spans
    → (failed_calls : ℕ) → Exchanges request old (Answered (response_at mid.come spans) (drop spans.body.end mid.come)) (record (after mid spans) { failed_calls = failed_calls })
taken_away request old mid spans come failed_calls = record {
  come = mid.come;
  is_written = record {
    was_open = come.is_written.was_open;
    written = come.is_written.written;
    failed_writes = come.is_written.failed_writes;
    read = come.is_written.read;
    needed = come.is_written.needed;
    terms = come.is_written.terms;
  };
  begins = come.is_response.begins;
  failed_reads = come.failed_reads;
  behind_stays = refl;
  goes_on = come.goes_on;
}

answered_now : {A : Type 0} (told : Response → Told A) (asked request : List ℕ) (old mid new : Connection) (spans : ResponseSpans) (body : List ℕ) (answer : Told A)
    → asked ≡ request → HasCome asked old mid spans → new ≡ record (after mid spans) { failed_calls = new.failed_calls } → body ≡ (response_at mid.come spans).body
    → Answers answer (told (record { status = spans.status; body = body })) → IsAnsweredNow request told old answer new
answered_now told asked request old mid new spans body answer same come is there read =
    let exchange : Exchange = Answered (response_at mid.come spans) (drop spans.body.end mid.come) in (
      exchange,
      subst (λ (text : List ℕ). Exchanges text old exchange new) same
          (subst (λ (c : Connection). Exchanges asked old exchange c) (sym is) (taken_away asked old mid spans come new.failed_calls)),
      subst (λ (bytes : List ℕ). Answers answer (told (record { status = spans.status; body = bytes }))) there read,
    )

pub answered : {A : Type 0} (told : Response → Told A) (asked : List ℕ) (request : Terms → List ℕ) (old mid new : Connection) (spans : ResponseSpans) (body : List ℕ) (found answer : Told A)
    → asked ≡ request old.terms → AfterEvents old (λ before. HasCome asked before mid spans) → new ≡ record (after mid spans) { failed_calls = new.failed_calls } → body ≡ (response_at mid.come spans).body
    → answer ≡ found → Answers found (told (record { status = spans.status; body = body })) → IsAnsweredCall request told old answer new
answered told asked request old mid new spans body found answer same (events, before, went, come) is there as_found read = (
  events,
  before,
  went,
  answered_now told asked (request before.terms) before mid new spans body answer (same ∙ ap request (sym (terms-events old before events went))) come is there
      (subst (λ a. Answers a (told (record { status = spans.status; body = body }))) (sym as_found) read),
)

-- memory for the request was refused
pub unmade : {A : Type 0} (told : Response → Told A) (request : Terms → List ℕ) (old : Connection) (answer : Told A) → answer ≡ Err fault.Memory
    → IsAnsweredCall request told old answer old
unmade told request old answer is = ([], old, refl, (Unmade, refl, is))
