-- Queries that are answered over what a session sees.
use Rattle.std.proofs.Common.{◌≡◌, ℕ, List, [], Option, Some, refl, ap, sym, ◌∙◌, option_map}
use Rattle.model.specs.Answers.{answer_to}
use Rattle.model.specs.Body.{Body}
use Rattle.model.specs.Command.{Id}
use Rattle.model.specs.Database.{Database}
use Rattle.model.specs.Documents.{opened}
use Rattle.model.specs.History.{now}
use Rattle.model.specs.Query.{Query, OpenRevs, GetLocal, Answer, Found, Opened, Differences, Changed, Documents, Counted, FoundLocal, Limit, Document, Options}
use Rattle.model.specs.Revision.{Rev}
use Rattle.std.specs.Prelude.{Result, Ok}
use Rattle.session_api.specs.SessionCall.{SessionCall, Refreshed}
use Rattle.session_api.specs.Learns.{Makes}
use Rattle.session_api.specs.Known.{Known, history_of}
use Rattle.session_peer.specs.End.{End}
use Rattle.session_peer.specs.Goes.{Reads}

-- by what the session of an end has seen
module _ {S : Type 0} (goes : S → SessionCall → S → Type 0) (known : S → Known) (old : S) (inside end : End S) (looked : Makes goes known old (Refreshed (Ok tt)) end.session) (same : inside ≡ end) where
  pub reads : (query : Query) (answer : Answer) → answer ≡ answer_to (now (history_of (known inside.session))) query → Reads goes known old query answer end.session
  reads query answer is = record { looked = looked; answers = is ∙ ap (λ (e : End S). answer_to (now (history_of (known e.session))) query) same }

  -- a local document as it is reported
  pub reads_local : {A : Type 0} (told : A → ℕ × Body) (id : Id) (found : Option A) (local : Option A) → found ≡ local
      → FoundLocal (option_map told found) ≡ answer_to (now (history_of (known inside.session))) (GetLocal id) → Reads goes known old (GetLocal id) (FoundLocal (option_map told local)) end.session
  reads_local told id found local same_local is =
      reads (GetLocal id) (FoundLocal (option_map told local)) (ap (λ f. FoundLocal (option_map told f)) (sym same_local) ∙ is)

-- the revisions of a document
pub answers_opened : (d : Database) (id : Id) (revs : List Rev) (options : Options) → Opened (opened d id (Some revs) options) ≡ answer_to d (OpenRevs id (Some revs) options)
unfolding answer_to
answers_opened d id revs options = refl

opened_of : Answer → List (Result Document Rev)
opened_of (Opened opened) = opened
opened_of answer = []

pub opened_is : (d : Database) (id : Id) (revs : List Rev) (options : Options) (items : List (Result Document Rev)) → Opened items ≡ answer_to d (OpenRevs id (Some revs) options)
    → items ≡ opened d id (Some revs) options
unfolding opened_of
opened_is d id revs options items is = ap opened_of (is ∙ sym (answers_opened d id revs options))
