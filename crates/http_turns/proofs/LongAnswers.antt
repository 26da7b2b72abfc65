-- Answers that are written in pieces.
use Rattle.std.proofs.Common.{◌≡◌, ℕ, ◌<◌, Bool, false, List, length, Option, Some, None, Ok, Err, inl, inr, refl}
use Rattle.std.specs.Prelude.{IsTrue, IfOk, Result, is_ok, option_map, unwrap_or}
use Rattle.model.specs.Answers.{answer_to}
use Rattle.model.specs.Command.{Id}
use Rattle.model.specs.Database.{Database, tree_at}
use Rattle.model.specs.Documents.{opened_in, opened_unknown}
use Rattle.model.specs.Query.{Answer, Opened, Options, Query, Get, OpenRevs, RevsDiff, Changes, AllDocuments, Info, GetLocal, RevsLimit, PurgedInfosLimit}
use Rattle.model.specs.Revision.{Rev}
use Rattle.model.specs.Tree.{Tree}
use Rattle.streams.specs.Writes.{Writes}
use Rattle.streams.specs.declared.traits.Failed.{Failed}
use Rattle.http_framing.specs.Request.{Request}
use Rattle.http_framing.specs.Input.{Requested, closes_connection}
use Rattle.http_connection.specs.Turn.{Turn, TakesTurn}
use Rattle.session_api.specs.Revisions.{known_opened}
use Rattle.http_turns.specs.Replies.{SendsLong, cut_turn, long_turn}
use Rattle.http_turns.specs.declared.response.Long.{Long}

-- the turn of a request with a long answer, by what was written of it
pub long_taken : {T O : Type 0} (answers : T → Turn → T → Type 0) (old new : T) (request : Request) (long : Long O) (taken taken' : Option (List ℕ)) (r : Result Bool Failed)
    → answers old (long_turn (Requested request) long) new
    → ((n : ℕ) → n < length long.pieces → answers old (cut_turn (Requested request) long n) new)
    → answers old (record (long_turn (Requested request) long) { whole = false }) new
    → (IsTrue (closes_connection (Requested request)) → IsTrue long.closes)
    → SendsLong taken taken' r long
    → (turn : Turn) × TakesTurn answers old new (Requested request) turn × Writes taken taken' r turn.text × (turn.whole ≡ is_ok r) × IfOk r (λ c. c ≡ turn.closes)
long_taken answers old new request long taken taken' (Ok c) whole cut not_whole closes (inl sent) =
    (long_turn (Requested request) long, record { of_item = refl; answered = whole; closes = closes }, (sent.0, tt), refl, sent.1)
long_taken answers old new request long taken taken' (Ok c) whole cut not_whole closes (inr part) =
    (cut_turn (Requested request) long part.0, record { of_item = refl; answered = cut part.0 part.1; closes = λ _. search }, (part.2, tt), refl, part.3)
long_taken answers old new request long taken taken' (Err failed) whole cut not_whole closes part =
    (record (long_turn (Requested request) long) { whole = false }, record { of_item = refl; answered = not_whole; closes = closes }, (tt, part), refl, tt)

-- ---- revisions that are made as they are written

known-tree : (id : Id) (asked : Option (List Rev)) (options : Options) (answer : Answer) (tree : Option Tree)
    → Some answer ≡ option_map (λ t. Opened (opened_in id options asked t)) tree → Opened (unwrap_or (option_map (opened_in id options asked) tree) (opened_unknown asked)) ≡ answer
known-tree id asked options answer (Some t) is = cc
known-tree id asked options answer None is = absurd (cc)

-- where the document is known, what is shown of it is the answer
pub known-answer : (d : Database) (query : Query) (answer : Answer) → Some answer ≡ known_opened d query → answer_to d query ≡ answer
unfolding answer_to
known-answer d (OpenRevs id asked options) answer is = known-tree id asked options answer (tree_at d id) is
known-answer d (Get id rev options) answer is = absurd (cc)
known-answer d (RevsDiff named) answer is = absurd (cc)
known-answer d (Changes since limit style ids) answer is = absurd (cc)
known-answer d AllDocuments answer is = absurd (cc)
known-answer d Info answer is = absurd (cc)
known-answer d (GetLocal id) answer is = absurd (cc)
known-answer d RevsLimit answer is = absurd (cc)
known-answer d PurgedInfosLimit answer is = absurd (cc)
