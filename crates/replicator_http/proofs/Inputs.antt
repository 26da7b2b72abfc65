-- What an exchange has of the whole input.
use Rattle.std.proofs.Common.{◌≡◌, ◌⊎◌, ℕ, List, [], ◌++◌, Option, None, Some, Result, Ok, Err, refl, ap, sym, ◌∙◌, subst, append_assoc, append-nil, inl, inr}
use Rattle.std.specs.Io.KnownBytes.{Consumes, IsAtEnd, prepend_known}
use Rattle.http_client.specs.Response.{BeginsWithResponse, HasManyHeaders, IsUnfinished, IsUnreadable, Response}
use Rattle.http_client.specs.declared.incoming.ResponseFault.{ResponseFault}
use Rattle.http_client.specs.declared.incoming.ResponseFault.TheVariants as response
use Rattle.replicator_http.specs.Connection.{Connection, Exchange, Unmade, GivenUp, Cut, Unanswered, Answered, Exchanges, IsWritten}
use Rattle.replicator_http.specs.Input.{Decides, input_of, outcome_of}

-- what holds of responses at the front of bytes
pub record Laws : Type 0 where
  pub same : (bytes : List ℕ) (r q : Response) (rest after : List ℕ) → BeginsWithResponse bytes r rest → BeginsWithResponse bytes q after
      → (r ≡ q) × (rest ≡ after)
  pub whole : (bytes : List ℕ) (r : Response) (rest : List ℕ) → IsUnfinished bytes → BeginsWithResponse bytes r rest → ⊥
  pub readable : (bytes : List ℕ) (r : Response) (rest : List ℕ) → IsUnreadable bytes → BeginsWithResponse bytes r rest → ⊥
  pub part : (bytes : List ℕ) → IsUnfinished bytes → IsUnreadable bytes → HasManyHeaders bytes
  pub more : (bytes more : List ℕ) (r : Response) (rest : List ℕ) → BeginsWithResponse bytes r rest → BeginsWithResponse (bytes ++ more) r (rest ++ more)
  pub unreadable : (bytes more : List ℕ) → IsUnreadable bytes → IsUnreadable (bytes ++ more)

-- ---- the input before and after

known_left : (come : List ℕ) (left : Option (List ℕ)) (input : List ℕ) → prepend_known come left ≡ Some input
    → (xs : List ℕ) × (left ≡ Some xs) × (come ++ xs ≡ input)
known_left come None input is = absurd (cc)
known_left come (Some xs) input is = let same : come ++ xs ≡ input = cc in (xs, refl, same)

consumed : (old new : Option (List ℕ)) (xs piece : List ℕ) → old ≡ Some xs → Consumes old new piece
    → (ys : List ℕ) × (new ≡ Some ys) × (xs ≡ piece ++ ys)
consumed None new xs piece is read = absurd (cc)
consumed (Some zs) None xs piece is read = absurd read
consumed (Some zs) (Some ys) xs piece is read = let same : zs ≡ xs = cc in (ys, refl, sym same ∙ read)

-- what has come and what is left are the input
written_input : (request come input : List ℕ) (old new : Connection) → input_of old ≡ Some input → IsWritten request come old new
    → (ys : List ℕ) × (new.left ≡ Some ys) × (come ++ ys ≡ input)
written_input request come input old new is written =
    let k = known_left old.come old.left input is in
    let r = consumed old.left new.left k.0 written.read.0 k.1 written.read.2 in (
      r.0,
      r.1,
      ap (λ (x : List ℕ). x ++ r.0) written.read.1 ∙ append_assoc old.come written.read.0 r.0
          ∙ ap (λ (x : List ℕ). old.come ++ x) (sym r.2) ∙ k.2,
    )

input_now : (come ys input : List ℕ) (new : Connection) → new.come ≡ come → new.left ≡ Some ys → come ++ ys ≡ input → input_of new ≡ Some input
input_now come ys input new come_is left_is whole =
    ap (λ (l : Option (List ℕ)). prepend_known new.come l) left_is ∙ ap (λ (x : List ℕ). Some (x ++ ys)) come_is ∙ ap (λ (x : List ℕ). Some x) whole

-- ---- what it decides

module _ (laws : Laws) where
  pub decides : (request input : List ℕ) (old new : Connection) (exchange : Exchange) → input_of old ≡ Some input
      → Exchanges request old exchange new → Decides input (outcome_of exchange) (input_of new)
  decides request input old new Unmade is made = ap input_of made ∙ is
  decides request input old new (GivenUp why) is (given, made) = ap input_of made ∙ is
  decides request input old new Cut is (none, made) =
      ap (λ (x : List ℕ). prepend_known x new.left) made.come ∙ ap (λ (l : Option (List ℕ)). prepend_known old.come l) made.left ∙ is
  decides request input old new (Unanswered come response.ReadFailed) is made =
      let w = written_input request come input old new is made.is_written in
      input_now come w.0 input new made.come_stays w.1 w.2
  decides request input old new (Unanswered come response.Memory) is made =
      let w = written_input request come input old new is made.is_written in
      input_now come w.0 input new made.come_stays w.1 w.2
  decides request input old new (Unanswered come response.Ended) is made =
      let w = written_input request come input old new is made.is_written in
      let end : w.0 ≡ [] = subst IsAtEnd w.1 made.reads.1 in
      let all : come ≡ input = sym (append-nil come) ∙ ap (λ (x : List ℕ). come ++ x) (sym end) ∙ w.2 in
      (subst IsUnfinished all made.reads.0, input_now come w.0 input new made.come_stays w.1 w.2)
  decides request input old new (Unanswered come response.Unreadable) is made =
      let w = written_input request come input old new is made.is_written in
      (subst IsUnreadable w.2 (laws.unreadable come w.0 made.reads), input_now come w.0 input new made.come_stays w.1 w.2)
  decides request input old new (Answered r behind) is made =
      let w = written_input request made.come input old new is made.is_written in
      let P : List ℕ → Type 0 = λ bytes. BeginsWithResponse bytes r (behind ++ w.0) in (
        behind ++ w.0,
        subst P w.2 (laws.more made.come w.0 r behind made.begins),
        input_now behind w.0 (behind ++ w.0) new made.behind_stays w.1 refl,
      )

  one_outcome : (input : List ℕ) (one two : Result Response ResponseFault) (after last : Option (List ℕ))
      → Decides input (Some one) after → Decides input (Some two) last → ((one ≡ two) ⊎ HasManyHeaders input) × (after ≡ last)
  one_outcome input (Ok r) (Ok q) after last (rest, begins, is) (rest', also, is') =
      let same = laws.same input r q rest rest' begins also in
      (inl (ap (λ (x : Response). Ok x) same.0), is ∙ ap (λ (x : List ℕ). Some x) same.1 ∙ sym is')
  one_outcome input (Ok r) (Err response.Ended) after last (rest, begins, is) (unfinished, is') = absurd (laws.whole input r rest unfinished begins)
  one_outcome input (Ok r) (Err response.Unreadable) after last (rest, begins, is) (unreadable, is') =
      absurd (laws.readable input r rest unreadable begins)
  one_outcome input (Err response.Ended) (Ok r) after last (unfinished, is) (rest, begins, is') = absurd (laws.whole input r rest unfinished begins)
  one_outcome input (Err response.Unreadable) (Ok r) after last (unreadable, is) (rest, begins, is') =
      absurd (laws.readable input r rest unreadable begins)
  one_outcome input (Err response.Ended) (Err response.Ended) after last (unfinished, is) (also, is') = (inl refl, is ∙ sym is')
  one_outcome input (Err response.Unreadable) (Err response.Unreadable) after last (unreadable, is) (also, is') = (inl refl, is ∙ sym is')
  one_outcome input (Err response.Ended) (Err response.Unreadable) after last (unfinished, is) (unreadable, is') =
      (inr (laws.part input unfinished unreadable), is ∙ sym is')
  one_outcome input (Err response.Unreadable) (Err response.Ended) after last (unreadable, is) (unfinished, is') =
      (inr (laws.part input unfinished unreadable), is ∙ sym is')
  one_outcome input (Err response.ReadFailed) two after last never also = absurd never
  one_outcome input (Err response.Memory) two after last never also = absurd never
  one_outcome input (Ok r) (Err response.ReadFailed) after last first never = absurd never
  one_outcome input (Ok r) (Err response.Memory) after last first never = absurd never
  one_outcome input (Err response.Ended) (Err response.ReadFailed) after last first never = absurd never
  one_outcome input (Err response.Ended) (Err response.Memory) after last first never = absurd never
  one_outcome input (Err response.Unreadable) (Err response.ReadFailed) after last first never = absurd never
  one_outcome input (Err response.Unreadable) (Err response.Memory) after last first never = absurd never

  pub same : (request asked input : List ℕ) (old new first last : Connection) (exchange other : Exchange) (one two : Result Response ResponseFault)
      → input_of old ≡ Some input → Exchanges request old exchange new → input_of first ≡ Some input → Exchanges asked first other last
      → outcome_of exchange ≡ Some one → outcome_of other ≡ Some two
      → ((one ≡ two) ⊎ HasManyHeaders input) × (input_of new ≡ input_of last)
  same request asked input old new first last exchange other one two is made is' made' out out' =
      one_outcome input one two (input_of new) (input_of last)
      (subst (λ (o : Option (Result Response ResponseFault)). Decides input o (input_of new)) out (decides request input old new exchange is made))
      (subst (λ (o : Option (Result Response ResponseFault)). Decides input o (input_of last)) out' (decides asked input first last other is' made'))
