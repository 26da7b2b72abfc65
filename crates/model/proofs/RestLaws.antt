-- What commands leave as it was: edits and merges all but documents and the update number, purges all but these and the log.
use Rattle.std.specs.Prelude.{◌≡◌, ℕ, ◌+◌, cond, List, Option, Some, None, unwrap_or, refl}
use Rattle.std.proofs.Common.{sym, ap, ◌∙◌}
use Rattle.std.proofs.lemmas.Bool.{cond-true, cond-false}
use Rattle.model.specs.Map.{Map, get, entries, put, same_key, same_key-equal}
use Rattle.model.specs.Revision.{Rev}
use Rattle.model.specs.Tree.{Tree}
use Rattle.model.specs.Command.{Id, numbers, Edit, Merge, Command, Edits, Merges, PutLocal, Purge, SetLimit, SetPurgedLimit, Compact, Seat}
use Rattle.model.specs.Database.{Database, after_edits, after_merges, after_purges, changed_by, act, calls_of}
use Rattle.model.proofs.ListLaws.{by_cases}
use Rattle.model.proofs.LookupLaws.{get-put_same, get-put_other}
use Rattle.model.proofs.StepLaws.{KeptByWrites, KeptByPurges, purged, of_edits, of_merges, of_purges}

-- e is d but for documents and the update number
abbrev Documents : Database → Database → Type 0
Documents d e = e ≡ record d { docs = e.docs; update_seq = e.update_seq }

-- and for the log
abbrev DocumentsAndLog : Database → Database → Type 0
DocumentsAndLog d e = e ≡ record d { docs = e.docs; update_seq = e.update_seq; purges = e.purges }

by_writes : KeptByWrites Documents
by_writes = record {
  none = λ d. refl;
  more = λ d e f g h. h ∙ ap (λ (x : Database). record x { docs = f.docs; update_seq = f.update_seq }) g;
  tree = λ d id t. refl;
}

by_purges : KeptByPurges DocumentsAndLog
by_purges = record {
  writes = record {
    none = λ d. refl;
    more = λ d e f g h. h ∙ ap (λ (x : Database). record x { docs = f.docs; update_seq = f.update_seq; purges = f.purges }) g;
    tree = λ d id t. refl;
  };
  purge = one;
}
  where
    one : (d : Database) (id : Id) (leaves : List Rev) (left : Option Tree) → DocumentsAndLog d (purged d id leaves left)
    one d id leaves (Some t) = refl
    one d id leaves None = refl

same_limit : KeptByPurges (λ d e. e.purges.limit ≡ d.purges.limit)
same_limit = record { writes = record { none = λ d. refl; more = λ d e f g h. h ∙ g; tree = λ d id t. refl }; purge = one }
  where
    one : (d : Database) (id : Id) (leaves : List Rev) (left : Option Tree) → (purged d id leaves left).purges.limit ≡ d.purges.limit
    one d id leaves (Some t) = refl
    one d id leaves None = refl

module _ (d : Database) where
  pub rest_of_edits : (es : List Edit) → Documents d (after_edits d es)
  rest_of_edits es = of_edits Documents by_writes d es

  pub rest_of_merges : (ms : List Merge) → Documents d (after_merges d ms)
  rest_of_merges ms = of_merges Documents by_writes d ms

  pub rest_of_purges : (es : List (Id × List Rev)) → DocumentsAndLog d (after_purges d es)
  rest_of_purges es = of_purges DocumentsAndLog by_purges d es

  pub log_limit_of_purges : (es : List (Id × List Rev)) → (after_purges d es).purges.limit ≡ d.purges.limit
  log_limit_of_purges es = of_purges (λ d e. e.purges.limit ≡ d.purges.limit) same_limit d es

  same_calls : (c : Command) → (changed_by d c).calls ≡ d.calls
  unfolding changed_by
  same_calls (Edits es) = ap (λ (e : Database). e.calls) (rest_of_edits es)
  same_calls (Merges ms) = ap (λ (e : Database). e.calls) (rest_of_merges ms)
  same_calls (PutLocal id named body) = refl
  same_calls (Purge named) = ap (λ (e : Database). e.calls) (rest_of_purges (entries named))
  same_calls (SetLimit n) = refl
  same_calls (SetPurgedLimit n) = refl
  same_calls Compact = refl

  -- each command is one call of its session, and none of another
  pub calls-act : (seat : Seat) (c : Command) → (act d seat c).calls ≡ put d.calls seat.session (calls_of d seat.session + 1)
  unfolding act
  calls-act seat c = ap (λ (m : Map numbers ℕ). put m seat.session (unwrap_or (get m seat.session) 0 + 1)) (same_calls c)

  pub calls_of-act : (seat : Seat) (c : Command) (s : ℕ) → calls_of (act d seat c) s ≡ cond (same_key numbers s seat.session) (calls_of d s + 1) (calls_of d s)
  calls_of-act seat c s =
      let now = ap (λ (m : Map numbers ℕ). unwrap_or (get m s) 0) (calls-act seat c) in
      let more = calls_of d seat.session + 1 in
      by_cases (same_key numbers s seat.session)
      (λ own. now ∙ ap (λ o. unwrap_or o 0) (get-put_same d.calls seat.session more s own) ∙ ap (λ n. calls_of d n + 1) (sym (same_key-equal numbers s seat.session own)) ∙ sym (cond-true _ _ _ own))
      (λ other. now ∙ ap (λ o. unwrap_or o 0) (get-put_other d.calls seat.session more s other) ∙ sym (cond-false _ _ _ other))
