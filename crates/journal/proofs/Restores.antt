-- What is left of a text that was read to its end.
use Rattle.std.proofs.Common.{◌≡◌, ◌≢◌, ℕ, List, [], ◌++◌, inl, inr, refl, sym, ap, subst, ◌∙◌}
use Rattle.std.specs.Prelude.{true, false, Option, Some, None, IfSome, Result, Ok, Err, IfOk}
use Rattle.std.specs.Io.KnownBytes.{Consumes, IsAtEnd}
use Rattle.std.proofs.KnownBytes.{Consumes-trans}
use Rattle.std.proofs.lemmas.List.{append-nil, append_assoc}
use Rattle.model.specs.Database.{Database}
use Rattle.model.specs.History.{Chronicle, now}
use Rattle.history_dump.specs.Dump.{dump_text}
use Rattle.replay_cli.specs.Successors.{AreTooLarge, IsLastEpoch, base_after}
use Rattle.replay_cli.specs.Verdicts.{begun_with}
use Rattle.journal.specs.Reading.{IsRead}
use Rattle.journal.specs.Refusing.{IsExhausted}
use Rattle.journal.specs.Replaying.{IsEnd, IsLastRead, IsReplayed, IsReplayedAll}
use Rattle.journal.specs.Restoring.{IsBegunFrom, IsRestored, goes_on, raises}
use Rattle.journal.specs.declared.restored.End.{End}
use Rattle.journal.specs.declared.restored.End.TheVariants.{Whole, Cut, Torn}
use Rattle.journal.specs.declared.restored.Raise.{Raise}
use Rattle.journal.specs.declared.restored.Restored.{Restored}
use Rattle.journal.proofs.Replays.{legal-dump}

-- an end with more behind it, where there may be more
more_behind : (synced : ℕ) (d : Database) (place taken : ℕ) (tail rest : List ℕ) (end : End) → IsEnd synced d place taken tail end → (end ≢ Torn → rest ≡ [])
    → IsEnd synced d place taken (tail ++ rest) end
more_behind synced d place taken tail rest Whole is none = ap (λ t. t ++ rest) is ∙ none (λ same. cc)
more_behind synced d place taken tail rest Cut is none =
    subst (λ (t : List ℕ). IsEnd synced d place taken t Cut) (sym (ap (λ (r : List ℕ). tail ++ r) (none (λ same. cc)) ∙ append-nil tail)) is
more_behind synced d place taken tail rest Torn is none = record {
  line = is.line;
  rest = is.rest ++ rest;
  tail_is = ap (λ t. t ++ rest) is.tail_is ∙ append_assoc is.line is.rest rest;
  whole = is.whole;
  unsynced = is.unsynced;
  refused = is.refused;
}

-- nothing is left behind an end that isn't torn
none_left : (old new : Option (List ℕ)) (end : End) → IsLastRead old new end → end ≢ Torn → IfSome old (λ _. IsAtEnd new)
none_left old new Whole last other = last
none_left old new Cut last other = last
none_left old new Torn last other = absurd (other refl)

end_through : (a b c : Option (List ℕ)) (text : List ℕ) → Consumes a b text → IfSome b (λ _. IsAtEnd c) → IfSome a (λ _. IsAtEnd c)
end_through None b c text consumed end = tt
end_through (Some xs) None c text consumed end = absurd consumed
end_through (Some xs) (Some ys) c text consumed end = end

module _ (synced : ℕ) (base : Option Database) (start new : Option (List ℕ)) (d : Database) (place taken : ℕ) (end : End)
    (all : IsReplayedAll synced base start new d place taken end) where
  abbrev history : Chronicle
  history = begun_with base all.replayed.entries

  pub read_to_end : end ≢ Torn → IfSome start (λ _. IsAtEnd new)
  read_to_end other =
      end_through start all.middle new (dump_text history) all.replayed.consumed (none_left all.middle new end all.stopped.last other)

  joined : Consumes start new (dump_text history ++ all.tail)
  joined = Consumes-trans start all.middle new (dump_text history) all.tail all.replayed.consumed all.stopped.consumed

  -- the end of what was read, behind the history
  end_of : (place_too taken_too : ℕ) (end_too : End) → place_too ≡ place → taken_too ≡ taken → end_too ≡ end → IsEnd synced (now history) place_too taken_too all.tail end_too
  end_of place_too taken_too end_too places takes ends =
      subst (λ (x : Database). IsEnd synced x place_too taken_too all.tail end_too) all.replayed.database
      (subst (λ n. IsEnd synced d n taken_too all.tail end_too) (sym places)
      (subst (λ n. IsEnd synced d place n all.tail end_too) (sym takes)
      (subst (λ (e : End). IsEnd synced d place taken all.tail e) (sym ends) all.stopped.is_end)))

  module _ (raise : Raise) (r : Restored) (places : r.places ≡ place) (takes : r.taken ≡ taken) (ends : r.end ≡ end) (begun : IsBegunFrom raise r base d) where
    left : (rest : List ℕ) → (r.end ≢ Torn → rest ≡ []) → IsRestored (dump_text history ++ (all.tail ++ rest)) synced raise r
    left rest none = record {
      history = history;
      tail = all.tail ++ rest;
      text_is = refl;
      legal = legal-dump base start all.middle new d place taken all.replayed;
      only = all.replayed.only;
      places_is = places ∙ all.replayed.place_is;
      taken_is = takes ∙ all.replayed.taken_is;
      end_is = more_behind synced (now history) r.places r.taken all.tail rest r.end (end_of r.places r.taken r.end places takes ends) none;
      begun_is = subst (IsBegunFrom raise r base) all.replayed.database begun;
    }

    pub restored : IsRead start new (λ text. IsRestored text synced raise r)
    restored = record {
      text = dump_text history ++ (all.tail ++ []);
      consumed = subst (Consumes start new) (ap (λ t. dump_text history ++ t) (sym (append-nil all.tail))) joined;
      holds = left [] (λ _. refl);
    }

    pub restored_all : IfSome start (λ text. IsRestored text synced raise r)
    restored_all = known start new joined (λ other. read_to_end (λ is. other (ends ∙ is)))
      where
        known : (a b : Option (List ℕ)) → Consumes a b (dump_text history ++ all.tail) → (r.end ≢ Torn → IfSome a (λ _. IsAtEnd b)) → IfSome a (λ text. IsRestored text synced raise r)
        known None b consumed at_end = tt
        known (Some text) None consumed at_end = absurd consumed
        known (Some text) (Some rest) consumed at_end =
            subst (λ (t : List ℕ). IsRestored t synced raise r) (sym (consumed ∙ append_assoc (dump_text history) all.tail rest)) (left rest at_end)

  -- where the numbers are too large once they are raised
  pub raised_too_far : (raise : Raise) → raises raise end ≡ true → goes_on raise end place ≡ false → AreTooLarge (base_after true d) → IsRead start new (IsExhausted synced raise)
  raised_too_far raise due ends large = record {
    text = dump_text history ++ all.tail;
    consumed = joined;
    holds = inr (record {
      history = history;
      tail = all.tail;
      end = end;
      text_is = refl;
      legal = legal-dump base start all.middle new d place taken all.replayed;
      end_is = end_of _ _ end (sym all.replayed.place_is) (sym all.replayed.taken_is) refl;
      raised = due;
      ends = subst (λ n. goes_on raise end n ≡ false) all.replayed.place_is ends;
      too_large = subst (λ (x : Database). AreTooLarge (base_after true x)) all.replayed.database large;
    });
  }

-- nor any that aren't
pub exhausted : (old new : Option (List ℕ)) (synced : ℕ) (raise : Raise) → IsRead old new (IsLastEpoch false) → IsRead old new (IsExhausted synced raise)
exhausted old new synced raise read = record { text = read.text; consumed = read.consumed; holds = inl read.holds }

-- ---- of the result of a call

module _ {E : Type 0} (result : Result Restored E) (synced : ℕ) (base : Option Database) (start new : Option (List ℕ)) (d : Database) (place taken : ℕ) (end : End)
    (all : IsReplayedAll synced base start new d place taken end) where
  abbrev Told : Raise → Result Restored E → Type 0
  Told raise r = IfOk r (λ x. x.places ≡ place) × IfOk r (λ x. x.taken ≡ taken) × IfOk r (λ x. x.end ≡ end) × IfOk r (λ x. IsBegunFrom raise x base d)

  pub restored_by : (raise : Raise) → Told raise result → IfOk result (λ r. IsRead start new (λ text. IsRestored text synced raise r))
  restored_by raise told = go result told
    where
      go : (r : Result Restored E) → Told raise r → IfOk r (λ x. IsRead start new (λ text. IsRestored text synced raise x))
      go (Ok x) (places, takes, ends, begun) = restored synced base start new d place taken end all raise x places takes ends begun
      go (Err fault) told = tt

  pub restored_all_by : (raise : Raise) → Told raise result → IfOk result (λ r. IfSome start (λ text. IsRestored text synced raise r))
  restored_all_by raise told = go result told
    where
      go : (r : Result Restored E) → Told raise r → IfOk r (λ x. IfSome start (λ text. IsRestored text synced raise x))
      go (Ok x) (places, takes, ends, begun) = restored_all synced base start new d place taken end all raise x places takes ends begun
      go (Err fault) told = tt

  pub ended_by : (raise : Raise) → Told raise result → IfOk result (λ r. r.end ≢ Torn → IfSome start (λ _. IsAtEnd new))
  ended_by raise told = go result told
    where
      go : (r : Result Restored E) → Told raise r → IfOk r (λ x. x.end ≢ Torn → IfSome start (λ _. IsAtEnd new))
      go (Ok x) (places, takes, ends, begun) = λ other. read_to_end synced base start new d place taken end all (λ is. other (ends ∙ is))
      go (Err fault) told = tt

-- the same of an equal database and equal counts
pub same_replayed : (base : Option Database) (start mid : Option (List ℕ)) (d same : Database) (place at taken took : ℕ) → IsReplayed base start mid d place taken
    → same ≡ d → at ≡ place → took ≡ taken → IsReplayed base start mid same at took
same_replayed base start mid d same place at taken took so_far is at_is took_is = record {
  entries = so_far.entries;
  consumed = so_far.consumed;
  first = so_far.first;
  within = so_far.within;
  places = so_far.places;
  legal = so_far.legal;
  only = so_far.only;
  database = is ∙ so_far.database;
  place_is = at_is ∙ so_far.place_is;
  taken_is = took_is ∙ so_far.taken_is;
}
