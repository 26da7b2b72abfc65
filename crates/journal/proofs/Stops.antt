-- What the last line is that is read, and not taken.
use Rattle.std.proofs.Common.{◌≡◌, ℕ, ◌≤◌, List, [], sym, subst}
use Rattle.std.specs.Prelude.{Option}
use Rattle.std.specs.Io.KnownBytes.{Consumes}
use Rattle.std.proofs.lemmas.List.{append-nil}
use Rattle.model.specs.Database.{Database}
use Rattle.journal.specs.Replaying.{CanBeNext, IsReplayed, IsReplayedAll, IsStopped, IsWhole}
use Rattle.journal.specs.declared.restored.End.{End}
use Rattle.journal.specs.declared.restored.End.TheVariants.{Torn}
use Rattle.journal.proofs.Restores.{same_replayed}

module _ (synced : ℕ) (old new : Option (List ℕ)) (d : Database) (place taken : ℕ) (line : List ℕ) (end : End) where
  -- one that is refused
  pub stopped_torn : Consumes old new line → IsWhole line → synced ≤ taken → end ≡ Torn → (CanBeNext line d place → ⊥) → IsStopped synced old new d place taken line end
  stopped_torn consumed whole low is refused =
      subst (IsStopped synced old new d place taken line) (sym is) (record {
        consumed = consumed;
        is_end = record { line = line; rest = []; tail_is = sym (append-nil line); whole = whole; unsynced = low; refused = refused };
        last = tt;
      })

-- where nothing more was taken, what was replayed before such a line is all
pub stopped_all : (synced : ℕ) (base : Option Database) (start mid new : Option (List ℕ)) (d same : Database) (place at taken took : ℕ) (line : List ℕ) (end : End)
    → IsReplayed base start mid d place taken → IsStopped synced mid new d place taken line end → same ≡ d → at ≡ place → took ≡ taken
    → IsReplayedAll synced base start new same at took end
stopped_all synced base start mid new d same place at taken took line end so_far stopped is at_is took_is = record {
  middle = mid;
  replayed = same_replayed base start mid d same place at taken took so_far is at_is took_is;
  tail = line;
  stopped = subst (λ (x : Database). IsStopped synced mid new x at took line end) (sym is)
      (subst (λ n. IsStopped synced mid new d n took line end) (sym at_is)
      (subst (λ n. IsStopped synced mid new d place n line end) (sym took_is) stopped));
}
