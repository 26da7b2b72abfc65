-- A history with one more entry.
use Rattle.std.specs.Prelude.{◌≡◌, ◌+◌, ◌<◌, ◌≤◌, List, [], ◌∷◌, length, Option, Some, None, option_and_then}
use Rattle.std.proofs.Common.{ap, sym, subst, ◌∙◌, arith, length-append}
use Rattle.std.proofs.lemmas.List.Elements.{All-nil, All-cons, All-append}
use Rattle.model.specs.Map.{entries}
use Rattle.model.specs.Revision.{Rev}
use Rattle.model.specs.Tree.{Tree}
use Rattle.model.specs.TreeChange.{cut}
use Rattle.model.specs.PurgeLog.{logged}
use Rattle.model.specs.Command.{Id, Command, Edits, Merges, PutLocal, Purge, SetLimit, SetPurgedLimit, Compact, Reply, Done, Seat, Entry, IsCommand, IsSeat, IsEntry, max_edits}
use Rattle.model.specs.Database.{Database, tree_at, leave, removed_of, purge_removed, after_purge, after_purges, changed_by, reply_to, act, calls_of, IsDatabase}
use Rattle.model.specs.History.{Chronicle, base_of, now, extended, entry_of}
use Rattle.model.proofs.HistoryLaws.{replay-push, IsLegal-push, IsNext-entry_of}
use Rattle.model.proofs.RestLaws.{rest_of_edits, rest_of_merges}
use Rattle.model.proofs.KeptLaws.{IsDatabase-act}
use Rattle.model.proofs.ReplyLaws.{FitsReply-reply_to}
use Rattle.snapshots.specs.Version.{IsHistory, IsVersion, chronicle_of}
use Rattle.snapshots.proofs.Bulks.{few-after_edits, few-after_merges}

few-leave : (d : Database) (id : Id) (o : Option Tree) → (leave d id o).update_seq ≤ d.update_seq + 1
few-leave d id (Some t) = omega arith
few-leave d id None = omega arith

few-purge_removed : (d : Database) (id : Id) (named rs : List Rev) → (purge_removed d id named rs).update_seq ≤ d.update_seq + 1
few-purge_removed d id named [] = omega arith
few-purge_removed d id named (r ∷ rs) = few-leave (record d { purges = logged d.purges id (r ∷ rs) }) id (option_and_then (cut named) (tree_at d id))

few-after_purges : (d : Database) (es : List (Id × List Rev)) → (after_purges d es).update_seq ≤ d.update_seq + length es
few-after_purges d [] = omega arith
few-after_purges d (e ∷ es) = omega (arith, few-purge_removed d e.0 e.1 (removed_of d e.0 e.1), few-after_purges (after_purge d e) es)

-- a command gives at most as many update numbers as it may have edits
few-changed_by : (d : Database) (c : Command) → IsCommand c → (changed_by d c).update_seq ≤ d.update_seq + max_edits
unfolding changed_by
few-changed_by d (Edits es) is = omega (arith, few-after_edits d es, is.0)
few-changed_by d (Merges ms) is = omega (arith, few-after_merges d ms, is.0)
few-changed_by d (PutLocal id named body) is = omega arith
few-changed_by d (Purge named) is = omega (arith, few-after_purges d (entries named), is.0)
few-changed_by d (SetLimit n) is = omega arith
few-changed_by d (SetPurgedLimit n) is = omega arith
few-changed_by d Compact is = omega arith

few-act : (d : Database) (seat : Seat) (c : Command) → IsCommand c → (act d seat c).update_seq ≤ d.update_seq + max_edits
unfolding act
few-act d seat c is = few-changed_by d c is

-- ---- purge numbers

logged-purge_removed : (d : Database) (id : Id) (named rs : List Rev) → (purge_removed d id named rs).purges.purge_seq ≤ d.purges.purge_seq + 1
logged-purge_removed d id named [] = omega arith
logged-purge_removed d id named (r ∷ rs) = at (option_and_then (cut named) (tree_at d id))
  where
    at : (o : Option Tree) → (leave (record d { purges = logged d.purges id (r ∷ rs) }) id o).purges.purge_seq ≤ d.purges.purge_seq + 1
    at (Some t) = omega arith
    at None = omega arith

pub logged-after_purge : (d : Database) (e : Id × List Rev) → (after_purge d e).purges.purge_seq ≤ d.purges.purge_seq + 1
logged-after_purge d e = logged-purge_removed d e.0 e.1 (removed_of d e.0 e.1)

pub few-after_purge : (d : Database) (e : Id × List Rev) → (after_purge d e).update_seq ≤ d.update_seq + 1
few-after_purge d e = few-purge_removed d e.0 e.1 (removed_of d e.0 e.1)

logged-after_purges : (d : Database) (es : List (Id × List Rev)) → (after_purges d es).purges.purge_seq ≤ d.purges.purge_seq + length es
logged-after_purges d [] = omega arith
logged-after_purges d (e ∷ es) = omega (arith, logged-after_purge d e, logged-after_purges (after_purge d e) es)

-- a command logs at most as many purges as it may have documents
logged-changed_by : (d : Database) (c : Command) → IsCommand c → (changed_by d c).purges.purge_seq ≤ d.purges.purge_seq + max_edits
unfolding changed_by
logged-changed_by d (Edits es) is = omega (arith, ap (λ (e : Database). e.purges.purge_seq) (rest_of_edits d es))
logged-changed_by d (Merges ms) is = omega (arith, ap (λ (e : Database). e.purges.purge_seq) (rest_of_merges d ms))
logged-changed_by d (PutLocal id named body) is = omega arith
logged-changed_by d (Purge named) is = omega (arith, logged-after_purges d (entries named), is.0)
logged-changed_by d (SetLimit n) is = omega arith
logged-changed_by d (SetPurgedLimit n) is = omega arith
logged-changed_by d Compact is = omega arith

logged-act : (d : Database) (seat : Seat) (c : Command) → IsCommand c → (act d seat c).purges.purge_seq ≤ d.purges.purge_seq + max_edits
unfolding act
logged-act d seat c is = logged-changed_by d c is

module _ (h : Chronicle) (seat : Seat) (c : Command) (is : IsHistory h) (is_seat : IsSeat seat) (is_command : IsCommand c) (next : seat.call ≡ calls_of (now h) seat.session + 1) (room : length h.entries < 4294967295) where
  abbrev entry : Entry
  entry = entry_of (now h) seat c

  abbrev longer : Chronicle
  longer = extended h (entry ∷ [])

  is_entry : IsEntry entry
  is_entry = record { seat = is_seat; command = is_command; reply = FitsReply-reply_to (now h) c is_command is.database (omega (arith, logged-changed_by (now h) c is_command, is.purges, is.base.purges, room)) }

  acts : now longer ≡ act (now h) seat c
  acts = replay-push (base_of h.base) h.entries entry

  IsHistory-pushed : IsHistory longer
  IsHistory-pushed = record {
    base = is.base;
    legal = (IsLegal-push (base_of h.base) h.entries entry).1 (is.legal, IsNext-entry_of (now h) seat c next);
    valid = All-append IsEntry h.entries (entry ∷ []) is.valid (All-cons IsEntry entry [] is_entry (All-nil IsEntry));
    database = subst IsDatabase (sym acts) (IsDatabase-act (now h) seat c is_command is.database);
    few = omega (arith, length-append h.entries (entry ∷ []), room);
    numbers = omega (arith, length-append h.entries (entry ∷ []), ap (λ (d : Database). d.update_seq) acts, few-act (now h) seat c is_command, is.numbers);
    purges = omega (arith, length-append h.entries (entry ∷ []), ap (λ (d : Database). d.purges.purge_seq) acts, logged-act (now h) seat c is_command, is.purges);
  }

  module _ (base : Option Database) (entries : List Entry) (of_base : base ≡ h.base) (pushed : entries ≡ longer.entries) where
    pub view-pushed : chronicle_of base entries ≡ longer
    view-pushed i = record { base = of_base i; entries = pushed i }

    pub IsVersion-pushed : (database : Database) → database ≡ act (now h) seat c → IsVersion base database entries
    IsVersion-pushed database acted = record {
      history = subst IsHistory (sym view-pushed) IsHistory-pushed;
      replayed = acted ∙ sym acts ∙ ap now (sym view-pushed);
    }

-- the entry of a compaction
pub compact_entry-is : (d : Database) (seat : Seat) (copy : Command) (r : Reply) → copy ≡ Compact → r ≡ Done → ◌≡◌ {A = Entry} (record { seat = seat; command = copy; reply = r }) (entry_of d seat Compact)
unfolding reply_to
compact_entry-is d seat copy r same answers = λ i. record { seat = seat; command = same i; reply = answers i }

-- an entry with the answer
pub entry_of-is : (d : Database) (seat : Seat) (c copy : Command) (r : Reply) → copy ≡ c → r ≡ reply_to d c → ◌≡◌ {A = Entry} (record { seat = seat; command = copy; reply = r }) (entry_of d seat c)
entry_of-is d seat c copy r same answers = λ i. record { seat = seat; command = same i; reply = answers i }
