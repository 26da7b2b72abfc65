-- The purge log: numbers that rise by one up to the last purge's, what one more purge keeps, and which marks are overrun.
use Rattle.std.specs.Prelude.{◌≡◌, ℕ, zero, suc, ◌+◌, ◌-◌, ◌<◌, ◌≤◌, ◌≢◌, ◌⊎◌, true, false, not, List, [], ◌∷◌, ◌++◌, length, drop, filter, cond, get_or, nat_lt, All, refl}
use Rattle.std.specs.List.{range_with_len}
use Rattle.std.specs.Cmp.{both_ways}
use Rattle.std.proofs.Common.{inl, inr, sym, ap, subst, ◌∙◌, arith, ltb-true, lt-ltb}
use Rattle.std.proofs.lemmas.Bool.{true≢false, or_from, not-true, ne_eqb, cases_lt, cond-false, ltb-false, le-ltb}
use Rattle.std.proofs.lemmas.Bool.Decides.{nat_tests}
use Rattle.std.proofs.lemmas.List.{drop-drop, length-drop, length_push}
use Rattle.std.proofs.lemmas.List.FromFn.{length-range_with_len, get_or-range_with_len}
use Rattle.std.proofs.lemmas.List.Folds.{Any-from_list_any, list_any_at}
use Rattle.std.proofs.lemmas.List.Elements.{All-push, All-drop, filter-append}
use Rattle.model.specs.Lists.{last_few}
use Rattle.model.specs.Revision.{Rev, IsRev}
use Rattle.model.specs.Command.{Id, IsId, IsLimit}
use Rattle.model.specs.PurgeLog.{PurgeInfo, PurgeLog, logged, limited, has_number, purges_since, is_overrun, AreNumbered, IsPurgeInfo, IsLog}

-- ---- the numbers

pub AreNumbered-drop : (n k : ℕ) (ps : List PurgeInfo) → AreNumbered n ps → AreNumbered n (drop k ps)
AreNumbered-drop n zero ps h = h
AreNumbered-drop n (suc k) [] h = tt
AreNumbered-drop n (suc k) (p ∷ ps) h = AreNumbered-drop n k ps h.2

pub AreNumbered-push : (n : ℕ) (ps : List PurgeInfo) (p : PurgeInfo) → p.seq ≡ n + 1 → AreNumbered n ps → AreNumbered (n + 1) (ps ++ p ∷ [])
AreNumbered-push n [] p e h = (omega arith, omega arith, tt)
AreNumbered-push n (q ∷ ps) p e h = (omega (arith, length_push ps p, h.0), h.1, AreNumbered-push n ps p e h.2)

-- no number at most n - length, and each above it up to n
has_none : (n k : ℕ) (ps : List PurgeInfo) → AreNumbered n ps → k ≤ n - length ps → has_number ps k ≡ false
has_none n k [] h le = refl
has_none n k (p ∷ ps) h le = or_from _ _ (let ne : p.seq ≢ k = omega (arith, h.0, h.1, le) in ne_eqb p.seq k ne) (has_none n k ps h.2 (omega (arith, h.0, le)))

has_each : (n k : ℕ) (ps : List PurgeInfo) → AreNumbered n ps → n - length ps < k → k ≤ n → has_number ps k ≡ true
has_each n k [] h above below = absurd (omega (arith, above, below))
has_each n k (p ∷ ps) h above below = grind (arith, nat_tests, has_each n k ps h.2, h.0, h.1)

-- ---- overrun

-- a number above the mark was given and is in no entry of the log
abbrev Lost : PurgeLog → ℕ → Type 0
Lost l mark = (n : ℕ) × (mark < n) × (n ≤ l.purge_seq) × (has_number l.infos n ≡ false)

pub lost-is_overrun : (l : PurgeLog) (mark : ℕ) → is_overrun l mark ≡ true → Lost l mark
unfolding is_overrun
lost-is_overrun l mark h =
    let numbers = range_with_len (mark + 1) (l.purge_seq - mark) in
    let place = Any-from_list_any (λ n. not (has_number l.infos n)) numbers h in
    let few = length-range_with_len (mark + 1) (l.purge_seq - mark) in
    let n = place.1 in
    let within : place.0 < l.purge_seq - mark = omega (arith, place.2, few) in
    let is : mark + 1 + place.0 ≡ n = sym (get_or-range_with_len (mark + 1) (l.purge_seq - mark) place.0 n within) ∙ place.3 in
    (n, omega (arith, is), omega (arith, is, within), not-true _ place.4)

pub is_overrun-lost : (l : PurgeLog) (mark : ℕ) → Lost l mark → is_overrun l mark ≡ true
unfolding is_overrun
is_overrun-lost l mark lost =
    let k = lost.0 - (mark + 1) in
    let few = length-range_with_len (mark + 1) (l.purge_seq - mark) in
    let within : k < l.purge_seq - mark = omega (arith, lost.1, lost.2) in
    let it : get_or (range_with_len (mark + 1) (l.purge_seq - mark)) k 0 ≡ lost.0 = get_or-range_with_len (mark + 1) (l.purge_seq - mark) k 0 within ∙ omega (arith, lost.1) in
    list_any_at (λ n. not (has_number l.infos n)) (range_with_len (mark + 1) (l.purge_seq - mark)) k 0 (omega (arith, few)) (ap (λ n. not (has_number l.infos n)) it ∙ ap not lost.3)

-- in a log the mark lies below the last number that it dropped
pub is_overrun-numbered : (l : PurgeLog) (mark : ℕ) → AreNumbered l.purge_seq l.infos → is_overrun l mark ≡ nat_lt mark (l.purge_seq - length l.infos)
is_overrun-numbered l mark h = both_ways _ _
    (λ t. let lost = lost-is_overrun l mark t in lt-ltb mark _ (low lost))
    (λ t. let less = ltb-true mark (l.purge_seq - length l.infos) t in is_overrun-lost l mark (mark + 1, omega arith, omega (arith, less), has_none l.purge_seq (mark + 1) l.infos h (omega (arith, less))))
  where
    low : Lost l mark → mark < l.purge_seq - length l.infos
    low lost = at (cases_lt (l.purge_seq - length l.infos) lost.0)
      where
        at : (l.purge_seq - length l.infos < lost.0) ⊎ (lost.0 ≤ l.purge_seq - length l.infos) → mark < l.purge_seq - length l.infos
        at (inl above) = absurd (true≢false (sym (has_each l.purge_seq lost.0 l.infos h above lost.2) ∙ lost.3))
        at (inr below) = omega (arith, lost.1, below)

-- ---- one more purge

pub AreNumbered-logged : (l : PurgeLog) (id : Id) (leaves : List Rev) → AreNumbered l.purge_seq l.infos → AreNumbered (l.purge_seq + 1) (logged l id leaves).infos
AreNumbered-logged l id leaves h = AreNumbered-drop (l.purge_seq + 1) _ _ (AreNumbered-push l.purge_seq l.infos (record { seq = l.purge_seq + 1; id = id; leaves = leaves }) refl h)

pub IsLog-logged : (l : PurgeLog) (id : Id) (leaves : List Rev) → IsId id → All IsRev leaves → 0 < length leaves → IsLog l → IsLog (logged l id leaves)
IsLog-logged l id leaves is_id revs some h =
    let info : PurgeInfo = record { seq = l.purge_seq + 1; id = id; leaves = leaves } in
    let kept = length-drop (length (l.infos ++ info ∷ []) - l.limit) (l.infos ++ info ∷ []) in
    let longer = length_push l.infos info in
    record {
      limit = h.limit;
      numbered = AreNumbered-logged l id leaves h.numbered;
      infos = All-drop IsPurgeInfo _ _ (All-push IsPurgeInfo l.infos info h.infos (record { id = is_id; revs = revs; not_empty = some }));
      room = omega (arith, kept);
      newest = λ _. omega (arith, kept, longer, h.limit.0);
    }

-- ---- what is logged above a mark

-- what was dropped lies at the mark or below it
above_dropped : (n k mark : ℕ) (ps : List PurgeInfo) → AreNumbered n ps → n - length (drop k ps) ≤ mark → filter (λ p. nat_lt mark p.seq) (drop k ps) ≡ filter (λ p. nat_lt mark p.seq) ps
above_dropped n zero mark ps h le = refl
above_dropped n (suc k) mark [] h le = refl
above_dropped n (suc k) mark (p ∷ ps) h le = above_dropped n k mark ps h.2 le ∙ sym (cond-false (nat_lt mark p.seq) _ _ (le-ltb mark p.seq (omega (arith, h.0, le, length-drop k ps))))

-- with no overrun the log has all purges above the mark
pub since-all : (l : PurgeLog) (all : List PurgeInfo) (mark : ℕ) → AreNumbered l.purge_seq all → l.infos ≡ last_few l.limit all → is_overrun l mark ≡ false → purges_since l mark ≡ filter (λ p. nat_lt mark p.seq) all
since-all l all mark h newest within =
    let k = length all - l.limit in
    let kept : AreNumbered l.purge_seq l.infos = subst (AreNumbered l.purge_seq) (sym newest) (AreNumbered-drop l.purge_seq k all h) in
    let le = ltb-false mark (l.purge_seq - length l.infos) (sym (is_overrun-numbered l mark kept) ∙ within) in
    ap (filter (λ p. nat_lt mark p.seq)) newest ∙ above_dropped l.purge_seq k mark all h (omega (arith, le, ap length newest))

module _ (l : PurgeLog) (id : Id) (leaves : List Rev) (h : AreNumbered l.purge_seq l.infos) (mark : ℕ) where
  pub since-logged : mark ≤ l.purge_seq → is_overrun (logged l id leaves) mark ≡ false → purges_since (logged l id leaves) mark ≡ purges_since l mark ++ record { seq = l.purge_seq + 1; id = id; leaves = leaves } ∷ []
  since-logged le within =
      let info : PurgeInfo = record { seq = l.purge_seq + 1; id = id; leaves = leaves } in
      since-all (logged l id leaves) (l.infos ++ info ∷ []) mark (AreNumbered-push l.purge_seq l.infos info refl h) refl within
      ∙ filter-append (λ p. nat_lt mark p.seq) l.infos (info ∷ [])
      ∙ ap (λ b. purges_since l mark ++ cond b (info ∷ []) []) (lt-ltb mark (l.purge_seq + 1) (omega (arith, le)))

  pub is_overrun-logged : is_overrun l mark ≡ true → is_overrun (logged l id leaves) mark ≡ true
  is_overrun-logged over =
      let info : PurgeInfo = record { seq = l.purge_seq + 1; id = id; leaves = leaves } in
      let less = ltb-true mark (l.purge_seq - length l.infos) (sym (is_overrun-numbered l mark h) ∙ over) in
      let kept = length-drop (length (l.infos ++ info ∷ []) - l.limit) (l.infos ++ info ∷ []) in
      is_overrun-numbered (logged l id leaves) mark (AreNumbered-logged l id leaves h) ∙ lt-ltb mark _ (omega (arith, less, kept, length_push l.infos info))

-- ---- another limit

pub AreNumbered-limited : (l : PurgeLog) (n : ℕ) → AreNumbered l.purge_seq l.infos → AreNumbered l.purge_seq (limited l n).infos
AreNumbered-limited l n h = AreNumbered-drop l.purge_seq (length l.infos - n) l.infos h

pub IsLog-limited : (l : PurgeLog) (n : ℕ) → IsLimit n → IsLog l → IsLog (limited l n)
IsLog-limited l n is h =
    let kept = length-drop (length l.infos - n) l.infos in
    record {
      limit = is;
      numbered = AreNumbered-limited l n h.numbered;
      infos = All-drop IsPurgeInfo _ _ h.infos;
      room = omega (arith, kept);
      newest = λ some. omega (arith, kept, h.newest some, is.0);
    }

-- what is kept of the newest m is what is kept of all
pub last_few-fewer : (n m : ℕ) (ps : List PurgeInfo) → n ≤ m → last_few n (last_few m ps) ≡ last_few n ps
last_few-fewer n m ps le = drop-drop (length (last_few m ps) - n) (length ps - m) ps ∙ ap (λ k. drop k ps) (omega (arith, length-drop (length ps - m) ps, le))

module _ (l : PurgeLog) (n : ℕ) (h : AreNumbered l.purge_seq l.infos) (mark : ℕ) where
  pub since-limited : is_overrun (limited l n) mark ≡ false → purges_since (limited l n) mark ≡ purges_since l mark
  since-limited within = since-all (limited l n) l.infos mark h refl within

  pub is_overrun-limited : is_overrun l mark ≡ true → is_overrun (limited l n) mark ≡ true
  is_overrun-limited over =
      let less = ltb-true mark (l.purge_seq - length l.infos) (sym (is_overrun-numbered l mark h) ∙ over) in
      let kept = length-drop (length l.infos - n) l.infos in
      is_overrun-numbered (limited l n) mark (AreNumbered-limited l n h) ∙ lt-ltb mark _ (omega (arith, less, kept))
