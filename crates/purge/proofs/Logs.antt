-- The entries of a log: one more at the end, the newest of them, and those above a mark.
use Rattle.std.specs.Prelude.{◌≡◌, ◌+◌, ◌-◌, ◌<◌, ◌≤◌, ◌⊎◌, ℕ, zero, suc, min, true, false, cond, not, List, [], ◌∷◌, ◌++◌, length, take, drop, filter, get_or, map, nat_lt, refl}
use Rattle.std.specs.Ordering.{nat_cmp, is_eq, is_le}
use Rattle.std.specs.declared.cmp.Ordering.TheVariants.{Less, Equal, Greater}
use Rattle.std.specs.Cmp.{nat_cmp_is}
use Rattle.std.specs.FinMap.Entries as listed
use Rattle.std.specs.FinMap.Entries.{by_order}
use Rattle.std.proofs.Common.{ap, sym, subst, ◌∙◌, inl, inr, arith, ltb-true, ltb-false}
use Rattle.std.proofs.lemmas.Bool.{cases_order}
use Rattle.std.proofs.lemmas.List.{drop-map, map-append, length-drop}
use Rattle.std.proofs.Math.ListN.{length-map}
use Rattle.cow_index.specs.Entries.{without, entries_from}
use Rattle.model.specs.Lists.{last_few}
use Rattle.model.specs.Revision.{Rev}
use Rattle.model.specs.Command.{Id}
use Rattle.model.specs.PurgeLog.{PurgeInfo, PurgeLog, AreNumbered, limited, logged, purges_since, is_overrun}
use Rattle.model.proofs.ListLaws.{by_cases}
use Rattle.model.proofs.LogLaws.{AreNumbered-drop, AreNumbered-push, is_overrun-numbered}
use Rattle.purge.specs.Log.{PurgedEntry, info_of, infos_of, log_of, IsKept}

abbrev Purges : Type 0
Purges = List (ℕ × PurgedEntry)

-- at most as many as the last number
pub few-numbered : (n : ℕ) (es : Purges) → AreNumbered n (infos_of es) → length es ≤ n
few-numbered n [] h = omega arith
few-numbered n (e ∷ es) h = omega (arith, h.0, h.1, length-map es info_of)

-- one more at the end
pub put-last : (n : ℕ) (p : PurgedEntry) (es : Purges) → AreNumbered n (infos_of es) → listed.put nat_cmp (n + 1) p es ≡ es ++ (n + 1, p) ∷ []
put-last n p [] h = refl
put-last n p (e ∷ es) h =
    let later : nat_cmp (n + 1) e.0 ≡ Greater = sym (nat_cmp_is (n + 1) e.0 Greater (omega (arith, h.0))) in
    ap (λ o. by_order o ((n + 1, p) ∷ e ∷ es) ((e.0, p) ∷ es) (e ∷ listed.put nat_cmp (n + 1) p es)) later
    ∙ ap (λ l. e ∷ l) (put-last n p es h.2)

-- a number below all of the log is in no entry
without-none : (k n : ℕ) (es : Purges) → AreNumbered n (infos_of es) → k + length es ≤ n → without nat_cmp k es ≡ es
without-none k n [] h le = refl
without-none k n (e ∷ es) h le =
    let less : nat_cmp k e.0 ≡ Less = sym (nat_cmp_is k e.0 Less (omega (arith, h.0, le, length-map es info_of))) in
    ap (λ o. cond (not (is_eq o)) (e ∷ without nat_cmp k es) (without nat_cmp k es)) less
    ∙ ap (λ l. e ∷ l) (without-none k n es h.2 (omega (arith, le)))

without-first : (n : ℕ) (e : ℕ × PurgedEntry) (es : Purges) → AreNumbered n (infos_of (e ∷ es)) → without nat_cmp e.0 (e ∷ es) ≡ es
without-first n e es h =
    let same : nat_cmp e.0 e.0 ≡ Equal = sym (nat_cmp_is e.0 e.0 Equal refl) in
    ap (λ o. cond (not (is_eq o)) (e ∷ without nat_cmp e.0 es) (without nat_cmp e.0 es)) same
    ∙ without-none e.0 n es h.2 (omega (arith, h.0, length-map es info_of))

-- ---- the newest

pub infos-last_few : (limit : ℕ) (es : Purges) → infos_of (last_few limit es) ≡ last_few limit (infos_of es)
infos-last_few limit es = sym (drop-map info_of (length es - limit) es) ∙ ap (λ k. drop (k - limit) (infos_of es)) (sym (length-map es info_of))

-- of a longer list, the newest are those of all but its first
last_few-rest : (limit : ℕ) (e : ℕ × PurgedEntry) (es : Purges) → limit ≤ length es → last_few limit (e ∷ es) ≡ last_few limit es
last_few-rest limit e es le =
    let one : length (e ∷ es) - limit ≡ suc (length es - limit) = omega (arith, le) in
    ap (λ k. drop k (e ∷ es)) one

pub last_few-all : (limit : ℕ) (es : Purges) → length es ≤ limit → last_few limit es ≡ es
last_few-all limit es le =
    let none : length es - limit ≡ 0 = omega (arith, le) in
    ap (λ k. drop k es) none

-- one that is too long, without its oldest
pub record IsShorter (n limit : ℕ) (es later : Purges) : Type 0 where
  pub numbered : AreNumbered n (infos_of later)
  pub newest : last_few limit later ≡ last_few limit es
  pub fewer : length later < length es

pub IsShorter-without : (n limit k : ℕ) (es later : Purges) → AreNumbered n (infos_of es) → limit < length es → k ≡ n - length es + 1 → later ≡ without nat_cmp k es → IsShorter n limit es later
IsShorter-without n limit k [] later h more first without_one = absurd (omega (arith, more))
IsShorter-without n limit k (e ∷ es) later h more first without_one =
    let oldest : k ≡ e.0 = omega (arith, h.0, h.1, first, length-map es info_of) in
    let rest : later ≡ es = without_one ∙ ap (λ q. without nat_cmp q (e ∷ es)) oldest ∙ without-first n e es h in
    subst (IsShorter n limit (e ∷ es)) (sym rest) (record {
      numbered = h.2;
      newest = sym (last_few-rest limit e es (omega (arith, more)));
      fewer = omega arith;
    })

-- ---- one more

module _ (n limit : ℕ) (es : Purges) (id : Id) (leaves : List Rev) (h : IsKept n es limit) (all : Purges) (put_one : all ≡ listed.put nat_cmp (n + 1) (id, leaves) es) where
  abbrev info : PurgeInfo
  info = record { seq = n + 1; id = id; leaves = leaves }

  infos-longer : infos_of all ≡ infos_of es ++ info ∷ []
  infos-longer = ap infos_of (put_one ∙ put-last n (id, leaves) es h.numbered) ∙ map-append info_of es ((n + 1, (id, leaves)) ∷ [])

  pub numbered-added : AreNumbered (n + 1) (infos_of all)
  numbered-added = subst (AreNumbered (n + 1)) (sym infos-longer) (AreNumbered-push n (infos_of es) info refl h.numbered)

  pub log-added : (kept : Purges) (l : PurgeLog) → log_of n es limit ≡ l → kept ≡ last_few limit all → log_of (n + 1) kept limit ≡ logged l id leaves
  log-added kept l is new =
      ap (λ (ps : List PurgeInfo). record { purge_seq = n + 1; infos = ps; limit = limit }) (ap infos_of new ∙ infos-last_few limit all ∙ ap (last_few limit) infos-longer)
      ∙ ap (λ (k : PurgeLog). logged k id leaves) is

-- ---- another limit

pub numbered-newest : (n limit : ℕ) (es kept : Purges) → AreNumbered n (infos_of es) → kept ≡ last_few limit es → AreNumbered n (infos_of kept)
numbered-newest n limit es kept h new = subst (AreNumbered n) (sym (ap infos_of new ∙ infos-last_few limit es)) (AreNumbered-drop n (length (infos_of es) - limit) (infos_of es) h)

pub IsKept-newest : (n limit : ℕ) (es kept : Purges) → 0 < limit → AreNumbered n (infos_of es) → kept ≡ last_few limit es → IsKept n kept limit
IsKept-newest n limit es kept some h new = record {
  numbered = numbered-newest n limit es kept h new;
  room = omega (arith, ap length new, length-drop (length es - limit) es);
  not_zero = some;
}

pub log-limited : (n limit to : ℕ) (es kept : Purges) (l : PurgeLog) → log_of n es limit ≡ l → kept ≡ last_few to es → log_of n kept to ≡ limited l to
log-limited n limit to es kept l is new =
    ap (λ (ps : List PurgeInfo). record { purge_seq = n; infos = ps; limit = to }) (ap infos_of new ∙ infos-last_few to es)
    ∙ ap (λ (k : PurgeLog). limited k to) is

-- ---- the newest, one by one

numbered-at : (n k : ℕ) (es : Purges) (e : ℕ × PurgedEntry) → AreNumbered n (infos_of es) → k < length es → (get_or es k e).0 + length es ≡ n + k + 1
numbered-at n k [] e h lt = absurd (omega (arith, lt))
numbered-at n zero (f ∷ es) e h lt = omega (arith, h.0, length-map es info_of)
numbered-at n (suc k) (f ∷ es) e h lt = omega (arith, numbered-at n k es e h.2 (omega (arith, lt)))

pub put-next : (n k : ℕ) (es : Purges) (e : ℕ × PurgedEntry) → AreNumbered n (infos_of es) → k < length es → e ≡ get_or es k e → listed.put nat_cmp e.0 e.1 (take k es) ≡ take k es ++ e ∷ []
put-next n k [] e h lt is = absurd (omega (arith, lt))
put-next n zero (f ∷ es) e h lt is = refl
put-next n (suc k) (f ∷ es) e h lt is =
    let more : f.0 < e.0 = omega (arith, h.0, length-map es info_of, numbered-at n k es e h.2 (omega (arith, lt)), ap (λ (g : ℕ × PurgedEntry). g.0) is) in
    ap (λ o. by_order o ((e.0, e.1) ∷ f ∷ take k es) ((f.0, e.1) ∷ take k es) (f ∷ listed.put nat_cmp e.0 e.1 (take k es))) (sym (nat_cmp_is e.0 f.0 Greater more))
    ∙ ap (λ l. f ∷ l) (put-next n k es e h.2 (omega (arith, lt)) is)

-- ---- above a mark

is_le-le : (a b : ℕ) → a ≤ b → is_le (nat_cmp a b) ≡ true
is_le-le a b le = at (cases_order a b)
  where
    at : (a ≡ b) ⊎ ((a < b) ⊎ (b < a)) → is_le (nat_cmp a b) ≡ true
    at (inl same) = ap is_le (sym (nat_cmp_is a b Equal same))
    at (inr (inl less)) = ap is_le (sym (nat_cmp_is a b Less less))
    at (inr (inr more)) = absurd (omega arith)

is_le-above : (a b : ℕ) → b < a → is_le (nat_cmp a b) ≡ false
is_le-above a b more = ap is_le (sym (nat_cmp_is a b Greater more))

-- numbers are at most the last
alike : (mark last n k : ℕ) → k ≡ min mark last + 1 → n ≤ last → is_le (nat_cmp k n) ≡ nat_lt mark n
alike mark last n k first le = by_cases (nat_lt mark n)
    (λ t. is_le-le k n (omega (arith, ltb-true mark n t, first)) ∙ sym t)
    (λ f. is_le-above k n (omega (arith, ltb-false mark n f, le, first)) ∙ sym f)

pub infos-above : (mark last n k : ℕ) (es : Purges) → k ≡ min mark last + 1 → n ≤ last → AreNumbered n (infos_of es) → infos_of (entries_from nat_cmp k es) ≡ filter (λ p. nat_lt mark p.seq) (infos_of es)
infos-above mark last n k [] first le h = refl
infos-above mark last n k (e ∷ es) first le h =
    let rest = infos-above mark last n k es first le h.2 in
    ap (λ b. infos_of (cond b (e ∷ entries_from nat_cmp k es) (entries_from nat_cmp k es))) (alike mark last e.0 k first (omega (arith, h.0, le)))
    ∙ elim (nat_lt mark e.0) as (λ b. infos_of (cond b (e ∷ entries_from nat_cmp k es) (entries_from nat_cmp k es)) ≡ cond b (info_of e ∷ filter (λ p. nat_lt mark p.seq) (infos_of es)) (filter (λ p. nat_lt mark p.seq) (infos_of es))) [ true ↦ ap (λ ps. info_of e ∷ ps) rest | false ↦ rest ]

-- those from a number on are the newest
pub newest-from : (n limit : ℕ) (es : Purges) → AreNumbered n (infos_of es) → entries_from nat_cmp (n - limit + 1) es ≡ last_few limit es
newest-from n limit [] h = sym (last_few-all limit [] (omega arith))
newest-from n limit (e ∷ es) h =
    let rest = newest-from n limit es h.2 in
    by_cases (nat_lt (length es) limit)
    (λ few.
    let lt = ltb-true (length es) limit few in
    ap (λ b. cond b (e ∷ entries_from nat_cmp (n - limit + 1) es) (entries_from nat_cmp (n - limit + 1) es)) (is_le-le (n - limit + 1) e.0 (omega (arith, lt, h.0, h.1, length-map es info_of)))
    ∙ ap (λ l. e ∷ l) (rest ∙ last_few-all limit es (omega (arith, lt)))
    ∙ sym (last_few-all limit (e ∷ es) (omega (arith, lt))))
    (λ more.
    let le = ltb-false (length es) limit more in
    ap (λ b. cond b (e ∷ entries_from nat_cmp (n - limit + 1) es) (entries_from nat_cmp (n - limit + 1) es)) (is_le-above (n - limit + 1) e.0 (omega (arith, le, h.0, length-map es info_of)))
    ∙ rest ∙ sym (last_few-rest limit e es le))

module _ (n limit : ℕ) (es : Purges) (l : PurgeLog) (h : IsKept n es limit) (is : log_of n es limit ≡ l) where
  pub above-mark : (mark k : ℕ) → k ≡ min mark n + 1 → infos_of (entries_from nat_cmp k es) ≡ purges_since l mark
  above-mark mark k first = infos-above mark n n k es first (omega arith) h.numbered ∙ ap (λ (m : PurgeLog). purges_since m mark) is

  pub overrun-counted : (mark : ℕ) → nat_lt mark (n - length es) ≡ is_overrun l mark
  overrun-counted mark =
      ap (λ k. nat_lt mark (n - k)) (sym (length-map es info_of))
      ∙ sym (is_overrun-numbered (log_of n es limit) mark h.numbered)
      ∙ ap (λ (m : PurgeLog). is_overrun m mark) is

  pub numbered-log : AreNumbered l.purge_seq l.infos
  numbered-log = subst (λ (m : PurgeLog). AreNumbered m.purge_seq m.infos) is h.numbered

pub ids-of : (es : Purges) → map (λ e. e.1.0) es ≡ map (λ p. p.id) (infos_of es)
ids-of [] = refl
ids-of (e ∷ es) = ap (λ l. e.1.0 ∷ l) (ids-of es)
