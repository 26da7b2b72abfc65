-- Purges of a list, with their numbers read one by one.
use Rattle.std.specs.Prelude.{◌≡◌, ◌↔◌, ◌+◌, ◌<◌, ◌≤◌, ℕ, List, ◌∷◌, drop, length, All}
use Rattle.std.proofs.Common.{ap, arith, subst, sym}
use Rattle.std.proofs.Math.ListN.{length-map}
use Rattle.std.proofs.lemmas.List.{drop_all, get_or-map}
use Rattle.std.proofs.lemmas.List.Elements.{All-map}
use Rattle.model.specs.PurgeLog.{AreNumbered, IsLog, IsPurgeInfo}
use Rattle.purge.specs.Log.{PurgedEntry, info_of, infos_of, log_of, IsKept}

abbrev Purges : Type 0
Purges = List (ℕ × PurgedEntry)

-- the purges after one with the number `last` decide
pub record IsLeft (n last : ℕ) (all rest : Purges) : Type 0 where
  pub room : last + length rest ≡ n
  pub decides : AreNumbered n (infos_of all) ↔ AreNumbered n (infos_of rest)

module _ (n last : ℕ) (all before rest : Purges) (p : ℕ × PurgedEntry) (split : before ≡ p ∷ rest) (left : IsLeft n last all before) where
  its_number : p.0 + length (infos_of rest) ≡ n ↔ (p.0 ≡ last + 1)
  its_number =
      let long = length-map rest info_of in
      let whole : last + (length rest + 1) ≡ n = omega (arith, left.room, ap length split) in
      (λ e. omega (arith, e, long, whole), λ e. omega (arith, e, long, whole))

  pub IsLeft-next : p.0 ≡ last + 1 → IsLeft n (last + 1) all rest
  IsLeft-next e = record {
    room = omega (arith, left.room, ap length split);
    decides = (
      λ h. (subst (λ ps. AreNumbered n (infos_of ps)) split (left.decides.0 h)).2,
      λ h. left.decides.1 (subst (λ ps. AreNumbered n (infos_of ps)) (sym split) (its_number.1 e, omega (arith, e), h)),
    );
  }

  pub not_left : (p.0 ≡ last + 1 → ⊥) → AreNumbered n (infos_of all) → ⊥
  not_left other h = other (its_number.0 (subst (λ ps. AreNumbered n (infos_of ps)) split (left.decides.0 h)).0)

-- ---- what a log keeps

pub log_kept : (n limit : ℕ) (es : Purges) → IsLog (log_of n es limit) → IsKept n es limit
log_kept n limit es h = record { numbered = h.numbered; room = omega (arith, h.room, length-map es info_of); not_zero = h.limit.0 }

pub log_listed : (n limit : ℕ) (es : Purges) → limit ≤ 4294967295 → (0 < limit) × (length es ≤ limit) × (0 < n → 0 < length es) → AreNumbered n (infos_of es) → All (λ p. IsPurgeInfo (info_of p)) es → IsLog (log_of n es limit)
log_listed n limit es most room numbered each = record {
  limit = (room.0, most);
  numbered = numbered;
  infos = All-map IsPurgeInfo info_of es each;
  room = omega (arith, room.1, length-map es info_of);
  newest = λ some. let has = room.2 some in omega (arith, has, length-map es info_of);
}

each_of : (es : Purges) → All IsPurgeInfo (infos_of es) → All (λ p. IsPurgeInfo (info_of p)) es
each_of es h = λ k d lt. subst IsPurgeInfo (get_or-map info_of es k d (info_of d) lt) (h k (info_of d) (omega (arith, lt, length-map es info_of)))

pub listed_log : (n limit : ℕ) (es : Purges) → IsLog (log_of n es limit) → ((0 < limit) × (length es ≤ limit) × (0 < n → 0 < length es)) × AreNumbered n (infos_of es) × All (λ p. IsPurgeInfo (info_of p)) es
listed_log n limit es h = (
  (h.limit.0, omega (arith, h.room, length-map es info_of), λ some. let has = h.newest some in omega (arith, has, length-map es info_of)),
  h.numbered,
  each_of es h.infos,
)

-- where none are left, the numbers are those of a log
pub none_left : (n last : ℕ) (all : Purges) (i : ℕ) → length all ≤ i → IsLeft n last all (drop i all) → AreNumbered n (infos_of all)
none_left n last all i past left = left.decides.1 (subst (λ ps. AreNumbered n (infos_of ps)) (sym (drop_all i all past)) tt)
