-- Each move keeps the turns.
use Rattle.std.proofs.Common.{◌≡◌, ◌≢◌, ◌⊎◌, ℕ, zero, suc, ◌+◌, ◌<◌, ◌≤◌, ◌==◌, if◌then◌else◌, Bool, true, false, true≢false, List, [], ◌∷◌, ◌++◌, length, set, sym, refl, ap, ◌∙◌, subst, ⊎_elim, inl, inr, lt_of_not-le, arith}
use Rattle.std.proofs.lemmas.Bool.Decides.{nat_tests}
use mathlib.Core.Option.{some, some-ne-none, some-injective}
use lib.ListN.{get_elem?}
use Rattle.crossbeam_queue.specs.Fifo.{Pushes, Pops, Forks, Merges, Learns}
use Rattle.crossbeam_queue.proofs.Lists.{at_set}
use Rattle.model.specs.Command.{Job, Compact}
use Rattle.job_queue.specs.declared.rule.Hand.{Hand}
use Rattle.job_queue.specs.Turns.{count, updater, pusher, note, nobody, Fits, Turns}

pub one_count : (s : ℕ) (x : Job) (xs : List Job) (b : Bool) → (x.seat.session == s) ≡ b → count s (x ∷ xs) ≡ (if b then count s xs + 1 else count s xs)
one_count s x xs b is = ap (λ (c : Bool). if c then count s xs + 1 else count s xs) is

pub count_is : (s : ℕ) (x : Job) (xs : List Job) → x.seat.session ≡ s → count s (x ∷ xs) ≡ count s xs + 1
count_is s x xs is = let t : (x.seat.session == s) ≡ true = grind (arith, nat_tests) in one_count s x xs true t

pub count_not : (s : ℕ) (x : Job) (xs : List Job) → x.seat.session ≢ s → count s (x ∷ xs) ≡ count s xs
count_not s x xs is = let t : (x.seat.session == s) ≡ false = grind (arith, nat_tests) in one_count s x xs false t

pub count-append : (s : ℕ) (xs ys : List Job) → count s (xs ++ ys) ≡ count s xs + count s ys
count-append s [] ys = omega arith
count-append s (x ∷ xs) ys = go (x.seat.session == s) refl (count-append s xs ys)
  where
    go : (b : Bool) → (x.seat.session == s) ≡ b → count s (xs ++ ys) ≡ count s xs + count s ys → count s (x ∷ (xs ++ ys)) ≡ count s (x ∷ xs) + count s ys
    go true is rest = omega (arith, one_count s x (xs ++ ys) true is, one_count s x xs true is, rest)
    go false is rest = omega (arith, one_count s x (xs ++ ys) false is, one_count s x xs false is, rest)

-- the jobs of other sessions
abbrev others : ℕ → List Job → List Job
others s [] = []
others s (x ∷ xs) = if x.seat.session == s then others s xs else x ∷ others s xs

others_shorter : (m : ℕ) (xs : List Job) → length xs ≡ count m xs + length (others m xs)
others_shorter m [] = omega arith
others_shorter m (x ∷ xs) = go (x.seat.session == m) refl (others_shorter m xs)
  where
    go : (b : Bool) → (x.seat.session == m) ≡ b → length xs ≡ count m xs + length (others m xs) → length (x ∷ xs) ≡ count m (x ∷ xs) + length (others m (x ∷ xs))
    go true is rest = let o : others m (x ∷ xs) ≡ others m xs = ap (λ (c : Bool). if c then others m xs else x ∷ others m xs) is in omega (arith, one_count m x xs true is, ap length o, rest)
    go false is rest = let o : others m (x ∷ xs) ≡ x ∷ others m xs = ap (λ (c : Bool). if c then others m xs else x ∷ others m xs) is in omega (arith, one_count m x xs false is, ap length o, rest)

others_none : (m : ℕ) (xs : List Job) → count m (others m xs) ≡ 0
others_none m [] = refl
others_none m (x ∷ xs) = go (x.seat.session == m) refl (others_none m xs)
  where
    go : (b : Bool) → (x.seat.session == m) ≡ b → count m (others m xs) ≡ 0 → count m (others m (x ∷ xs)) ≡ 0
    go true is rest = ap (λ (c : Bool). count m (if c then others m xs else x ∷ others m xs)) is ∙ rest
    go false is rest = ap (λ (c : Bool). count m (if c then others m xs else x ∷ others m xs)) is ∙ one_count m x (others m xs) false is ∙ rest

cons_le : (s : ℕ) (x : Job) (xs ys : List Job) → count s xs ≤ count s ys → count s (x ∷ xs) ≤ count s (x ∷ ys)
cons_le s x xs ys le = omega (arith, count-append s (x ∷ []) xs, count-append s (x ∷ []) ys, le)

others_le : (s m : ℕ) (xs : List Job) → count s (others m xs) ≤ count s xs
others_le s m [] = omega arith
others_le s m (x ∷ xs) = go (x.seat.session == m) refl (others_le s m xs)
  where
    go : (b : Bool) → (x.seat.session == m) ≡ b → count s (others m xs) ≤ count s xs → count s (others m (x ∷ xs)) ≤ count s (x ∷ xs)
    go true is rest = let o : count s (others m (x ∷ xs)) ≡ count s (others m xs) = ap (λ (c : Bool). count s (if c then others m xs else x ∷ others m xs)) is in omega (arith, o, rest, count-append s (x ∷ []) xs)
    go false is rest = let o : count s (others m (x ∷ xs)) ≡ count s (x ∷ others m xs) = ap (λ (c : Bool). count s (if c then others m xs else x ∷ others m xs)) is in let l = cons_le s x (others m xs) xs rest in omega (arith, o, l)

-- of n sessions, each with one job at most, there are n jobs at most
pub few : (n : ℕ) (xs : List Job) → ((s : ℕ) → count s xs ≤ 1) → ((s : ℕ) → n ≤ s → count s xs ≡ 0) → length xs ≤ n
few zero [] ones none = omega arith
few zero (x ∷ xs) ones none = absurd (omega (arith, none x.seat.session (omega arith), count_is x.seat.session x xs refl))
few (suc n) xs ones none =
    let rest : length (others n xs) ≤ n = few n (others n xs)
    (λ s. let a = others_le s n xs in let b = ones s in omega arith)
    (λ s le. let a = others_le s n xs in ⊎_elim (λ (e : n ≡ s). subst (λ k. count k (others n xs) ≡ 0) e (others_none n xs)) (λ (lt : n < s). let z = none s (omega (arith, lt)) in omega (arith, a, z)) (same_or_less n s le)) in
    let one = ones n in
    omega (arith, others_shorter n xs, rest, one)
  where
    same_or_less : (a b : ℕ) → a ≤ b → (a ≡ b) ⊎ (a < b)
    same_or_less a b le = grind (arith, nat_tests)

-- some job of a session
abbrev job_for : ℕ → Job
job_for s = record { seat = record { session = s; call = 0 }; command = Compact }

pub fewer : (n s : ℕ) (xs : List Job) → s < n → count s xs ≡ 0 → ((s : ℕ) → count s xs ≤ 1) → ((s : ℕ) → n ≤ s → count s xs ≡ 0) → length xs < n
fewer n s xs lt nil ones none = let j : Job = job_for s in
    let all = few n (j ∷ xs) (λ k. go k (s == k) refl) (λ k le. let a : s ≢ k = (λ e. omega (arith, e, lt, le)) in count_not k j xs a ∙ none k le) in omega (arith, all)
  where
    go : (k : ℕ) → (b : Bool) → (s == k) ≡ b → count k ((job_for s) ∷ xs) ≤ 1
    go k true is = let e : s ≡ k = grind (arith, nat_tests) in let z : count k xs ≡ 0 = subst (λ i. count i xs ≡ 0) e nil in omega (arith, one_count k ((job_for s)) xs true is, z)
    go k false is = let o = ones k in omega (arith, one_count k ((job_for s)) xs false is, o)

off : false ≡ true → ⊥
off e = true≢false (sym e)

at_set_all : (F : ℕ → Hand → Type 0) (views : List Hand) (port : ℕ) (w : Hand) → F port w → ((j : ℕ) (u : Hand) → j ≢ port → get_elem? views j ≡ some u → F j u) → (j : ℕ) (u : Hand) → get_elem? (set views port w) j ≡ some u → F j u
at_set_all F views port w mine rest j u e = ⊎_elim (λ (x : (j ≡ port) × (w ≡ u)). subst (λ (y : ℕ × Hand). F y.0 y.1) (λ i. (sym x.0 i, x.1 i)) mine)
    (λ (x : (j ≢ port) × (get_elem? views j ≡ some u)). rest j u x.0 x.1) (at_set views port j w u e)

at_end : (l : List Hand) (a b : Hand) (j : ℕ) → get_elem? (l ++ a ∷ []) j ≡ some b → (get_elem? l j ≡ some b) ⊎ ((j ≡ length l) × (a ≡ b))
at_end [] a b zero e = inr (refl, some-injective a b e)
at_end [] a b (suc j) e = absurd (some-ne-none b (sym e))
at_end (x ∷ xs) a b zero e = inl e
at_end (x ∷ xs) a b (suc j) e = ⊎_elim (λ t. inl t) (λ (t : (j ≡ length xs) × (a ≡ b)). inr (ap suc t.0, t.1)) (at_end xs a b j e)

pub begins : Turns [] (updater [] 0 0 ∷ [])
begins = record { bound = 0; updater_at = 0; made = 0; session_at = λ _. 0; taken = []; few = omega arith; one_waits = λ s. omega arith; none_else = λ s le. refl; fits = one }
  where
    one : (pass : ℕ) (v : Hand) → get_elem? (updater [] 0 0 ∷ []) pass ≡ some v → Fits 0 0 0 (λ _. 0) [] [] pass v
    one zero v e = subst (λ u. Fits 0 0 0 (λ _. 0) [] [] 0 u) (some-injective _ _ e) (record { takes = λ _. (refl, refl, refl, refl); pushes = λ p. absurd (off p); notes = λ p. absurd (off p) })
    one (suc i) v e = absurd (some-ne-none v (sym e))

-- before it makes a pass the updater may count one session more
pub widens : (port bound : ℕ) → Forks Turns port (updater [] 0 bound) (updater [] 0 (bound + 1)) nobody
widens port bound items views h at =
    let mine = (h.fits port (updater [] 0 bound) at).takes refl in
    let is : bound ≡ h.bound = mine.3 in
    let none : 0 ≡ h.made = mine.2 in
    let left : Hand = updater [] 0 (bound + 1) in
    let vs : List Hand = set views port left in
    let old : (j : ℕ) (u : Hand) → get_elem? vs j ≡ some u → Fits (bound + 1) h.updater_at h.made h.session_at h.taken items j u =
    at_set_all (Fits (bound + 1) h.updater_at h.made h.session_at h.taken items) views port left
    (record { takes = λ _. (mine.0, mine.1, mine.2, refl); pushes = λ t. absurd (off t); notes = λ t. absurd (off t) })
    (λ j u apart e. let o = h.fits j u e in record {
      takes = (λ t. absurd (apart ((o.takes t).0 ∙ sym mine.0)));
      pushes = (λ t. let p = o.pushes t in let b = p.1 in absurd (omega (arith, b, none)));
      notes = o.notes;
    }) in record {
      bound = bound + 1;
      updater_at = h.updater_at;
      made = h.made;
      session_at = h.session_at;
      taken = h.taken;
      few = (let a = h.few in omega (arith, a, is));
      one_waits = h.one_waits;
      none_else = h.none_else;
      fits = (λ j u e. ⊎_elim (λ x. old j u x)
          (λ (x : (j ≡ length vs) × (nobody ≡ u)). subst (λ w. Fits (bound + 1) h.updater_at h.made h.session_at h.taken items j w) x.1 (record { takes = λ t. absurd (off t); pushes = λ t. absurd (off t); notes = λ t. absurd (off t) }))
          (at_end vs nobody u j e));
    }

-- a session's pass, all of whose jobs are gone, may push one
pub pushes : (n port p bound : ℕ) (x : Job) → Pushes Turns n port (pusher x.seat.session p p bound) x (λ w. w ≡ pusher x.seat.session (p + 1) p bound)
pushes n port p bound x items views room h at =
    let v : Hand = pusher x.seat.session p p bound in
    let s : ℕ = x.seat.session in
    let taken : List Job = h.taken in
    let mine = (h.fits port v at).pushes refl in
    let zero_here : count s items ≡ 0 = let a = mine.2 in let b = mine.3 in omega (arith, a, b) in
    let items' : List Job = items ++ x ∷ [] in
    let more : (k : ℕ) → count k items' ≡ count k items + count k (x ∷ []) = λ k. count-append k items (x ∷ []) in
    let same : (k : ℕ) → s ≢ k → count k items' ≡ count k items = λ k ne. let a = more k in let b = count_not k x [] ne in omega (arith, a, b) in
    let here : count s items' ≡ 1 = let a = more s in let b = count_is s x [] refl in omega (arith, a, b, zero_here) in (
      pusher s (p + 1) p bound,
      record {
        bound = h.bound;
        updater_at = h.updater_at;
        made = h.made;
        session_at = h.session_at;
        taken = taken;
        few = h.few;
        one_waits = (λ k. ⊎_elim (λ (e : s ≡ k). subst (λ i. count i items' ≤ 1) e (omega (arith, here))) (λ (ne : s ≢ k). let a = same k ne in let b = h.one_waits k in omega (arith, a, b)) (same_or_not s k));
        none_else = (λ k le. let ne : s ≢ k = (λ e. let a = mine.1 in omega (arith, e, a, le)) in let a = same k ne in let b = h.none_else k le in omega (arith, a, b, count-append k taken items, count-append k taken items'));
        fits = at_set_all (Fits h.bound h.updater_at h.made h.session_at taken items') views port (pusher s (p + 1) p bound)
            (record { takes = λ t. absurd (off t); pushes = λ _. (mine.0, mine.1, (let a = mine.2 in omega (arith, a, here, zero_here)), mine.3, mine.4); notes = λ t. absurd (off t) })
            (λ j u apart e. let old = h.fits j u e in record {
              takes = old.takes;
              pushes = (λ t. let o = old.pushes t in let ne : s ≢ u.number = (λ q. apart (sym o.0 ∙ ap h.session_at (sym q) ∙ mine.0)) in (o.0, o.1, (let a = o.2 in let b = same u.number ne in omega (arith, a, b)), o.3, o.4));
              notes = old.notes;
            });
      },
      refl,
    )
  where
    same_or_not : (a b : ℕ) → (a ≡ b) ⊎ (a ≢ b)
    same_or_not a b = grind (arith, nat_tests)

pub learns : (port p s bound : ℕ) → Learns Turns port (pusher s p p bound) (λ items. length items < bound)
learns port p s bound items views h at =
    let mine = (h.fits port (pusher s p p bound) at).pushes refl in
    let zero_here : count s items ≡ 0 = let a = mine.2 in let b = mine.3 in omega (arith, a, b) in
    let less = fewer h.made s items mine.1 zero_here h.one_waits (λ k le. let a = h.none_else k le in omega (arith, a, count-append k h.taken items)) in
    let most = h.few in let is : bound ≡ h.bound = mine.4 in omega (arith, less, most, is)

pub pops : (port made bound : ℕ) (taken : List Job) → Pops Turns port (updater taken made bound) (λ x w. (w ≡ updater (taken ++ x ∷ []) made bound) × (x.seat.session < made))
pops port made bound taken x items views h at =
    let mine = (h.fits port (updater taken made bound) at).takes refl in
    let all : List Job = h.taken in
    let all' : List Job = all ++ x ∷ [] in
    let moved : (k : ℕ) → count k all' + count k items ≡ count k all + count k (x ∷ items) = λ k. let a = count-append k all (x ∷ []) in let b = count-append k (x ∷ []) items in omega (arith, a, b) in
    let grows : (k : ℕ) → count k all ≤ count k all' = λ k. let a = count-append k all (x ∷ []) in omega (arith, a) in
    let less : x.seat.session < h.made = lt_of_not-le (λ le. let a = h.none_else x.seat.session le in let b = count-append x.seat.session all (x ∷ items) in let c = count_is x.seat.session x items refl in omega (arith, a, b, c)) in (
      updater (taken ++ x ∷ []) made bound,
      record {
        bound = h.bound;
        updater_at = h.updater_at;
        made = h.made;
        session_at = h.session_at;
        taken = all';
        few = h.few;
        one_waits = (λ k. let a = h.one_waits k in let b = count-append k (x ∷ []) items in omega (arith, a, b));
        none_else = (λ k le. let a = h.none_else k le in let b = count-append k all (x ∷ items) in let c = count-append k all' items in let d = moved k in omega (arith, a, b, c, d));
        fits = at_set_all (Fits h.bound h.updater_at h.made h.session_at all' items) views port (updater (taken ++ x ∷ []) made bound)
            (record { takes = λ _. (mine.0, ap (λ l. l ++ x ∷ []) mine.1, mine.2, mine.3); pushes = λ t. absurd (off t); notes = λ t. absurd (off t) })
            (λ j u apart e. let old = h.fits j u e in record {
              takes = (λ t. absurd (apart ((old.takes t).0 ∙ sym mine.0)));
              pushes = (λ t. let o = old.pushes t in (o.0, o.1, (let a = o.2 in let b = moved u.number in omega (arith, a, b)), (let a = o.3 in let b = grows u.number in omega (arith, a, b)), o.4));
              notes = (λ t k. let a = old.notes t k in let b = grows k in omega (arith, a, b));
            });
      },
      (refl, subst (λ n. x.seat.session < n) (sym mine.2) less),
    )

-- the updater makes one session's pass more
pub seats : (port made bound : ℕ) (taken : List Job) → made < bound → Forks Turns port (updater taken made bound) (updater taken (made + 1) bound) (pusher made 0 0 bound)
seats port made bound taken lt items views h at =
    let mine = (h.fits port (updater taken made bound) at).takes refl in
    let is : made ≡ h.made = mine.2 in
    let all : bound ≡ h.bound = mine.3 in
    let left : Hand = updater taken (made + 1) bound in
    let vs : List Hand = set views port left in
    let seat' : ℕ → ℕ = λ s. if s == made then length vs else h.session_at s in
    let here : seat' made ≡ length vs = let t : (made == made) ≡ true = grind (arith, nat_tests) in ap (λ (b : Bool). if b then length vs else h.session_at made) t in
    let kept : (s : ℕ) → s ≢ made → seat' s ≡ h.session_at s = λ s ne. let t : (s == made) ≡ false = grind (arith, nat_tests) in ap (λ (b : Bool). if b then length vs else h.session_at s) t in
    let old : (j : ℕ) (u : Hand) → get_elem? vs j ≡ some u → Fits h.bound h.updater_at (made + 1) seat' h.taken items j u =
    at_set_all (Fits h.bound h.updater_at (made + 1) seat' h.taken items) views port left
    (record { takes = λ _. (mine.0, mine.1, refl, mine.3); pushes = λ t. absurd (off t); notes = λ t. absurd (off t) })
    (λ j u apart e. let o = h.fits j u e in record {
      takes = (λ t. absurd (apart ((o.takes t).0 ∙ sym mine.0)));
      pushes = (λ t. let p = o.pushes t in let b = p.1 in let ne : u.number ≢ made = (λ q. omega (arith, q, b, is)) in (kept u.number ne ∙ p.0, (omega (arith, b, is)), p.2, p.3, p.4));
      notes = o.notes;
    }) in record {
      bound = h.bound;
      updater_at = h.updater_at;
      made = made + 1;
      session_at = seat';
      taken = h.taken;
      few = (let a = lt in omega (arith, a, all));
      one_waits = h.one_waits;
      none_else = (λ k le. h.none_else k (omega (arith, le, is)));
      fits = (λ j u e. ⊎_elim (λ x. old j u x)
          (λ (x : (j ≡ length vs) × (pusher made 0 0 bound ≡ u)). subst (λ w. Fits h.bound h.updater_at (made + 1) seat' h.taken items j w) x.1
          (record { takes = λ t. absurd (off t); pushes = λ _. (here ∙ sym x.0, (let a = lt in omega (arith, a)), (let a = h.none_else made (omega (arith, is)) in let b = count-append made h.taken items in omega (arith, a, b)), omega arith, all); notes = λ t. absurd (off t) }))
          (at_end vs (pusher made 0 0 bound) u j e));
    }

-- the updater says what was taken
pub tells : (port made bound : ℕ) (taken : List Job) → Forks Turns port (updater taken made bound) (updater taken made bound) (note taken)
tells port made bound taken items views h at =
    let mine = (h.fits port (updater taken made bound) at).takes refl in record {
      bound = h.bound;
      updater_at = h.updater_at;
      made = h.made;
      session_at = h.session_at;
      taken = h.taken;
      few = h.few;
      one_waits = h.one_waits;
      none_else = h.none_else;
      fits = (λ j u e. ⊎_elim (λ x. at_set_all (Fits h.bound h.updater_at h.made h.session_at h.taken items) views port (updater taken made bound) (h.fits port (updater taken made bound) at) (λ i y _ z. h.fits i y z) j u x)
          (λ (x : (j ≡ length (set views port (updater taken made bound))) × (note taken ≡ u)). subst (λ w. Fits h.bound h.updater_at h.made h.session_at h.taken items j w) x.1
          (record { takes = λ t. absurd (off t); pushes = λ t. absurd (off t); notes = λ _ k. subst (λ l. count k taken ≤ count k l) mine.1 (omega arith) }))
          (at_end (set views port (updater taken made bound)) (note taken) u j e));
    }

-- a session learns how many of its jobs are gone
pub informs : (port number pushed gone bound other : ℕ) (taken : List Job) → Merges Turns port (pusher number pushed gone bound) other (note taken) (pusher number pushed (count number taken) bound) nobody
informs port number pushed gone bound other taken items views h at apart there =
    let both : Hand = pusher number pushed (count number taken) bound in
    let F : ℕ → Hand → Type 0 = Fits h.bound h.updater_at h.made h.session_at h.taken items in
    let mine = (h.fits port (pusher number pushed gone bound) at).pushes refl in
    let word = ⊎_elim (λ (x : (other ≡ port) × (both ≡ note taken)). absurd (apart x.0)) (λ (x : (other ≢ port) × (get_elem? views other ≡ some (note taken))). (h.fits other (note taken) x.1).notes refl number) (at_set views port other both (note taken) there) in record {
      bound = h.bound;
      updater_at = h.updater_at;
      made = h.made;
      session_at = h.session_at;
      taken = h.taken;
      few = h.few;
      one_waits = h.one_waits;
      none_else = h.none_else;
      fits = at_set_all F (set views port both) other nobody (record { takes = λ t. absurd (off t); pushes = λ t. absurd (off t); notes = λ t. absurd (off t) })
          (λ j u _ e. at_set_all F views port both (record { takes = λ t. absurd (off t); pushes = λ _. (mine.0, mine.1, mine.2, word, mine.4); notes = λ t. absurd (off t) }) (λ i y _ z. h.fits i y z) j u e);
    }
