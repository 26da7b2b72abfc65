-- What a pass keeps.
use Rattle.std.proofs.Common.{◌≡◌, ℕ, zero, suc, ◌+◌, ◌-◌, ◌<◌, ◌≤◌, List, [], ◌∷◌, ◌++◌, length, get_or, take, drop, map, refl, ap, sym, subst, ◌∙◌, arith, Bool, true, false, cond, length-take, length-drop}
use Rattle.std.specs.Prelude.{All, ◌&&◌, Contains}
use Rattle.std.specs.Prelude.{Result}
use Rattle.std.specs.List.{prefix_len, take_while, list_all, list_any}
use Rattle.std.proofs.Math.Numerals.{one-add}
use Rattle.std.proofs.Math.Seq.{take-add}
use Rattle.std.proofs.lemmas.List.{append-nil, length-append, length-map, length-take-le, take-append-le, take_all, take_more}
use Rattle.std.proofs.lemmas.Grind.{flat_map-append}
use Rattle.std.proofs.lemmas.List.Elements.{All-nil, All-cons, All-append, All-contains}
use Rattle.std.proofs.lemmas.List.Folds.{length-prefix_len}
use Rattle.std.proofs.lemmas.List.Sums.{prefix_len-le-length}
use Rattle.model.specs.Map.{Map, entries, same_key, same_key_itself}
use Rattle.model.specs.Command.{Id, Merge, names}
use Rattle.model.specs.Query.{ChangesPage, Difference}
use Rattle.model.specs.Revision.{Rev}
use Rattle.replicator.specs.declared.ends.Ends.{Ends}
use Rattle.replicator.specs.Due.{AsksNext}
use Rattle.replicator.specs.Learned.{with_opened, with_taken}
use Rattle.replicator.specs.Passing.{IsAnswered, IsPassing, pass_of}
use Rattle.replicator.specs.Readable.{is_of, is_readable_opened, tells_of}
use Rattle.replicator.specs.Stage.{IsCovered, Pass}
use Rattle.replicator.specs.Wanted.{absent_in, given_in, max_revs, next_revs, wanted_in}
use Rattle.replicator.proofs.Covered.{all-left, all-right, lacking_wanted, run-answered}

-- ---- the run of one document's revisions

run-passes : {X : Type 0} (p : X → Bool) (xs : List X) → All (λ x. p x ≡ true) (take_while p xs)
run-passes p [] = All-nil (λ x. p x ≡ true)
run-passes p (x ∷ xs) =
    elim (p x) as (λ b. p x ≡ b → All (λ y. p y ≡ true) (take (cond b (1 + prefix_len p xs) 0) (x ∷ xs))) [
      | true ↦ λ is. rw one-add (All-cons (λ y. p y ≡ true) x (take_while p xs) is (run-passes p xs))
      | false ↦ λ _. All-nil (λ y. p y ≡ true)
    ] refl

take-take : {X : Type 0} (k n : ℕ) (xs : List X) → k ≤ n → take k (take n xs) ≡ take k xs
take-take zero n xs h = refl
take-take (suc k) zero xs h = absurd (omega arith)
take-take (suc k) (suc n) [] h = refl
take-take (suc k) (suc n) (x ∷ xs) h = λ i. x ∷ take-take k n xs (omega arith) i

module _ {X : Type 0} (p : X → Bool) (n : ℕ) (xs : List X) where
  run-length : length (take_while p (take n xs)) ≡ prefix_len p (take n xs)
  run-length = length-prefix_len p (take n xs)

  run-within : length (take_while p (take n xs)) ≤ length (take n xs)
  run-within = let at_most = prefix_len-le-length p (take n xs) in let len = run-length in omega arith

  run-prefix : take (length (take_while p (take n xs))) xs ≡ take_while p (take n xs)
  run-prefix =
      let within = run-within in
      let short = length-take n xs in
      sym (take-take (length (take_while p (take n xs))) n xs (omega arith)) ∙ ap (λ (k : ℕ). take k (take n xs)) run-length

run-some : {X : Type 0} (p : X → Bool) (n : ℕ) (xs : List X) (x : X) → 0 < n → 0 < length xs → x ≡ get_or xs 0 x → p x ≡ true → 0 < length (take_while p (take n xs))
run-some p zero xs x some long is passes = absurd (omega arith)
run-some p (suc n) [] x some long is passes = absurd (omega arith)
run-some p (suc n) (y ∷ xs) x some long is passes =
    let here : p y ≡ true = ap p (sym is) ∙ passes in
    rw (length-prefix_len p (take (suc n) (y ∷ xs)), here) (omega arith)

-- ---- what is asked next

asks-some : (id : Id) (n : ℕ) (rest : List (Id × Rev)) (w : Id × Rev) → 0 < n → 0 < length rest → w ≡ get_or rest 0 w → same_key names w.0 id ≡ true
    → 0 < length (map (λ v. v.1) (take_while (λ v. same_key names v.0 id) (take n rest)))
asks-some id n rest w some long is same =
    let run = run-some (λ (v : Id × Rev). same_key names v.0 id) n rest w some long is same in
    let len = length-map (take_while (λ (v : Id × Rev). same_key names v.0 id) (take n rest)) (λ (v : Id × Rev). v.1) in
    omega arith

asks-few : (id : Id) (n : ℕ) (rest : List (Id × Rev)) → length (map (λ v. v.1) (take_while (λ v. same_key names v.0 id) (take n rest))) ≤ n
asks-few id n rest =
    let run = run-within (λ (v : Id × Rev). same_key names v.0 id) n rest in
    let short = length-take n rest in
    let len = length-map (take_while (λ (v : Id × Rev). same_key names v.0 id) (take n rest)) (λ (v : Id × Rev). v.1) in
    omega arith

-- ---- what is answered then

pub answered-more : (wanted : List (Id × Rev)) (asked : ℕ) (given : List Merge) (absent : List (Id × Rev)) (id : Id) (revs : List Rev) (opened : List (Result Merge Rev)) (n : ℕ)
    → All (IsAnswered given absent) (take asked wanted)
    → revs ≡ map (λ w. w.1) (take_while (λ w. same_key names w.0 id) (take n (drop asked wanted)))
    → is_readable_opened id revs opened ≡ true
    → All (IsAnswered (given ++ given_in opened) (absent ++ absent_in id opened)) (take (asked + length revs) wanted)
answered-more wanted asked given absent id revs opened n before is readable =
    let p = λ (w : Id × Rev). same_key names w.0 id in
    let rest = drop asked wanted in
    let run = take_while p (take n rest) in
    let len : length revs ≡ length run = ap length is ∙ length-map run (λ (w : Id × Rev). w.1) in
    let P = IsAnswered (given ++ given_in opened) (absent ++ absent_in id opened) in
    let told = both-parts (list_all (λ rev. list_any (tells_of rev) opened) revs) (list_all (is_of id) opened) readable in
    let later = all-right given (given_in opened) absent (absent_in id opened) run
    (run-answered run opened id (run-passes p (take n rest)) (subst (λ (rs : List Rev). list_all (λ rev. list_any (tells_of rev) opened) rs ≡ true) is told.0) told.1) in
    let whole : take (asked + length revs) wanted ≡ take asked wanted ++ run =
    take-add asked (length revs) wanted ∙ ap (λ (xs : List (Id × Rev)). take asked wanted ++ xs) (ap (λ (k : ℕ). take k rest) len ∙ run-prefix p n rest) in
    subst (All P) (sym whole) (All-append P (take asked wanted) run (all-left given (given_in opened) absent (absent_in id opened) (take asked wanted) before) later)
  where
    both-parts : (a b : Bool) → (a && b) ≡ true → (a ≡ true) × (b ≡ true)
    both-parts true b e = (refl, e)
    both-parts false b e = absurd (cc)

-- no more is asked for than is wanted
pub asked-within : (wanted : List (Id × Rev)) (asked : ℕ) (id : Id) (revs : List Rev) (n : ℕ) → asked ≤ length wanted
    → revs ≡ map (λ w. w.1) (take_while (λ w. same_key names w.0 id) (take n (drop asked wanted))) → asked + length revs ≤ length wanted
asked-within wanted asked id revs n within is =
    let p = λ (w : Id × Rev). same_key names w.0 id in
    let rest = drop asked wanted in
    let len : length revs ≡ length (take_while p (take n rest)) = ap length is ∙ length-map (take_while p (take n rest)) (λ (w : Id × Rev). w.1) in
    let at_most = run-within p n rest in
    let short = length-take n rest in
    let left = length-drop asked wanted in
    omega arith

pub rest-is : (xs ws : List (Id × Rev)) (k : ℕ) → xs ≡ ws → take (length xs - k) (drop k xs) ≡ drop k ws
rest-is xs ws k is = take_all (length xs - k) (drop k xs) (simp length-drop (omega arith)) ∙ ap (λ (ys : List (Id × Rev)). drop k ys) is

pub asks-next : (self : Pass) (asked : ℕ) (ds : Map names Difference) (wanted : List (Id × Rev)) (id : Id) (revs : List Rev) (w : Id × Rev) → asked ≡ self.asked → ds ≡ self.differences
    → wanted ≡ wanted_in (entries ds) → self.asked < length (wanted_in (entries self.differences)) → w ≡ get_or (drop asked wanted) 0 w → id ≡ w.0
    → revs ≡ next_revs id (drop asked wanted) → AsksNext self id revs
asks-next self asked ds wanted id revs w asked_is ds_is wanted_is left first named is =
    let whole : wanted ≡ wanted_in (entries self.differences) = wanted_is ∙ ap (λ (d : Map names Difference). wanted_in (entries d)) ds_is in
    let longer : asked < length wanted = subst (λ (ws : List (Id × Rev)). asked < length ws) (sym whole) (subst (λ (k : ℕ). k < length (wanted_in (entries self.differences))) (sym asked_is) left) in
    let long : 0 < length (drop asked wanted) = simp length-drop (omega arith) in
    let same : same_key names w.0 id ≡ true = subst (λ (i : Id). same_key names w.0 i ≡ true) (sym named) (same_key_itself names w.0) in
    record {
      some = subst (λ (rs : List Rev). 0 < length rs) (sym is) (asks-some id max_revs (drop asked wanted) w (omega arith) long first same);
      few = subst (λ (rs : List Rev). length rs ≤ max_revs) (sym is) (asks-few id max_revs (drop asked wanted));
      next = is ∙ ap (λ (ws : List (Id × Rev)). next_revs id ws) (ap (λ (k : ℕ). drop k wanted) asked_is ∙ ap (λ (ws : List (Id × Rev)). drop self.asked ws) whole);
    }

pub opened-passing : (self : Pass) (ds : Map names Difference) (wanted : List (Id × Rev)) (asked : ℕ) (given : List Merge) (absent : List (Id × Rev)) (taken : ℕ) (id : Id) (revs : List Rev)
    (opened : List (Result Merge Rev)) (n : ℕ) (given' : List Merge) (absent' : List (Id × Rev)) → asked ≡ self.asked → ds ≡ self.differences
    → IsPassing ds wanted asked given absent taken → AsksNext self id revs → is_readable_opened id revs opened ≡ true → n ≡ length revs
    → given' ≡ given ++ given_in opened → absent' ≡ absent ++ absent_in id opened → IsPassing ds wanted (asked + n) given' absent' taken
opened-passing self ds wanted asked given absent taken id revs opened n given' absent' asked_is ds_is inv asks readable n_is given_is absent_is =
    let whole : wanted ≡ wanted_in (entries self.differences) = inv.wanted_is ∙ ap (λ (d : Map names Difference). wanted_in (entries d)) ds_is in
    let is : revs ≡ next_revs id (drop asked wanted) = asks.next ∙ ap (λ (k : ℕ). next_revs id (drop k (wanted_in (entries self.differences)))) (sym asked_is)
    ∙ ap (λ (ws : List (Id × Rev)). next_revs id (drop asked ws)) (sym whole) in
    let longer : length given' ≡ length given + length (given_in opened) = ap length given_is ∙ length-append given (given_in opened) in
    let within = asked-within wanted asked id revs max_revs inv.asked_within is in
    let now = answered-more wanted asked given absent id revs opened max_revs inv.answered is readable in
    let taken_before = inv.taken_within in
    record {
      wanted_is = inv.wanted_is;
      asked_within = omega arith;
      taken_within = omega arith;
      answered = subst (λ (k : ℕ). All (IsAnswered given' absent') (take (asked + k) wanted)) (sym n_is)
          (subst (λ (gs : List Merge). All (IsAnswered gs absent') (take (asked + length revs) wanted)) (sym given_is)
          (subst (λ (cs : List (Id × Rev)). All (IsAnswered (given ++ given_in opened) cs) (take (asked + length revs) wanted)) (sym absent_is) now));
    }

pub opened-pass : (self : Pass) (ends : Ends) (page : ChangesPage) (ds : Map names Difference) (asked : ℕ) (given : List Merge) (absent : List (Id × Rev)) (taken : ℕ) (marked : Bool) (id : Id) (revs : List Rev)
    (opened : List (Result Merge Rev)) (n : ℕ) (given' : List Merge) (absent' : List (Id × Rev)) → pass_of ends page ds asked given absent taken marked ≡ self → taken ≤ length given → n ≡ length revs
    → given' ≡ given ++ given_in opened → absent' ≡ absent ++ absent_in id opened → pass_of ends page ds (asked + n) given' absent' taken marked ≡ with_opened self id revs opened
opened-pass self ends page ds asked given absent taken marked id revs opened n given' absent' view_is within n_is given_is absent_is =
    subst (λ (s : Pass). pass_of ends page ds (asked + n) given' absent' taken marked ≡ with_opened s id revs opened) view_is
    (subst (λ (k : ℕ). pass_of ends page ds (asked + k) given' absent' taken marked ≡ with_opened (pass_of ends page ds asked given absent taken marked) id revs opened) (sym n_is)
    (subst (λ (gs : List Merge). pass_of ends page ds (asked + length revs) gs absent' taken marked ≡ with_opened (pass_of ends page ds asked given absent taken marked) id revs opened) (sym given_is)
    (subst (λ (cs : List (Id × Rev)). pass_of ends page ds (asked + length revs) (given ++ given_in opened) cs taken marked ≡ with_opened (pass_of ends page ds asked given absent taken marked) id revs opened) (sym absent_is)
    (λ i. record {
      ends = ends;
      page = page;
      differences = ds;
      asked = asked + length revs;
      given = given ++ given_in opened;
      absent = absent ++ absent_in id opened;
      taken = take-append-le taken given (given_in opened) within i;
      marked = marked;
    }))))

pub taken-pass : (self : Pass) (ends : Ends) (page : ChangesPage) (ds : Map names Difference) (asked : ℕ) (given : List Merge) (absent : List (Id × Rev)) (taken : ℕ) (marked : Bool) (n : ℕ)
    → pass_of ends page ds asked given absent taken marked ≡ self → taken ≤ length given
    → pass_of ends page ds asked given absent (taken + n) marked ≡ with_taken self (take n (drop (length self.taken) self.given))
taken-pass self ends page ds asked given absent taken marked n view_is within =
    let parts : take (taken + n) given ≡ take taken given ++ take n (drop (length (take taken given)) given) =
    take-add taken n given ∙ ap (λ (k : ℕ). take taken given ++ take n (drop k given)) (sym (length-take-le taken given within)) in
    subst (λ (s : Pass). pass_of ends page ds asked given absent (taken + n) marked ≡ with_taken s (take n (drop (length s.taken) s.given))) view_is
    (λ i. record { ends = ends; page = page; differences = ds; asked = asked; given = given; absent = absent; taken = parts i; marked = marked })

-- ---- what is covered then

pub all-covered : (p : Pass) (given : List Merge) (wanted : List (Id × Rev)) → wanted ≡ wanted_in (entries p.differences) → p.taken ≡ given
    → All (IsAnswered given p.absent) wanted → IsCovered p
all-covered p given wanted wanted_is taken answered = record {
  rows = λ k d h _ _ j e l lacking.
      let row = get_or p.page.rows k d in
      let rev = get_or row.changes j e in
      let is_wanted : Contains {X = Id × Rev} wanted (row.id, rev) = subst (λ (ws : List (Id × Rev)). Contains {X = Id × Rev} ws (row.id, rev)) (sym wanted_is) (lacking_wanted (entries p.differences) row.id rev lacking) in
      subst (λ (ms : List Merge). IsAnswered ms p.absent (row.id, rev)) (sym taken) (All-contains (IsAnswered given p.absent) wanted (row.id, rev) answered is_wanted);
}

pub all-done : (self : Pass) (ends : Ends) (page : ChangesPage) (ds : Map names Difference) (wanted : List (Id × Rev)) (asked : ℕ) (given : List Merge) (absent : List (Id × Rev)) (taken : ℕ) (marked : Bool)
    → pass_of ends page ds asked given absent taken marked ≡ self → IsPassing ds wanted asked given absent taken → length wanted ≤ asked → length given ≤ taken
    → (self.taken ≡ self.given) × IsCovered self × (marked ≡ self.marked)
all-done self ends page ds wanted asked given absent taken marked view_is inv no_more none_left =
    let whole : take taken given ≡ given = take_all taken given none_left in
    subst (λ (s : Pass). (s.taken ≡ s.given) × IsCovered s × (marked ≡ s.marked)) view_is (
      whole,
      all-covered (pass_of ends page ds asked given absent taken marked) given wanted inv.wanted_is whole
          (subst (λ (ws : List (Id × Rev)). All (IsAnswered given absent) ws) (take_all asked wanted no_more) inv.answered),
      refl,
    )

pub wanted-more : (ds : List (Id × Difference)) (i : ℕ) (e : Id × Difference) → i < length ds → e ≡ get_or ds i e
    → wanted_in (take (i + 1) ds) ≡ wanted_in (take i ds) ++ map (λ rev. (e.0, rev)) e.1.missing
wanted-more ds i e h is =
    ap (λ (xs : List (Id × Difference)). wanted_in xs) (take_more ds i e h)
    ∙ flat_map-append (λ (d : Id × Difference). map (λ (rev : Rev). (d.0, rev)) d.1.missing) (take i ds) (get_or ds i e ∷ [])
    ∙ ap (λ (xs : List (Id × Rev)). wanted_in (take i ds) ++ xs) (append-nil (map (λ (rev : Rev). ((get_or ds i e).0, rev)) (get_or ds i e).1.missing)
    ∙ ap (λ (d : Id × Difference). map (λ (rev : Rev). (d.0, rev)) d.1.missing) (sym is))
