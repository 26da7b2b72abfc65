-- Two puts into a map of views.
use Rattle.std.specs.Prelude.{◌≡◌, ℕ, Bool, true, false, cond, Some}
use Rattle.std.proofs.Common.{sym, ap, ◌∙◌}
use Rattle.std.proofs.lemmas.Bool.{cond-true, cond-false}
use Rattle.model.specs.Map.{Map, get, put, get-put, same_key-equal, same_map}
use Rattle.model.specs.Command.{numbers}
use Rattle.model.specs.World.{View, place_in, viewing}
use Rattle.model.proofs.ListLaws.{by_cases}
use Rattle.model.proofs.JobLaws.{same-apart}
use Rattle.model.proofs.ViewLaws.{same, place-other}

-- at two keys, in either order
pub put_apart : (m : Map numbers View) (a b : ℕ) (x y : View) → same b a ≡ false → put (put m a x) b y ≡ put (put m b y) a x
put_apart m a b x y other = same_map (put (put m a x) b y) (put (put m b y) a x) (λ q.
    get-put (put m a x) b y q ∙ ap (cond (same q b) (Some y)) (get-put m a x q)
    ∙ swap q
    ∙ sym (get-put (put m b y) a x q ∙ ap (cond (same q a) (Some x)) (get-put m b y q)))
  where
    swap : (q : ℕ) → cond (same q b) (Some y) (cond (same q a) (Some x) (get m q)) ≡ cond (same q a) (Some x) (cond (same q b) (Some y) (get m q))
    swap q = by_cases (same q b)
        (λ t. let f : same q a ≡ false = ap (λ k. same k a) (same_key-equal numbers q b t) ∙ other in
        cond-true _ _ _ t ∙ sym (cond-false _ _ _ f ∙ cond-true _ _ _ t))
        (λ f. cond-false _ _ _ f ∙ sym (ap (cond (same q a) (Some x)) (cond-false _ _ _ f)))

-- the same view at two keys
pub put_alike : (m : Map numbers View) (a b : ℕ) (x : View) → put (put m a x) b x ≡ put (put m b x) a x
put_alike m a b x = by_cases (same b a)
    (λ t. let is = same_key-equal numbers b a t in ap (λ k. put (put m a x) k x) is ∙ ap (λ k. put (put m k x) a x) (sym is))
    (put_apart m a b x x)

-- a session is free or not where it was
abbrev pub freed : Map numbers View → ℕ → Bool → Map numbers View
freed m a free = viewing m a (place_in m a) free

pub freed_alike : (m : Map numbers View) (a b : ℕ) (free : Bool) → freed (freed m a free) b free ≡ freed (freed m b free) a free
freed_alike m a b free = by_cases (same b a)
    (λ t. let is = same_key-equal numbers b a t in ap (λ k. freed (freed m a free) k free) is ∙ ap (λ k. freed (freed m k free) a free) (sym is))
    (λ other.
    ap (λ p. viewing (freed m a free) b p free) (place-other m a (place_in m a) free b other)
    ∙ put_apart m a b _ _ other
    ∙ ap (λ p. viewing (freed m b free) a p free) (sym (place-other m b (place_in m b) free a (same-apart b a other))))
