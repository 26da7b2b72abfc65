-- What catching up and the end of a compaction do, by what the code says of them.
use Rattle.std.specs.Prelude.{◌≡◌, ℕ, ◌==◌, ◌<◌, ◌&&◌, Bool, true, false, nat_lt, length, Option, Some, None, option_map, unwrap_or, refl}
use Rattle.std.proofs.Common.{sym, ap, ◌∙◌}
use Rattle.std.proofs.lemmas.Bool.{false_from_ne_true, lt-ltb, ltb-true}
use Rattle.model.specs.PurgeLog.{is_overrun}
use Rattle.model.specs.History.{base_of}
use Rattle.model.specs.Compaction.{touched}
use Rattle.model.specs.World.{OpenCopy, CatchUp, Swap, Abort, database_of}
use Rattle.machine.specs.States.{State, stepped, swapped_in}
use Rattle.machine.proofs.Steps.{catch_up_none, catch_up_left, swap_none, swap_early, swap_overrun, swap_behind, swap_some}

-- whether there is a compaction with no record left to strip
abbrev pub sliced_in : Option OpenCopy → Bool
sliced_in o = unwrap_or (option_map (λ (k : OpenCopy). k.left == 0) o) false

and_false : (b : Bool) → (b && false) ≡ false
and_false true = refl
and_false false = refl

and_both : (a b : Bool) → a ≡ true → b ≡ true → (a && b) ≡ true
and_both a b x y = (λ i. x i && y i)

module _ (s : State) where
  pub catch_up_unsliced : (n : ℕ) → sliced_in s.world.copy ≡ false → stepped s (CatchUp n) ≡ s
  catch_up_unsliced n not_sliced = from s.world.copy refl
    where
      from : (o : Option OpenCopy) → s.world.copy ≡ o → stepped s (CatchUp n) ≡ s
      from None is = catch_up_none s n is
      from (Some k) is = catch_up_left s n k is (sym (ap sliced_in is) ∙ not_sliced)

  pub swap_unsliced : sliced_in s.world.copy ≡ false → stepped s Swap ≡ s
  swap_unsliced not_sliced = from s.world.copy refl
    where
      from : (o : Option OpenCopy) → s.world.copy ≡ o → stepped s Swap ≡ s
      from None is = swap_none s is
      from (Some k) is = swap_early s k is (ap (λ (b : Bool). b && nat_lt (length s.world.history) s.config.max_places) (sym (ap sliced_in is) ∙ not_sliced))

  pub swap_full : nat_lt (length s.world.history) s.config.max_places ≡ false → stepped s Swap ≡ s
  swap_full full = from s.world.copy refl
    where
      from : (o : Option OpenCopy) → s.world.copy ≡ o → stepped s Swap ≡ s
      from None is = swap_none s is
      from (Some k) is = swap_early s k is (ap (λ (b : Bool). (k.left == 0) && b) full ∙ and_false (k.left == 0))

  module _ (k : OpenCopy) (is : s.world.copy ≡ Some k) (sliced : sliced_in s.world.copy ≡ true) (room : nat_lt (length s.world.history) s.config.max_places ≡ true) where
    may : ((k.left == 0) && nat_lt (length s.world.history) s.config.max_places) ≡ true
    may = and_both (k.left == 0) _ (sym (ap sliced_in is) ∙ sliced) room

    pub swap_aborts : is_overrun (database_of (base_of s.base) s.world).purges k.marks.purge ≡ true → stepped s Swap ≡ stepped s Abort
    swap_aborts over = swap_overrun s k is may over

    pub swap_waits : (slack : ℕ) → slack ≡ s.config.slack → (is_overrun (database_of (base_of s.base) s.world).purges k.marks.purge ≡ false) × (slack < length (touched (database_of (base_of s.base) s.world) k.marks)) → stepped s Swap ≡ s
    swap_waits slack own behind = swap_behind s k is may behind.0 (ap (λ n. nat_lt n (length (touched (database_of (base_of s.base) s.world) k.marks))) (sym own) ∙ lt-ltb slack _ behind.1)

    pub swap_ends : (slack : ℕ) → slack ≡ s.config.slack → ((is_overrun (database_of (base_of s.base) s.world).purges k.marks.purge ≡ true) → ⊥) → ((is_overrun (database_of (base_of s.base) s.world).purges k.marks.purge ≡ false) × (slack < length (touched (database_of (base_of s.base) s.world) k.marks)) → ⊥) → stepped s Swap ≡ swapped_in s k.session
    swap_ends slack own not_over not_behind =
        let fresh : is_overrun (database_of (base_of s.base) s.world).purges k.marks.purge ≡ false = false_from_ne_true _ not_over in
        swap_some s k is may fresh
        (ap (λ n. nat_lt n (length (touched (database_of (base_of s.base) s.world) k.marks))) (sym own) ∙ false_from_ne_true _ (λ t. not_behind (fresh, ltb-true slack _ t)))
