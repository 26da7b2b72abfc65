-- What becomes of local documents with one write.
use Rattle.std.specs.Prelude.{◌≡◌, ◌≢◌, ℕ, Option, Some, None, Result, Ok, Err, refl}
use Rattle.std.proofs.Common.{rules, ap, ◌∙◌}
use Rattle.model.specs.Map.{get, same_key_itself}
use Rattle.model.specs.Body.{Body}
use Rattle.model.specs.Command.{Id, names, Refusal, IsCounter}
use Rattle.model.specs.Local.{store_local}
use Rattle.model.specs.Database.{Database, put_local_reply, after_put_local}
use Rattle.model.proofs.LookupLaws.{apart, get-put_same, get-put_other, get-without_same, get-without_other}

module _ (d : Database) (id : Id) (named : Option ℕ) where
  pub IsCounter-next : (b : Body) (k : ℕ) → put_local_reply d id named (Some b) ≡ Ok k → IsCounter k
  IsCounter-next b k e = search rules

  pub local-there : (b : Body) (k : ℕ) → put_local_reply d id named (Some b) ≡ Ok k → get (after_put_local d id named (Some b)).locals id ≡ Some (record { counter = k; body = b })
  local-there b k e = ap (λ r. get (store_local d.locals id (Some b) r) id) e ∙ get-put_same d.locals id (record { counter = k; body = b }) id (same_key_itself names id)

  pub local-gone : (k : ℕ) → put_local_reply d id named None ≡ Ok k → get (after_put_local d id named None).locals id ≡ None
  local-gone k e = ap (λ r. get (store_local d.locals id None r) id) e ∙ get-without_same d.locals id id (same_key_itself names id)

  pub local-others : (body : Option Body) (other : Id) → other ≢ id → get (after_put_local d id named body).locals other ≡ get d.locals other
  local-others body other ne = at body (put_local_reply d id named body)
    where
      at : (body : Option Body) (r : Result ℕ Refusal) → get (store_local d.locals id body r) other ≡ get d.locals other
      at body (Err e) = refl
      at None (Ok k) = get-without_other d.locals id other (apart d.locals id other ne)
      at (Some b) (Ok k) = get-put_other d.locals id (record { counter = k; body = b }) other (apart d.locals id other ne)
