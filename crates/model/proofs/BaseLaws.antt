-- What a history can begin from.
use Rattle.std.specs.Prelude.{◌≤◌, refl}
use Rattle.std.proofs.Common.{arith}
use Rattle.std.proofs.lemmas.Option.{none-some}
use Rattle.std.proofs.lemmas.List.Elements.{All-nil}
use Rattle.model.specs.PurgeLog.{IsPurgeInfo}
use Rattle.model.specs.Database.{Database, IsDatabase, empty_database}
use Rattle.model.specs.History.{IsBase, largest_base, successor}

IsDatabase-empty : IsDatabase empty_database
IsDatabase-empty = record {
  docs = λ id r e. absurd (none-some r e);
  numbered = record { within = λ id r e. absurd (none-some r e); distinct = λ a b r s e f same. absurd (none-some r e) };
  locals = λ id l e. absurd (none-some l e);
  log = record { limit = (omega arith, omega arith); numbered = tt; infos = All-nil IsPurgeInfo; room = omega arith; newest = λ h. absurd (omega (arith, h)) };
  revs_limit = (omega arith, omega arith);
}

pub IsBase-empty : IsBase empty_database
IsBase-empty = record { database = IsDatabase-empty; uncalled = refl; updates = omega arith; purges = omega arith }

pub IsBase-successor : (d : Database) → IsDatabase d → d.update_seq ≤ largest_base → d.purges.purge_seq ≤ largest_base → IsBase (successor d)
IsBase-successor d h updates purges = record {
  database = record { docs = h.docs; numbered = record { within = h.numbered.within; distinct = h.numbered.distinct }; locals = h.locals; log = h.log; revs_limit = h.revs_limit };
  uncalled = refl;
  updates = updates;
  purges = purges;
}
