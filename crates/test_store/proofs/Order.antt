-- Which versions follow which, from step to step.
use Rattle.std.specs.Prelude.{◌≡◌, [], Some}
use Rattle.std.proofs.Common.{ap, sym, subst}
use Rattle.model.specs.History.{Chronicle, Extends, Follows, extends, reopened, now, successor}
use Rattle.model.proofs.HistoryLaws.{Follows-itself, Follows-through}

-- a version follows what it is
pub follows_itself : (later earlier : Chronicle) → earlier ≡ later → Follows later earlier
follows_itself later earlier is = subst (Follows later) (sym is) (Follows-itself later)

-- what was followed stays so
pub follows_kept : (later earlier seen : Chronicle) → seen ≡ earlier → Follows later earlier → Follows later seen
follows_kept later earlier seen is h = subst (Follows later) (sym is) h

-- one epoch goes on
pub follows_on : (later middle earlier : Chronicle) → Extends later middle → Follows middle earlier → Follows later earlier
follows_on later middle earlier more h = Follows-through later middle earlier (extends later middle more) h

-- and the next begins
pub follows_reopened : (later middle earlier : Chronicle) → later ≡ record { base = Some (successor (now middle)); entries = [] } → Follows middle earlier → Follows later earlier
follows_reopened later middle earlier is h = reopened later middle earlier h (ap (λ (c : Chronicle). c.base) is)
