-- A history follows each that it begins with.
use Rattle.model.specs.History.{Chronicle, Extends, Follows, extends}

pub follows_extended : (later earlier : Chronicle) → Extends later earlier → Follows later earlier
follows_extended later earlier h = extends later earlier h
