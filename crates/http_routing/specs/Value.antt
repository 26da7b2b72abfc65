-- What the value of a parameter stands for.
use Rattle.std.specs.Prelude.{ℕ, Bool, true, false, List, Option, Some, None, codes, if◌then◌else◌}
use Rattle.std.specs.Str.{bytes_eq}

-- a truth value: `true` or `false`
abbrev pub flag : List ℕ → Option Bool
flag value =
    if bytes_eq value (codes "true") then Some true
    else (if bytes_eq value (codes "false") then Some false else None)
