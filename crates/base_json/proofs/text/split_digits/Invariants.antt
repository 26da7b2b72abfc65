-- So far each byte is one of the digits.
use Rattle.std.proofs.Common.{◌≡◌, ◌≤◌, ◌++◌, List, ℕ, length, true}
use Rattle.std.specs.Char.{is_ascii_digit}
use Rattle.std.specs.List.{list_all}
use Rattle.base_json.specs.Pieces.{begins_no_digit}
use Rattle.base_json.proofs.text.split_digits.Given as goal

abbrev pub invariant-loop-at : goal.invariant-loop-at
invariant-loop-at l = (digits rest : List ℕ) → list_all is_ascii_digit digits ≡ true → begins_no_digit rest ≡ true → l.text ≡ digits ++ rest → l.at ≤ length digits
