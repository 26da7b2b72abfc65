-- How the file of an epoch is named.
use Rattle.std.specs.Prelude.{◌≡◌, ℕ, List, ◌++◌, length, codes, Some}
use Rattle.decimals.specs.Number.{number}

-- the largest number of an epoch, which has ten digits
abbrev pub last_epoch : ℕ
last_epoch = 9999999999

-- the name is ten digits, which write the epoch's number, and `.dump`
pub record Names (name : List ℕ) (epoch : ℕ) : Type 0 where
  pub digits : List ℕ
  pub ten : length digits ≡ 10
  pub number_is : number digits ≡ Some epoch
  pub name_is : name ≡ digits ++ codes ".dump"
