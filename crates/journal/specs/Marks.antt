-- What a mark says, and what a start makes of it.
use Rattle.std.specs.Prelude.{◌≡◌, ℕ, Bool, true, false, List, ◌++◌, length, codes, Option, Some, None, ◌&&◌, not, bytes_eq, nat_eq, nat_lt, replicate, if◌then◌else◌}
use Rattle.decimals.specs.Number.{number}
use Rattle.hex.specs.Hex.{encode_lower}
use Rattle.md5.specs.Md5.{md5}
use Rattle.journal.specs.declared.boot.BootId.{BootId}
use Rattle.journal.specs.declared.mark.Mark.{Mark}
use Rattle.journal.specs.declared.restored.Raise.{Raise}
use Rattle.journal.specs.declared.restored.Raise.TheVariants.{Never, IfTorn, BehindEntries, Always}

-- what says whether all that is shown is kept, or only appended
abbrev pub word_of : Bool → List ℕ
word_of true = codes " kept "
word_of false = codes " seen "

-- ten digits of one number, a space, and 18 of the other
pub record AreNumbers (text : List ℕ) (epoch synced : ℕ) : Type 0 where
  pub epoch_digits : List ℕ
  pub synced_digits : List ℕ
  pub ten : length epoch_digits ≡ 10
  pub eighteen : length synced_digits ≡ 18
  pub epoch_is : number epoch_digits ≡ Some epoch
  pub synced_is : number synced_digits ≡ Some synced
  pub text_is : text ≡ epoch_digits ++ (codes " " ++ synced_digits)

-- the text in front of the digest has the numbers of the epoch and of how many bytes are synced, the word, and the id of the system
-- that runs
pub record IsFront (text : List ℕ) (mark : Mark) : Type 0 where
  pub digits : List ℕ
  pub numbers : AreNumbers digits mark.epoch mark.synced
  pub boot_len : length mark.boot.text ≡ 36
  pub text_is : text ≡ digits ++ (word_of mark.shows_kept ++ mark.boot.text)

-- a space, the MD5 of what is before in hex, and a line feed
abbrev pub seal_of : List ℕ → List ℕ
seal_of front = codes " " ++ (encode_lower (md5 front) ++ codes "\n")

-- the text of a mark
pub record IsMark (text : List ℕ) (mark : Mark) : Type 0 where
  pub front : List ℕ
  pub front_is : IsFront front mark
  pub text_is : text ≡ front ++ seal_of front

-- the mark, where it is of this epoch
abbrev pub mark_for : Option Mark → ℕ → Option Mark
mark_for None epoch = None
mark_for (Some mark) epoch = if nat_eq mark.epoch epoch then Some mark else None

-- an epoch above this one, of which the mark is
abbrev pub ahead_of : Option Mark → ℕ → Option ℕ
ahead_of None epoch = None
ahead_of (Some mark) epoch = if nat_lt epoch mark.epoch then Some mark.epoch else None

-- how many bytes of a file a mark says are synced
abbrev pub synced_by : Option Mark → ℕ
synced_by None = 0
synced_by (Some mark) = mark.synced

-- the ids are of one run of the system, where one is known
abbrev pub is_same_run : List ℕ → List ℕ → Bool
is_same_run one other = bytes_eq one other && not (bytes_eq one (replicate 36 45))

-- Whether the numbers of a next epoch are raised over a file of this length, in this run of the system. They aren't where all that
-- was shown is kept; where it was appended, they are if the file doesn't end with a whole line, in the same run, and in another one
-- if it has more than its first line; and they are raised where no mark is found, or bytes lack that it says are synced.
abbrev pub raise_by : Option Mark → BootId → ℕ → Raise
raise_by None boot len = Always
raise_by (Some mark) boot len =
    if nat_lt len mark.synced then Always else
    (if mark.shows_kept then Never else (if is_same_run mark.boot.text boot.text then IfTorn else BehindEntries))
