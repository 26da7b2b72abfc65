-- A command line with its subcommands, and a command with its options.
use Rattle.std.proofs.Common.{◌≡◌}
use Rattle.clap.specs.Words.{App, Rule, with_rule, with_subcommand}

-- with one subcommand more
pub with_one : (bare one first b f : App) → bare ≡ b → first ≡ f → one ≡ with_subcommand bare first.top → one ≡ with_subcommand b f.top
with_one bare one first b f is_bare is_first is_one = cc

-- with two options more
pub with_two : (bare one two : App) (x y x' y' : Rule) → x ≡ x' → y ≡ y' → one ≡ with_rule bare x → two ≡ with_rule one y → two ≡ with_rule (with_rule bare x') y'
with_two bare one two x y x' y' is_x is_y is_one is_two = cc

-- with three options more
pub with_three : (bare one two three : App) (x y z x' y' z' : Rule) → x ≡ x' → y ≡ y' → z ≡ z' → one ≡ with_rule bare x → two ≡ with_rule one y → three ≡ with_rule two z
    → three ≡ with_rule (with_rule (with_rule bare x') y') z'
with_three bare one two three x y z x' y' z' is_x is_y is_z is_one is_two is_three = cc

-- with four options more
pub with_four : (bare one two three four : App) (x y z u x' y' z' u' : Rule) → x ≡ x' → y ≡ y' → z ≡ z' → u ≡ u'
    → one ≡ with_rule bare x → two ≡ with_rule one y → three ≡ with_rule two z → four ≡ with_rule three u
    → four ≡ with_rule (with_rule (with_rule (with_rule bare x') y') z') u'
with_four bare one two three four x y z u x' y' z' u' is_x is_y is_z is_u is_one is_two is_three is_four = cc
