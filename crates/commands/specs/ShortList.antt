-- The items of a list, wherever they lie.
use Rattle.std.specs.Prelude.{List}
use Rattle.commands.specs.declared.short_list.Items.{Items}
use Rattle.commands.specs.declared.short_list.Items.TheVariants.{One, Many}

module _ {T : Type 0} where
  abbrev pub items_of : Items T → List T
  items_of (One items) = items
  items_of (Many items) = items.items
