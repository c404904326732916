-- Items of every kind and their words.
use Rattle.std.specs.Prelude.{◌≡◌, ℕ, ◌≢◌}
use Rattle.words.specs.Words.{edit_word, reading_word, ring_word}
use Rattle.items.specs.declared.kinds.Item.{Item}
use Rattle.items.specs.declared.kinds.Item.TheVariants as item
use Rattle.items.specs.declared.kinds.KindName.{KindName}
use Rattle.items.specs.declared.kinds.KindName.TheVariants as kind

abbrev pub item_word : Item → ℕ
item_word (item.Edit e) = edit_word e
item_word (item.Reading r) = reading_word r
item_word (item.Ring n) = ring_word n

abbrev pub kind_of : Item → KindName
kind_of (item.Edit e) = kind.Edit
kind_of (item.Reading r) = kind.Reading
kind_of (item.Ring n) = kind.Ring

-- no item of this kind has this word
abbrev pub NoItemOf : KindName → ℕ → Type 0
NoItemOf k w = (i : Item) → kind_of i ≡ k → item_word i ≢ w
