-- Words of items.
use Rattle.std.specs.Prelude.{◌≡◌, ℕ, ◌<◌, List, map, length, take as first, ◌≢◌, slice_index}
use Rattle.words.specs.declared.kinds.Kind as kind
use Rattle.words.specs.declared.faults.ItemFault.TheVariants.{NoItem}
use Rattle.run.specs.declared.faults.WordFault.{WordFault}

module _ {K : Type 0} (κ : kind.Ghosts K) where
  -- these are the words of items
  pub record Spelled (words : List ℕ) : Type 0 where
    pub items : List K
    pub spell : words ≡ map κ.word items

  -- and so none of them is no item's
  abbrev pub AllRead : List ℕ → Type 0
  AllRead words = (n : ℕ) → n < length words → ((i : K) → κ.word i ≢ slice_index words n) → ⊥

  -- the first of the words that is no item's
  pub record FirstOdd (words : List ℕ) (f : WordFault) : Type 0 where
    pub within : f.index < length words
    pub no_item : (i : K) → κ.word i ≢ slice_index words f.index
    pub names : f.fault ≡ NoItem (slice_index words f.index)
    pub before : Spelled (first f.index words)
