-- What counts as a word in text, and how a kind is named there.
use Rattle.std.specs.Prelude.{◌≡◌, ℕ, List, length, codes}
use Rattle.std.specs.Str.Parse.{AllDigits}
use Rattle.items.specs.declared.kinds.KindName.{KindName}
use Rattle.items.specs.declared.kinds.KindName.TheVariants.{Edit, Reading, Ring}

-- 16 hexadecimal digits
abbrev pub WordText : List ℕ → Type 0
WordText text = (length text ≡ 16) × AllDigits 16 text

abbrev pub kind_text : KindName → List ℕ
kind_text Edit = codes "edit"
kind_text Reading = codes "reading"
kind_text Ring = codes "ring"
