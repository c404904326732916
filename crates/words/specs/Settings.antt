-- The settings of an edit: the code in its word, the name in text, and the unit of its values.
use Rattle.std.specs.Prelude.{ℕ, List, ◌∷◌, codes}
use Rattle.words.specs.declared.settings.Setting.{Setting}
use Rattle.words.specs.declared.settings.Setting.TheVariants.{TopHeat, BottomHeat, Steam, Damper, StageTime}

abbrev pub code : Setting → ℕ
code TopHeat = 1
code BottomHeat = 2
code Steam = 3
code Damper = 4
code StageTime = 5

abbrev pub name : Setting → List ℕ
name TopHeat = codes "top-heat"
name BottomHeat = codes "bottom-heat"
name Steam = codes "steam"
name Damper = codes "damper"
name StageTime = codes "stage-time"

abbrev pub unit : Setting → List ℕ
unit TopHeat = 194 ∷ 176 ∷ codes "C"
unit BottomHeat = 194 ∷ 176 ∷ codes "C"
unit Steam = codes "ms"
unit Damper = codes "%"
unit StageTime = codes "s"
