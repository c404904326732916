use Rattle.std.proofs.lemmas.Grind.{common_steps}
use Rattle.std.proofs.lemmas.Int.{ints}
use Rattle.std.proofs.Common.{arith, refl, ap, ◌∙◌, rules}
use Rattle.words.specs.Words.{bits_temperature}
use Rattle.words.specs.Layouts.{reading_bytes, bits_read, no_reading_fault}
use Rattle.words.proofs.Made.{read_made}
use Rattle.words.proofs.items.ReadingKind.read.Goals as goal
use Rattle.words.proofs.items.ReadingKind.read.Goals.{in_default-via-in-16+in_default, in_default-via-in_default}

pub returns-in_default : goal.returns-in_default
returns-in_default c = (refl, λ x h. let b = reading_bytes x c.args.w h in elim c.in_default.branch [ in_default-via-in-16+in_default w ↦ search rules | in_default-via-in_default w ↦ search rules ])

pub returns : goal.returns
returns c =
    read_made c.new.result c.map_err.result c.new.ensures c.map_err.ensures.cases (λ x m. grind (arith, ints, common_steps)) (λ f g r t. (
      search rules,
      λ x h.
          let b = reading_bytes x c.args.w h in
          no_reading_fault x _ _ _ _ _ (search rules) (search rules) (search rules)
          (c.tenths_of-tenths.ensures ∙ (ap bits_temperature (search rules) ∙ bits_read x.tenths x.measured))
          r,
    ))
