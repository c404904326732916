use Rattle.std.proofs.lemmas.Grind.{common_steps}
use Rattle.std.proofs.lemmas.Int.{ints}
use Rattle.std.proofs.Common.{arith, rules}
use Rattle.words.specs.Layouts.{edit_bytes, no_edit_fault, same_setting}
use Rattle.words.proofs.Made.{read_made}
use Rattle.words.proofs.items.EditKind.read.Goals as goal

pub returns : goal.returns
returns c =
    read_made c.new.result c.map_err.result c.new.ensures c.map_err.ensures.cases (λ x m. grind (arith, ints, common_steps)) (λ f g r t. (
      search rules,
      λ x h.
          let b = edit_bytes x c.args.w h in
          no_edit_fault x _ _ _ _ _
          (same_setting _ _ (search rules)) (search rules) (search rules) (search rules)
          r,
    ))
