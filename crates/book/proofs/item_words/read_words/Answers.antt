use Rattle.std.proofs.Common.{ℕ, ◌/◌, List, [], length, get_or, ap, ◌∙◌, refl, arith}
use Rattle.book.proofs.Copying.{chunk_at, word_there, copied_more}
use Rattle.book.proofs.item_words.read_words.Goals as goal

pub loop-i-preserved : goal.loop-i-preserved
loop-i-preserved c =
    let part = c.args.part.now in
    let i = c.loop-i.i in
    let e = ap (λ (x : List (List ℕ)). get_or x i []) c.as_chunks.ensures.front ∙ chunk_at (length part / 8) i part [] (omega (arith, c.as_chunks.ensures.front_len)) in
    copied_more c.loop-i.place _ part i _ c.loop-i.invariant (omega arith) (word_there part i _ (get_or c.as_chunks.result.0.now i []) e c.from_le_bytes.ensures) refl
