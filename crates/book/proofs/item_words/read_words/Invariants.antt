use Rattle.std.proofs.Common.{◌≡◌, take}
use Rattle.book.specs.ItemWords.{first_words}
use Rattle.book.proofs.item_words.read_words.Given as goal

abbrev pub invariant-loop-i : goal.invariant-loop-i
invariant-loop-i l = take l.i l.place ≡ first_words l.i l.part
