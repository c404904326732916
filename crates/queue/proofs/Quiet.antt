-- A memory in which nothing waits.
use Rattle.std.proofs.Common.{◌≡◌, ℕ, [], ap}
use Rattle.memory.specs.declared.Side.{Side}
use Rattle.memory.specs.declared.Side.TheVariants.{Feeder, Drawer}
use Rattle.memory.specs.Meaning.{Meaning, line, words_to}
use Rattle.queue.specs.Waiting.{words, landed_word, view, NothingWaits}

pub nothing_line : (s : Side) (m : Meaning) → NothingWaits m → line s m ≡ []
unfolding NothingWaits
nothing_line Feeder m h = h.0
nothing_line Drawer m h = h.1

pub nothing_words : (s : Side) (a : ℕ) (m : Meaning) → NothingWaits m → words s a m ≡ []
unfolding words
nothing_words s a m h = ap (words_to a) (nothing_line s m h)

pub nothing_view : (m : Meaning) (a : ℕ) → NothingWaits m → view m a ≡ record { word = landed_word a m; feeder = []; drawer = [] }
unfolding view
nothing_view m a h = λ i. record { word = landed_word a m; feeder = nothing_words Feeder a m h i; drawer = nothing_words Drawer a m h i }
