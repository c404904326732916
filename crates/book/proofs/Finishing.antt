-- From the run of a book to its outcome.
use Rattle.std.proofs.Common.{◌≡◌, ℕ, zero, suc, ◌/◌, ◌≤◌, List, [], length, take as first, drop, Some, None, Ok, Err, Option, refl, arith}
use Rattle.std.proofs.lemmas.List.{length-take, length_push}
use Rattle.run.specs.declared.faults.RunFault.{RunFault}
use Rattle.run.specs.declared.faults.RunFault.TheVariants.{Opening, Word}
use Rattle.run.specs.declared.faults.Stop.{Stop}
use Rattle.run.specs.declared.records.Record.{Record}
use Rattle.run.specs.declared.tallies.Tally.{Tally}
use Rattle.listing.specs.Bounds.{Early}
use Rattle.book.specs.Layout.{WellLaidOut, layout_of}
use Rattle.book.specs.Faults.{WithinBook, StopsWithinBook}
use Rattle.book.specs.ItemWords.{word_at, first_words}
use Rattle.book.specs.Plans.{Planned}
use Rattle.book.specs.Books.{bytes_of, book_words, book_moves, PlanRun}
use Rattle.book.specs.declared.header.Part.{Part}
use Rattle.book.specs.declared.plans.Plan.{Plan}
use Rattle.book.proofs.Fitting.{StopsBelow, run_fits}

part_short : (p : Part) (book : List ℕ) → length (bytes_of p book) ≤ p.size
part_short p book = omega (arith, length-take p.size (drop p.offset book))

words_few : (book : List ℕ) → WellLaidOut (length book) (layout_of book) → length (bytes_of (layout_of book).words book) / 8 ≤ 8188
words_few book h = omega (arith, part_short (layout_of book).words book)

moves_few : (book : List ℕ) → WellLaidOut (length book) (layout_of book) → length (book_moves book) ≤ 65536
moves_few book h = omega (arith, part_short (layout_of book).moves book)

length_words : (n : ℕ) (part : List ℕ) → length (first_words n part) ≡ n
length_words zero part = refl
length_words (suc n) part = omega (arith, length_push (first_words n part) (word_at part n), length_words n part)

stops_within : (n : ℕ) (o : Option Stop) → n ≤ 65536 → StopsBelow n o → StopsWithinBook o
stops_within n None l h = tt
stops_within n (Some s) l h = omega arith

module _ (book : List ℕ) (p : Plan) where
  pub calls_few : (t : Tally) (log : List Record) → PlanRun book p.settings (Ok t) log → t.calls ≤ 1024
  calls_few t log h = (run_fits p.settings (book_words book) (book_moves book) (Ok t) (first t.calls log) h).0

module _ (book : List ℕ) (p : Plan) (planned : Planned book p) where
  pub stop_within : (t : Tally) (log : List Record) → PlanRun book p.settings (Ok t) log → StopsWithinBook t.stop
  stop_within t log h = stops_within (length (book_moves book)) t.stop (moves_few book planned.laid_out) (run_fits p.settings (book_words book) (book_moves book) (Ok t) (first t.calls log) h).1

  pub fault_within : (f : RunFault) (log : List Record) → PlanRun book p.settings (Err f) log → WithinBook f
  fault_within (Opening e) log h = tt
  fault_within (Word f) log h =
      omega (arith, run_fits p.settings (book_words book) (book_moves book) (Err (Word f)) [] h, length_words (length (bytes_of (layout_of book).words book) / 8) (bytes_of (layout_of book).words book), words_few book planned.laid_out)

  pub early : (t : Tally) (log : List Record) → PlanRun book p.settings (Ok t) log → Early (first t.calls log)
  early t log h = (run_fits p.settings (book_words book) (book_moves book) (Ok t) (first t.calls log) h).2 (moves_few book planned.laid_out)
