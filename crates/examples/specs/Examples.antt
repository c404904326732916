-- The worked examples, in one statement.
use Rattle.std.specs.Prelude.{◌≡◌, ℕ, pos, negsuc, Some, None, ◌≢◌}
use Rattle.lane.specs.declared.refusals.OpenRefusal.TheVariants.{OutOfRange}
use Rattle.lane.specs.Layout.{Shaped, words_of}
use Rattle.lane.specs.Refusals.{open_number}
use Rattle.memory.specs.Laws.{LoosePicks}
use Rattle.words.specs.declared.edits.Edit.{Edit}
use Rattle.words.specs.declared.faults.ItemFault.TheVariants as fault
use Rattle.words.specs.declared.parts.Part.TheVariants.{Deck, Value}
use Rattle.words.specs.declared.readings.Reading.{Reading}
use Rattle.words.specs.declared.rings.RingNumber.{RingNumber}
use Rattle.words.specs.declared.settings.Setting.TheVariants.{TopHeat}
use Rattle.words.specs.Ranges.{FirstOut, edit_numbers}
use Rattle.words.specs.Refusals.{refusal}
use Rattle.words.specs.Words.{edit_word, reading_word, ring_word}
use Rattle.examples.specs.LooseHandOver.{LooseHandOver}

abbrev TopHeatIs : ℕ → ℕ → ℕ → Edit → Type 0
TopHeatIs deck stage value e =
    (e.setting ≡ TopHeat) × (e.deck ≡ deck) × (e.stage ≡ stage) × (e.value ≡ value)

pub record Examples : Type 0 where
  pub heat_250_word : (e : Edit) → TopHeatIs 1 1 250 e → edit_word e ≡ 0x01010100000000FA
  pub heat_350_is_good : (e : Edit) × TopHeatIs 1 1 350 e
  pub heat_351_is_refused : FirstOut (edit_numbers TopHeat (pos 1) (pos 1) (pos 351)) (fault.OutOfRange (Value TopHeat))
  pub deck_12_is_good : (e : Edit) × TopHeatIs 12 1 250 e
  pub deck_13_is_refused : FirstOut (edit_numbers TopHeat (pos 13) (pos 1) (pos 250)) (fault.OutOfRange Deck)
  pub out_of_range_is_refusal_1 : (refusal (fault.OutOfRange (Value TopHeat)) ≡ 1) × (refusal (fault.OutOfRange Deck) ≡ 1)
  -- -50.0 °C
  pub cold_word :
      (r : Reading) → (r.deck ≡ 1) × (r.probe ≡ 1) × (r.tick ≡ 0) × (r.tenths ≡ Some (negsuc 499)) →
      reading_word r ≡ 0x100101000000FE0C
  pub open_probe_word :
      (r : Reading) → (r.deck ≡ 1) × (r.probe ≡ 1) × (r.tick ≡ 0) × (r.tenths ≡ None) →
      reading_word r ≡ 0x1001010000008000
  pub bare_is_no_edit : (e : Edit) → edit_word e ≢ 0
  pub bare_is_no_reading : (r : Reading) → reading_word r ≢ 0
  pub bare_is_no_ring : (n : RingNumber) → ring_word n ≢ 0
  -- two stores of the loose memory to different addresses: pick 1 lands the younger; with a bar between, the older
  pub loose_picks : LoosePicks
  pub two_rings_of_one_need_7_words : words_of 2 1 ≡ 7
  pub eight_rings_of_64_need_529_words : words_of 8 64 ≡ 529
  pub one_ring_is_refused : (N : ℕ) → Shaped 1 N → ⊥
  pub nine_rings_are_refused : (N : ℕ) → Shaped 9 N → ⊥
  pub rings_out_of_range_is_refusal_3 : open_number OutOfRange ≡ 3
  -- on the loose memory a take is empty while the item's store waits, and gives the item once it has landed
  pub loose_hand_over : LooseHandOver
