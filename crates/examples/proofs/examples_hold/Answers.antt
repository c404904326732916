use Rattle.std.proofs.Common.{refl, ap, arith, rules}
use Rattle.std.proofs.lemmas.Int.{ints}
use Rattle.words.specs.declared.settings.Setting.TheVariants.{TopHeat}
use Rattle.words.specs.Settings.{code}
use Rattle.words.specs.Words.{temperature_bits}
use Rattle.memory.proofs.Picks.{loose_picks}
use Rattle.examples.proofs.HandOver.{loose_hand_over}
use Rattle.examples.proofs.examples_hold.Goals as goal

pub returns : goal.returns
returns c = record {
  heat_250_word = λ e h. let k = ap code h.0 in omega (arith, k);
  heat_350_is_good =
      (record { setting = TopHeat; deck = 1; stage = 1; value = 350; in_range = search rules }, (refl, refl, refl, refl));
  heat_351_is_refused = search rules;
  deck_12_is_good =
      (record { setting = TopHeat; deck = 12; stage = 1; value = 250; in_range = search rules }, (refl, refl, refl, refl));
  deck_13_is_refused = search rules;
  out_of_range_is_refusal_1 = (refl, refl);
  cold_word = λ r h. let k = ap temperature_bits h.3 in omega (arith, k);
  open_probe_word = λ r h. let k = ap temperature_bits h.3 in omega (arith, k);
  bare_is_no_edit = λ e h. omega (arith, ints);
  bare_is_no_reading = λ r h. omega (arith, ints);
  bare_is_no_ring = λ n h. omega arith;
  loose_picks = loose_picks;
  two_rings_of_one_need_7_words = refl;
  eight_rings_of_64_need_529_words = refl;
  one_ring_is_refused = λ N h. omega (arith, h.0);
  nine_rings_are_refused = λ N h. omega (arith, h.1);
  rings_out_of_range_is_refusal_3 = refl;
  loose_hand_over = loose_hand_over;
}
